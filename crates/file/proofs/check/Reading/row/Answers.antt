-- `row` makes the tests of its fields in their order: the count short or over 256, over W, then the entries.
use Prim.Native.Nat.{ℕ, ◌+◌, ◌*◌}
use mathlib.Core.Path.{sym, ap, ◌∙◌}
use native.Mathlib.Omega.{arith}
use Rattle.std.proofs.Common.{rules}
use Rattle.file.specs.Reader.{bit_behind}
use Rattle.file.proofs.Fields.{row_count, row_left}
use Rattle.file.proofs.Steps.{step_fine, step_refuses, test_stops, test_goes, below, stopped}
use Rattle.file.proofs.check.Reading.row.Goals as goal

pub returns-in_err-count : goal.returns-in_err-count
returns-in_err-count c =
    step_refuses _ (row_count _ _ _ _ _ _ (stopped _ _ c.field_in_four.ensures c.in_err-count.was)) (search rules)

pub returns-in_err-test : goal.returns-in_err-test
returns-in_err-test c =
    let (e, is, most) = below _ _ _ _ c.field_in_four.ensures c.in_ok-count.was in
    step_refuses _ (row_left _ _ _ _ _ _ e is most ∙ test_stops _ c.test.ensures c.in_err-test.was) (search rules)

pub entries-requires : goal.entries-requires
entries-requires c =
    let (e, is, most) = below _ _ _ _ c.field_in_four.ensures c.in_ok-count.was in (omega arith, omega arith)

pub returns-in_err-entries : goal.returns-in_err-entries
returns-in_err-entries c =
    let (e, is, most) = below _ _ _ _ c.field_in_four.ensures c.in_ok-count.was in
    step_refuses _
    (row_left _ _ _ _ _ _ e is most ∙ test_goes _ c.test.ensures c.in_ok-test.was ∙ sym c.entries.ensures ∙ c.in_err-entries.was) (search rules)

pub overflow_mul-result : goal.overflow_mul-result
overflow_mul-result c = omega (arith, (below _ _ _ _ c.field_in_four.ensures c.in_ok-count.was).2)

pub overflow_add-result : goal.overflow_add-result
overflow_add-result c = omega (arith, (below _ _ _ _ c.field_in_four.ensures c.in_ok-count.was).2)

pub returns : goal.returns
unfolding bit_behind
returns c =
    let (e, is, most) = below _ _ _ _ c.field_in_four.ensures c.in_ok-count.was in
    step_fine
    (row_left _ _ _ _ _ _ e is most ∙ test_goes _ c.test.ensures c.in_ok-test.was ∙ sym c.entries.ensures ∙ c.in_ok-entries.was)
    (ap (λ (x : ℕ). c.args.p + 9 + 24 * x) is)
