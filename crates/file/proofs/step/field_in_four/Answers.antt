-- `field_in_four` makes the tests of its field in their order: that its bytes are there, that it is below the bound.
use Prim.Native.Nat.{ℕ}
use mathlib.Core.Path.{sym, ap, ◌∙◌}
use Rattle.std.proofs.Common.{rules}
use lib.Dec.{ltb}
use Rattle.refusal.specs.Numbers.{FIELD}
use Rattle.refusal.specs.Tests.{test}
use Rattle.fields.specs.Bits.{byte_len}
use Rattle.file.specs.Reader.{short_test, field_test}
use Rattle.file.proofs.Steps.{step_refuses, step_fine, short_there, test_stops, test_goes}
use Rattle.file.proofs.step.field_in_four.Goals as goal

pub in_four-found-requires : goal.in_four-found-requires
unfolding short_test byte_len
in_four-found-requires c = (c.requires.0, short_there _ _ _ (sym c.test.ensures ∙ c.in_ok-test.was), c.requires.1)

pub returns-in_err-test : goal.returns-in_err-test
unfolding field_test short_test byte_len
returns-in_err-test c = step_refuses _ (test_stops _ c.test.ensures c.in_err-test.was) (search rules)

pub returns-in_err-test-2 : goal.returns-in_err-test-2
unfolding field_test short_test byte_len
returns-in_err-test-2 c =
    step_refuses _
    (test_goes _ c.test.ensures c.in_ok-test.was ∙ ap (λ (x : ℕ). test (ltb x c.args.bound) FIELD c.args.p) (sym c.in_four-found.ensures)
    ∙ sym c.test-2.ensures ∙ c.in_err-test-2.was) (search rules)

pub returns : goal.returns
unfolding field_test short_test byte_len
returns c =
    step_fine
    (test_goes _ c.test.ensures c.in_ok-test.was ∙ ap (λ (x : ℕ). test (ltb x c.args.bound) FIELD c.args.p) (sym c.in_four-found.ensures)
    ∙ sym c.test-2.ensures ∙ c.in_ok-test-2.was)
    c.in_four-found.ensures
