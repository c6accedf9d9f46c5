-- `header` makes the tests of its fields in their order; what it answers is told by the same tests.
use Rattle.std.specs.Prelude.{Err}
use Prim.Native.Nat.{ℕ, ◌+◌}
use mathlib.Core.Path.{◌≡◌, ap, ap₂, ◌∙◌}
use mathlib.Core.List.{List}
use native.Mathlib.Omega.{arith}
use Rattle.std.proofs.Common.{rules}
use Rattle.refusal.specs.Tests.{Refusal}
use Rattle.file.specs.Reader.{frames_of, stop_of, header_test, header_of, opened_told, Opened, indexed}
use Rattle.file.proofs.Heading.{read_said, opened_fine, opened_refused, at_version, at_stop}
use Rattle.file.proofs.Steps.{step_stops, step_goes, test_stops, test_goes, went_on, stopped}
use Rattle.fields.proofs.Bits.{field_lt}
use Rattle.file.proofs.header.Goals as goal

-- a refusal of the tests is what is answered
refuses : (s : List ℕ) {a : Opened} {r : Refusal} → header_test s ≡ Err r → a ≡ Err r
    → record { given : a ≡ header_of s; said : opened_told a ≡ opened_told (header_of s) }
unfolding header_of
refuses s e f = read_said opened_told (opened_refused _ _ e f)

pub returns-in_err-version : goal.returns-in_err-version
unfolding header_test
returns-in_err-version c = refuses _ (step_stops _ _ _ c.value.ensures c.in_err-version.was) (search rules)

pub returns-in_err-test : goal.returns-in_err-test
returns-in_err-test c =
    refuses _ (at_version _ c.value.ensures c.in_ok-version.was ∙ test_stops _ c.test.ensures c.in_err-test.was) (search rules)

pub returns-in_err-n : goal.returns-in_err-n
returns-in_err-n c =
    refuses _
    (at_version _ c.value.ensures c.in_ok-version.was ∙ test_goes _ c.test.ensures c.in_ok-test.was ∙ step_stops _ _ _ c.value-2.ensures c.in_err-n.was)
    (search rules)

pub overflow_add-n : goal.overflow_add-n
overflow_add-n c =
    let (_, frames) = went_on _ _ c.value-2.ensures c.in_ok-n.was in omega (arith, field_lt c.args.bytes.now 4 12)

pub overflow_add-n-2 : goal.overflow_add-n-2
overflow_add-n-2 c =
    let (_, frames) = went_on _ _ c.value-2.ensures c.in_ok-n.was in omega (arith, field_lt c.args.bytes.now 4 12)

pub returns-in_err-k : goal.returns-in_err-k
returns-in_err-k c =
    refuses _
    (at_version _ c.value.ensures c.in_ok-version.was ∙ test_goes _ c.test.ensures c.in_ok-test.was
    ∙ at_stop _ c.value-2.ensures c.in_ok-n.was ∙ step_stops _ _ _ c.field.ensures c.in_err-k.was)
    (search rules)

pub returns-in_err-field : goal.returns-in_err-field
returns-in_err-field c =
    refuses _
    (at_version _ c.value.ensures c.in_ok-version.was ∙ test_goes _ c.test.ensures c.in_ok-test.was
    ∙ at_stop _ c.value-2.ensures c.in_ok-n.was ∙ step_goes _ _ _ c.field.ensures c.in_ok-k.was
    ∙ stopped _ _ c.field-2.ensures c.in_err-field.was)
    (search rules)

pub returns : goal.returns
unfolding frames_of stop_of header_of
returns c =
    let (_, frames) = went_on _ _ c.value-2.ensures c.in_ok-n.was in
    let (_, stop) = went_on _ _ c.field.ensures c.in_ok-k.was in
    read_said opened_told
    (ap₂ indexed (ap (λ (x : ℕ). x + 1) frames) stop
    ∙ opened_fine _ _
    (at_version _ c.value.ensures c.in_ok-version.was ∙ test_goes _ c.test.ensures c.in_ok-test.was
    ∙ at_stop _ c.value-2.ensures c.in_ok-n.was ∙ step_goes _ _ _ c.field.ensures c.in_ok-k.was
    ∙ (went_on _ _ c.field-2.ensures c.in_ok-field.was).0))
