-- `field` makes the tests of its field in their order: that its bytes are there, that it is below the bound.
use mathlib.Core.Path.{sym, ◌∙◌}
use Rattle.std.proofs.Common.{rules}
use Rattle.file.specs.Reader.{field_test}
use Rattle.file.proofs.Steps.{step_refuses, step_fine, step_stops, field_left, went_on}
use Rattle.file.proofs.step.field.Goals as goal

pub returns-in_err-found : goal.returns-in_err-found
unfolding field_test
returns-in_err-found c = step_refuses _ (step_stops _ _ _ c.value.ensures c.in_err-found.was) (search rules)

pub returns-in_err-test : goal.returns-in_err-test
returns-in_err-test c =
    step_refuses _ (field_left _ _ _ _ c.value.ensures c.in_ok-found.was ∙ sym c.test.ensures ∙ c.in_err-test.was) (search rules)

pub returns : goal.returns
returns c =
    step_fine (field_left _ _ _ _ c.value.ensures c.in_ok-found.was ∙ sym c.test.ensures ∙ c.in_ok-test.was)
    (went_on _ _ c.value.ensures c.in_ok-found.was).1
