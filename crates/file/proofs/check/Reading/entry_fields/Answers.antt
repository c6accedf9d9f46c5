-- `entry_fields` makes the tests of its two fields in their order: the rank short or k or more, below `low`, then the joins.
use mathlib.Core.Path.{◌∙◌}
use Rattle.std.proofs.Common.{rules}
use Rattle.file.proofs.Fields.{entry_rank, entry_left}
use Rattle.file.proofs.Steps.{step_fine, step_refuses, test_stops, test_goes, went_on, below, stopped}
use Rattle.file.proofs.check.Reading.entry_fields.Goals as goal

pub returns-in_err-rank : goal.returns-in_err-rank
returns-in_err-rank c =
    step_refuses _ (entry_rank _ _ _ _ _ (stopped _ _ c.field.ensures c.in_err-rank.was)) (search rules)

pub returns-in_err-test : goal.returns-in_err-test
returns-in_err-test c =
    let (e, is, low) = below _ _ _ _ c.field.ensures c.in_ok-rank.was in
    step_refuses _ (entry_left _ _ _ _ _ e is low ∙ test_stops _ c.test.ensures c.in_err-test.was) (search rules)

pub returns-in_err-field : goal.returns-in_err-field
returns-in_err-field c =
    let (e, is, low) = below _ _ _ _ c.field.ensures c.in_ok-rank.was in
    step_refuses _
    (entry_left _ _ _ _ _ e is low ∙ test_goes _ c.test.ensures c.in_ok-test.was ∙ stopped _ _ c.field-2.ensures c.in_err-field.was) (search rules)

pub returns : goal.returns
returns c =
    let (e, is, low) = below _ _ _ _ c.field.ensures c.in_ok-rank.was in
    step_fine
    (entry_left _ _ _ _ _ e is low ∙ test_goes _ c.test.ensures c.in_ok-test.was ∙ (went_on _ _ c.field-2.ensures c.in_ok-field.was).0) is
