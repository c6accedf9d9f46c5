-- The goals that the search leaves.
use mathlib.Core.Path.{refl, sym, ◌∙◌}
use Rattle.std.proofs.Common.{rules}
use native.Mathlib.Nat.{sub-zero}
use Rattle.refusal.proofs.Laws.{tests_stop, tests_on, tests_end}
use Rattle.targets.proofs.TestLaws.{row_left}
use Rattle.targets.proofs.tests.check_record_rows.Goals as goal

pub loop-frame-init : goal.loop-frame-init
loop-frame-init c = rw sub-zero refl

pub returns-in_err-check_row : goal.returns-in_err-check_row
returns-in_err-check_row c = let (rooms, frames) = c.requires in
    search rules
    ∙ sym
    (tests_stop _ _ _ c.loop-frame-test.true
    (sym (row_left rooms (frames.low _ c.loop-frame-test.true)) ∙ sym c.check_row.ensures.answer ∙ c.in_err-check_row.was))
    ∙ c.loop-frame.invariant

pub loop-frame-preserved : goal.loop-frame-preserved
loop-frame-preserved c = let (rooms, frames) = c.requires in
    tests_on _ _ _ c.loop-frame-test.true
    (sym (row_left rooms (frames.low _ c.loop-frame-test.true)) ∙ sym c.check_row.ensures.answer ∙ c.in_ok-check_row.was)
    ∙ c.loop-frame.invariant

pub returns : goal.returns
returns c = sym (tests_end _ _ _ c.loop-frame-test.false) ∙ c.loop-frame.invariant
