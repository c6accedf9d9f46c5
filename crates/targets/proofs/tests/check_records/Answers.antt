-- The goals that the search leaves.
use mathlib.Core.Path.{refl, sym, ◌∙◌}
use Rattle.std.proofs.Common.{rules}
use native.Mathlib.Nat.{sub-zero}
use Rattle.refusal.proofs.Laws.{tests_stop, tests_on, tests_end}
use Rattle.rows.specs.Rooms.{frame_test}
use Rattle.targets.specs.Targets.{records_test}
use Rattle.targets.proofs.tests.check_records.Goals as goal

pub loop-i-init : goal.loop-i-init
unfolding records_test
loop-i-init c = rw sub-zero refl

pub returns-in_err-test : goal.returns-in_err-test
unfolding frame_test
returns-in_err-test c = search rules
    ∙ sym (tests_stop _ _ _ c.loop-i-test.true (sym c.test.ensures ∙ c.in_err-test.was))
    ∙ c.loop-i.invariant

pub loop-i-preserved : goal.loop-i-preserved
unfolding frame_test
loop-i-preserved c = tests_on _ _ _ c.loop-i-test.true (sym c.test.ensures ∙ c.in_ok-test.was) ∙ c.loop-i.invariant

pub returns : goal.returns
returns c = sym (tests_end _ _ _ c.loop-i-test.false) ∙ c.loop-i.invariant
