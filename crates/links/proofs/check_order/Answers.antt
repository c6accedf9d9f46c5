-- `links::check_order` meets its contract: the first of tests 1, 2 and 5 that fails, or none.
use mathlib.Core.Path.{sym, ◌∙◌}
use Rattle.std.proofs.Common.{rules}
use borrow.Author.Tests.{eqb-true}
use Rattle.basics.proofs.Laws.{read_off}
use Rattle.refusal.specs.Told.{verdict_told}
use Rattle.refusal.proofs.Laws.{test_held, then_stops, then_goes}
use Rattle.refusal.proofs.SizeLaws.{frames_held}
use Rattle.links.specs.Order.{check_order}
use Rattle.links.proofs.check_order.Goals as goal

pub returns-in_err-test : goal.returns-in_err-test
unfolding check_order
returns-in_err-test c = read_off verdict_told
    (then_stops _ (rw c.frames_fit.ensures at c.test.ensures) c.in_err-test.was (search rules))

pub returns-in_err-test-2 : goal.returns-in_err-test-2
unfolding check_order
returns-in_err-test-2 c = read_off verdict_told
    (then_goes (rw c.frames_fit.ensures at c.test.ensures) c.in_ok-test.was
    (then_stops _ c.test-2.ensures c.in_err-test-2.was (search rules)))

pub each_once-requires : goal.each_once-requires
each_once-requires c = (
  (frames_held _ (test_held _ _ _ (sym (rw c.frames_fit.ensures at c.test.ensures) ∙ c.in_ok-test.was))).1,
  eqb-true _ _ (test_held _ _ _ (sym c.test-2.ensures ∙ c.in_ok-test-2.was)),
)

pub returns : goal.returns
unfolding check_order
returns c = read_off verdict_told
    (then_goes (rw c.frames_fit.ensures at c.test.ensures) c.in_ok-test.was
    (then_goes c.test-2.ensures c.in_ok-test-2.was c.each_once.ensures))
