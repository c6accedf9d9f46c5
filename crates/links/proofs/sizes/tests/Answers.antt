-- `links::sizes::tests` meets its contract: the first of tests 1 and 2 that fails, or none.
use Rattle.std.proofs.Common.{rules}
use mathlib.Core.Path.{sym, ◌∙◌}
use native.Mathlib.Omega.{arith}
use Rattle.basics.proofs.Laws.{both_true}
use Rattle.refusal.proofs.Laws.{test_held, then_stops, then_goes}
use Rattle.refusal.proofs.SizeLaws.{frames_held}
use Rattle.links.specs.Links.{sizes_test}
use Rattle.links.proofs.sizes.tests.Goals as goal

pub returns-in_err-test : goal.returns-in_err-test
unfolding sizes_test
returns-in_err-test c = then_stops _ (rw c.block_fits.ensures at c.test.ensures) c.in_err-test.was (search rules)

pub overflow_add-n : goal.overflow_add-n
overflow_add-n c = omega (arith, frames_held _ (both_true _ _ (test_held _ _ _ (sym (rw c.block_fits.ensures at c.test.ensures) ∙ c.in_ok-test.was))).0)

pub returns : goal.returns
unfolding sizes_test
returns c = then_goes (rw c.block_fits.ensures at c.test.ensures) c.in_ok-test.was c.test-2.ensures
