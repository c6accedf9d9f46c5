-- `links::scan::tests` meets its contract: the first of tests 3 and 4 that fails, or none.
use mathlib.Core.Path.{sym, ◌∙◌}
use Rattle.std.proofs.Common.{rules}
use Rattle.refusal.proofs.Laws.{test_held, then_stops, then_goes}
use Rattle.links.specs.Links.{starts_test, lists_test}
use Rattle.links.proofs.Links.{starts_kept}
use Rattle.links.proofs.scan.tests.Goals as goal

pub returns-in_err-test : goal.returns-in_err-test
unfolding starts_test
returns-in_err-test c = then_stops _ (rw c.starts_right.ensures at c.test.ensures) c.in_err-test.was (search rules)

pub first_faulty-v-requires : goal.first_faulty-v-requires
first_faulty-v-requires c = starts_kept _ _ _ (test_held _ _ _ (sym (rw c.starts_right.ensures at c.test.ensures) ∙ c.in_ok-test.was)) c.requires

pub returns : goal.returns
unfolding starts_test lists_test
returns c = then_goes (rw c.starts_right.ensures at c.test.ensures) c.in_ok-test.was (rw c.first_faulty-v.ensures at c.test-2.ensures)
