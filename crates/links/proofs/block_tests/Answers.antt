-- `links::block_tests` meets its contract: the first of tests 1 to 4 that fails, or none.
use mathlib.Core.Path.{sym, ◌∙◌}
use Rattle.std.proofs.Common.{rules}
use Rattle.refusal.proofs.Laws.{then_stops, then_goes}
use Rattle.links.proofs.Links.{sizes_held}
use Rattle.links.proofs.block_tests.Goals as goal

pub returns-in_err-tests : goal.returns-in_err-tests
returns-in_err-tests c = then_stops _ c.tests.ensures c.in_err-tests.was (search rules)

pub returns-in_err-test : goal.returns-in_err-test
returns-in_err-test c = then_goes c.tests.ensures c.in_ok-tests.was (then_stops _ c.test.ensures c.in_err-test.was (search rules))

pub tests-requires-2 : goal.tests-requires-2
tests-requires-2 c = sizes_held _ _ _ (sym c.tests.ensures ∙ c.in_ok-tests.was)

pub returns : goal.returns
returns c = then_goes c.tests.ensures c.in_ok-tests.was (then_goes c.test.ensures c.in_ok-test.was c.tests-2.ensures)
