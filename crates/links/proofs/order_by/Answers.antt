-- `links::order_by` meets its contract: a refusal leaves the room as lent; where the tests are passed it is filled.
use mathlib.Core.Path.{sym, ◌∙◌}
use Rattle.std.proofs.Common.{rules}
use Rattle.links.specs.Order.{degree_tests}
use Rattle.links.proofs.Placing.{degree_passed, tie_refused, tie_filled}
use Rattle.links.proofs.order_by.Goals as goal

pub returns-in_err-block_tests : goal.returns-in_err-block_tests
unfolding degree_tests
returns-in_err-block_tests g c = tie_refused _ _ _ _ _ (sym c.block_tests.ensures ∙ c.in_err-block_tests.was) (search rules)

pub fill-requires : goal.fill-requires
unfolding degree_tests
fill-requires g c = degree_passed _ _ _ _ (sym c.block_tests.ensures ∙ c.in_ok-block_tests.was)

pub returns : goal.returns
unfolding degree_tests
returns g c = tie_filled _ _ _ _ _ _ (sym c.block_tests.ensures ∙ c.in_ok-block_tests.was) c.fill.ensures
