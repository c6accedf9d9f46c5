-- The test is the definition's.
use Rattle.std.proofs.Common.{arith}
use Rattle.std.proofs.lemmas.Bool.Decides.{nat_tests}
use Rattle.rows.specs.Inner.{lesser_by}
use Rattle.rows.proofs.merge.lesser.Goals as goal

pub returns-then-meeting-least : goal.returns-then-meeting-least
unfolding lesser_by
returns-then-meeting-least c = grind (arith, nat_tests)

pub returns-else-meeting-least : goal.returns-else-meeting-least
unfolding lesser_by
returns-else-meeting-least c = grind (arith, nat_tests)
