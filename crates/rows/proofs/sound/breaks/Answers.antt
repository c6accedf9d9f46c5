-- The test is the definition's.
use Rattle.std.proofs.Common.{arith}
use Rattle.std.proofs.lemmas.Bool.Decides.{nat_tests}
use Rattle.rows.specs.Inner.{breaks}
use Rattle.rows.proofs.sound.breaks.Goals as goal

pub returns-then-rank_of : goal.returns-then-rank_of
unfolding breaks
returns-then-rank_of c = grind (arith, nat_tests, c.rank_of.ensures, c.rank_of-2.ensures)

pub returns-else-rank_of : goal.returns-else-rank_of
unfolding breaks
returns-else-rank_of c = grind (arith, nat_tests, c.rank_of.ensures, c.rank_of-2.ensures, c.joins_of.ensures)
