-- The goals that the search leaves.
use Rattle.std.proofs.Common.{arith, inl, inr}
use Rattle.rows.proofs.WithinLaws.{walk_end, walk_hit, walk_on}
use Rattle.rows.proofs.within.walk.Goals as goal

pub returns-then-turn-limit : goal.returns-then-turn-limit
returns-then-turn-limit c = walk_hit c.loop-i.invariant.2 c.requires.0 c.requires.1 c.requires.2 c.loop-i-test.true c.if-j-b.true c.of-turn.ensures.turn c.if-turn-limit.true

pub loop-i-preserved : goal.loop-i-preserved
loop-i-preserved c = (
  omega arith,
  omega arith,
  walk_on c.loop-i.invariant.2 c.requires.0 c.requires.1 c.requires.2 c.loop-i-test.true c.if-j-b.true c.of-turn.ensures.turn c.if-turn-limit.false,
)

pub returns-else-j-b : goal.returns-else-j-b
returns-else-j-b c = walk_end _ _ _ c.loop-i.i c.loop-i.j c.loop-i.invariant.2 (inr (omega arith))

pub returns-after-loop-i : goal.returns-after-loop-i
returns-after-loop-i c = walk_end _ _ _ c.loop-i.i c.loop-i.j c.loop-i.invariant.2 (inl (omega arith))
