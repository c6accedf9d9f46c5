-- The frame at the head is met below level n, so no sum wraps. Dropped or kept, the walk has one frame more done.
use mathlib.Core.Path.{refl}
use native.Mathlib.Omega.{arith}
use Rattle.walk.proofs.BfsLists.{list_low}
use Rattle.walk.proofs.BfsStep.{head_in}
use Rattle.walk.proofs.BfsDropped.{bfs_drop}
use Rattle.walk.proofs.BfsKept.{bfs_keep}
use Rattle.walk.proofs.ground.Ground.step.Goals as goal

pub returns-then-drops : goal.returns-then-drops
returns-then-drops c = bfs_drop c.requires.so_far c.requires.more _ refl c.drops.ensures c.if-drops.true

pub meet-requires : goal.meet-requires
meet-requires c = record {
  low = rw (c.list.ensures, c.requires.so_far.long) (list_low c.requires.given.block (head_in c.requires.so_far c.requires.more));
  some = omega arith;
  line = c.requires.so_far.line;
}

pub returns : goal.returns
returns c = bfs_keep c.requires.so_far c.requires.more _ refl c.drops.ensures c.if-drops.false
    c.requires.given.few c.requires.given.block c.list.ensures c.meet.ensures
