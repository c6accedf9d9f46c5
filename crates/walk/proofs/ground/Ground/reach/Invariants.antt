-- The frames before the head are done, `Bfs`. A turn does one more, and there are at most as many as the block has, so the
-- loop ends; at its end every frame of the queue is done.
use Prim.Native.Nat.{◌-◌}
use Rattle.walk.specs.Ground.{frames, Walking}
use Rattle.walk.proofs.ground.Ground.reach.Given as goal

abbrev pub invariant-loop-head : goal.invariant-loop-head
invariant-loop-head l = Walking l.self l.hub l.met l.queue l.head l.tail

abbrev pub decreases-loop-head : goal.decreases-loop-head
decreases-loop-head l = frames l.self - l.head
