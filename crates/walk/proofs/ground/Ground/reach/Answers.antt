-- At the start the hub alone is met.
use Rattle.walk.proofs.BfsStart.{bfs_start}
use Rattle.walk.proofs.ground.Ground.reach.Goals as goal

pub loop-head-init : goal.loop-head-init
loop-head-init c = bfs_start _ _ _ _ _ c.requires.hub_in c.requires.met_zero c.requires.queue_zero
