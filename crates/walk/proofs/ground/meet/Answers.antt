-- The goals that the search leaves.
use mathlib.Core.Path.{refl}
use native.Mathlib.Omega.{arith}
use Rattle.walk.proofs.BfsQueue.{room}
use Rattle.walk.proofs.BfsGrown.{grown_old, grown_new}
use Rattle.walk.proofs.ground.meet.Goals as goal
use Rattle.walk.proofs.ground.meet.Goals.{then-met-v-eq0, else-met-v-eq0}

pub bounds-queue-grown : goal.bounds-queue-grown
bounds-queue-grown c = let line = c.loop-v.invariant.line in
    omega (arith, room line _ (omega (arith, c.requires.low c.loop-v.v-index c.loop-v-test.true)) c.if-met-v-eq0.true, line.long)

pub loop-v-preserved : goal.loop-v-preserved
loop-v-preserved c = let low = c.requires.low c.loop-v.v-index c.loop-v-test.true in
    elim c.if-met-v-eq0.branch [
      | then-met-v-eq0 w ↦ rw (w.met-is, w.queue-is, w.grown-is) (grown_new _ _ c.loop-v.invariant _ refl c.loop-v-test.true low w.if-met-v-eq0.true c.requires.some)
      | else-met-v-eq0 w ↦ rw (w.met-is, w.queue-is, w.grown-is) (grown_old _ _ c.loop-v.invariant _ refl (omega (arith, w.if-met-v-eq0.false)))
    ]
