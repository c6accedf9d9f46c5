-- The invariant: the two rooms hold the rows after the walk for the frames passed, and those before it for the others. A turn
-- gives one frame its entry; at the end every met frame has had its turn.
use lib.ListN.{length}
use Rattle.rows.specs.Inner.{Laid}
use Rattle.walk.proofs.RoomMarks.{upto}
use Rattle.walk.proofs.settle.Met.store.Given as goal

abbrev pub invariant-loop-v : goal.invariant-loop-v
invariant-loop-v l = Laid (length l.self.marks.now) l.w (upto l.w l.rank l.initial.labels l.initial.counts l.self.marks.now l.self.frames.now l.v-index) l.labels l.counts
