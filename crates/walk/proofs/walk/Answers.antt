-- What the first half leaves is what the second half reads, so the walk is settled by the levels and the rows stored are
-- those after the walk; cleaning along the queue leaves the work rooms 0.
use native.Mathlib.Omega.{arith}
use Rattle.walk.proofs.RoomFrames.{frames_long, listed, queue_back}
use Rattle.walk.proofs.RoomWalk.{met_long, walk_left}
use Rattle.walk.proofs.walk.Goals as goal

pub invariant_of-settle : goal.invariant_of-settle
invariant_of-settle c = record { listed = listed c.explore-tail.ensures.frames }

pub settle-made-requires : goal.settle-made-requires
settle-made-requires c = let long = met_long c.requires.ready c.explore-tail.ensures.levels in
    record {
      few = omega (arith, long, c.requires.ready.frames);
      wide = c.requires.ready.wide;
      width = c.requires.ready.width;
      laid = rw long c.requires.laid;
      low = rw (frames_long c.explore-tail.ensures.frames) c.explore-tail.ensures.low;
    }

pub clean-requires : goal.clean-requires
clean-requires c = listed c.explore-tail.ensures.frames

pub returns : goal.returns
returns c = record {
  walked = walk_left c.requires.ready c.explore-tail.ensures.levels c.args.rank c.settle-made.ensures.value c.settle-made.ensures.laid c.clean.ensures.met_after
      (queue_back c.explore-tail.ensures.frames c.clean.ensures.frames_after);
  notes = c.explore-tail.ensures.notes;
}
