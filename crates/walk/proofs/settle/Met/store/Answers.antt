-- A turn gives one frame its entry; at the end every met frame has had its turn.
use mathlib.Core.Path.{◌≡◌}
use native.Mathlib.Omega.{arith}
use lib.ListN.{length}
use Rattle.walk.proofs.RoomMarks.{turn_ready, laid_begin, laid_step, laid_end}
use Rattle.walk.proofs.settle.Met.store.Goals as goal

pub loop-v-init : goal.loop-v-init
loop-v-init c = laid_begin c.args.rank c.args.self.now.listed c.requires.0 c.requires.1

pub give-requires : goal.give-requires
give-requires c = turn_ready c.args.rank c.args.self.now.listed c.requires.0 c.requires.1 c.loop-v.v-index c.loop-v-test.true c.loop-v.invariant

pub loop-v-preserved : goal.loop-v-preserved
loop-v-preserved c = laid_step c.args.rank c.args.self.now.listed c.requires.0 c.requires.1 c.loop-v.v-index c.loop-v-test.true c.loop-v.invariant c.give.ensures.labels_after c.give.ensures.counts_after

pub returns : goal.returns
returns c = let end : c.loop-v.v-index ≡ length c.args.self.now.frames.now = omega arith in
    laid_end c.args.rank c.args.self.now.listed c.requires.0 c.requires.1 (rw end at c.loop-v.invariant)
