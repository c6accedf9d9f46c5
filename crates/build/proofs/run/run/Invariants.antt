-- The invariant: the state of a run at the present rank (RunState). A walk that is made takes it to the next rank, one that
-- is not ends it there.
use lib.ListN.{length}
use Rattle.build.proofs.RunState.{Running}
use Rattle.build.proofs.run.run.Given as goal

abbrev pub invariant-loop-rank : goal.invariant-loop-rank
invariant-loop-rank l = Running (length l.initial.counts) l.w l.k l.starts l.places l.order l.rank l.labels l.counts l.met l.queue l.noted
