-- The frames of the list passed so far are met, `Grown`. A turn meets one more: it is met already, or goes behind the queue,
-- which has room since the frame was not in it.
use Rattle.walk.specs.Inner.{Grown}
use Rattle.walk.proofs.ground.meet.Given as goal

abbrev pub invariant-loop-v : goal.invariant-loop-v
invariant-loop-v l = Grown l.list l.v-index l.mark l.initial.met l.initial.queue l.tail l.met l.queue l.grown
