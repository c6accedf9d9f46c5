-- `links::once::each_once` meets its contract. The invariant: the frames seen are those that stand below rank r, and the
-- lowest faulty rank lies from r on. A faulty rank ends the pass; a sound one adds its frame. n - r falls.
use Rattle.links.proofs.Order.{Passed}
use Rattle.links.proofs.once.each_once.Given as goal

abbrev pub invariant-loop-r : goal.invariant-loop-r
invariant-loop-r l = Passed l.n l.order l.seen l.r
