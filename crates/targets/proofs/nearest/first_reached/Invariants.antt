-- The loop's invariant: the fewest joins of the records before i, and their first place. A record's row is read as it lies in
-- the label room.
use Rattle.targets.specs.Inner.{reach_to}
use Rattle.targets.proofs.NearestLaws.{Fewest}
use Rattle.targets.proofs.nearest.first_reached.Given as goal

abbrev pub invariant-loop-i : goal.invariant-loop-i
invariant-loop-i l = Fewest (reach_to l.w l.labels l.counts l.frames l.noted) l.fewest l.place l.i
