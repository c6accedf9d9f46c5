-- The loop's invariant: the first unsound row from v on is the first of all, and what was found is the largest over the rows before v.
use mathlib.Core.Path.{◌≡◌}
use Rattle.rows.specs.Spread.{farthest}
use Rattle.rows.proofs.RoomLaws.{LowestFrom}
use Rattle.rows.proofs.spread.spread.Given as goal

abbrev pub invariant-loop-v : goal.invariant-loop-v
invariant-loop-v l = LowestFrom l.n l.w l.n l.labels l.counts l.v × (l.found ≡ farthest l.w l.labels l.counts l.v)
