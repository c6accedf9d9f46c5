-- The least of what was found and what is left of the row is that of the whole row. The loop takes one entry a turn, and ends
-- at the row's end.
use Prim.Native.Nat.{◌≤◌, min}
use mathlib.Core.Path.{◌≡◌}
use lib.ListN.{drop}
use Rattle.targets.specs.Inner.{reach_of}
use Rattle.targets.specs.Targets.{apart}
use Rattle.targets.proofs.by_rank.reach.Given as goal

abbrev pub invariant-loop-e : goal.invariant-loop-e
invariant-loop-e l = (l.found ≤ apart) × (min l.found (reach_of l.noted (drop l.e-index l.row)) ≡ reach_of l.noted l.row)
