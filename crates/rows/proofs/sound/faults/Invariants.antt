-- The loop's invariant: the entries before `at` are counted.
use Prim.Native.Nat.{◌-◌}
use mathlib.Core.Path.{◌≡◌}
use Rattle.basics.specs.Places.{count}
use Rattle.rows.specs.Inner.{broken_at}
use Rattle.rows.proofs.sound.faults.Given as goal

abbrev pub invariant-loop-at : goal.invariant-loop-at
invariant-loop-at l = l.found ≡ count (broken_at l.n l.row) (l.at - 1)
