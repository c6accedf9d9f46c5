-- The entries passed give no sum of at most the level.
use Prim.Native.Nat.{ℕ, ◌<◌}
use mathlib.Core.Path.{◌≡◌}
use mathlib.Core.Bool.{false}
use lib.ListN.{get_or}
use Rattle.walk.specs.Inner.{entry_within}
use Rattle.walk.proofs.ground.near.Given as goal

abbrev pub invariant-loop-e : goal.invariant-loop-e
invariant-loop-e l = (i : ℕ) → i < l.e-index → entry_within l.noted l.level (get_or l.row i 0) ≡ false
