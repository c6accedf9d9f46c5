-- The invariant: a frame that stands at no place still to come is 0 in the met room. At the end no place is to come, and a frame
-- that was met stood at one.
use Prim.Native.Nat.{ℕ, ◌≤◌, ◌<◌}
use mathlib.Core.Path.{◌≡◌}
use lib.ListN.{length, get_or}
use Rattle.walk.proofs.settle.clean.Given as goal

abbrev pub invariant-loop-v : goal.invariant-loop-v
invariant-loop-v l = (length l.met ≡ length l.initial.met)
    × ((u : ℕ) → u < length l.initial.met → ((j : ℕ) → l.v-index ≤ j → j < length l.v-items → get_or l.v-items j 0 ≡ u → ⊥) → get_or l.met u 0 ≡ 0)
