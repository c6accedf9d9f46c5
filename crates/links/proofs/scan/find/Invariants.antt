-- `links::scan::find` meets its contract. The invariant: the first place from `at` on is the first place from the start. A
-- place that holds v is it; any other is passed. end - at falls.
use Prim.Native.Nat.{ℕ, ◌-◌, ◌≤◌}
use mathlib.Core.Path.{◌≡◌}
use mathlib.Core.Bool.{Bool}
use lib.ListN.{get_or}
use lib.Dec.{eqb}
use Rattle.basics.specs.Places.{first}
use Rattle.links.proofs.scan.find.Given as goal

abbrev pub invariant-loop-at : goal.invariant-loop-at
invariant-loop-at l = let is : ℕ → Bool = λ i. eqb (get_or l.places i 0) l.v in
    (l.at ≤ l.end) × (first is l.at (l.end - l.at) ≡ first is l.from (l.end - l.from))
