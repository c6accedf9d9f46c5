-- `links::scan::starts_right` meets its contract. The invariant: no start position up to v falls, so that whether one
-- falls is decided from v on. n - v falls.
use Prim.Native.Nat.{◌-◌, ◌≤◌}
use mathlib.Core.Path.{◌≡◌}
use Rattle.basics.specs.Places.{some}
use Rattle.links.specs.Links.{falls}
use Rattle.links.proofs.scan.starts_right.Given as goal

abbrev pub invariant-loop-v : goal.invariant-loop-v
invariant-loop-v l = (l.v ≤ l.n) × (some (falls l.starts) l.v (l.n - l.v) ≡ some (falls l.starts) 0 l.n)
