-- A turn either finds a sum within the limit, which is then a meeting's, or goes past the lower rank, or both; at either row's end
-- no meeting is left. What is left of both rows shrinks.
use Prim.Native.Nat.{◌+◌, ◌-◌, ◌≤◌}
use mathlib.Core.Path.{◌≡◌}
use lib.ListN.{length, drop}
use Rattle.rows.specs.Inner.{some_within}
use Rattle.rows.specs.Meetings.{meetings}
use Rattle.rows.proofs.within.walk.Given as goal

abbrev pub invariant-loop-i : goal.invariant-loop-i
invariant-loop-i l = (l.i ≤ length l.a) × (l.j ≤ length l.b) × (some_within l.limit (meetings (drop l.i l.a) (drop l.j l.b)) ≡ some_within l.limit (meetings l.a l.b))

abbrev pub decreases-loop-i : goal.decreases-loop-i
decreases-loop-i l = length l.a - l.i + (length l.b - l.j)
