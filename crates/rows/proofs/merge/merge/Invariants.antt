-- A turn holds the meeting of two entries against the least so far and goes past the lower rank, or both; at either row's
-- end the least is the best of all. What is left of both rows shrinks.
use Prim.Native.Nat.{◌+◌, ◌-◌, ◌≤◌}
use lib.ListN.{length}
use Rattle.rows.proofs.MeetingLaws.{Merged}
use Rattle.rows.proofs.merge.merge.Given as goal

abbrev pub invariant-loop-i : goal.invariant-loop-i
invariant-loop-i l = (l.i ≤ length l.a) × (l.j ≤ length l.b) × Merged l.a l.b l.least l.i l.j

abbrev pub decreases-loop-i : goal.decreases-loop-i
decreases-loop-i l = length l.a - l.i + (length l.b - l.j)
