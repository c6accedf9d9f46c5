-- `links::scan::first_faulty` meets its contract. Inner invariant: whether v's list is faulty is decided from the next link on,
-- and `floor` is the least frame that may stand there. Outer: the lowest faulty frame lies from v on.
use Prim.Native.Nat.{◌+◌}
use mathlib.Core.Path.{◌≡◌}
use Rattle.links.proofs.Lists.{Links, Frames}
use Rattle.links.proofs.scan.first_faulty.Given as goal

abbrev pub invariant-loop-link : goal.invariant-loop-link
invariant-loop-link l = (l.found ≡ l.n) × Links l.n l.starts l.places l.cursors l.v (l.from + l.link-index) l.floor

abbrev pub invariant-frames : goal.invariant-frames
invariant-frames l = (l.found ≡ l.n) × Frames l.n l.starts l.places l.cursors l.v
