-- The loop of `order`: the fields from rank r on give what all of them give, and the flags have the frames below rank r. A
-- legal field moves both on by one rank.
use Prim.Native.Nat.{◌-◌}
use mathlib.Core.Path.{◌≡◌}
use Rattle.file.specs.Reader.{frame_at, order_from}
use Rattle.links.specs.Inner.{Seen}
use Rattle.file.proofs.check.Reading.order.Given as goal

abbrev pub invariant-loop-r : goal.invariant-loop-r
invariant-loop-r l = record {
  flags : Seen (frame_at l.self.bytes.now) l.seen l.r;
  left : order_from l.self.bytes.now l.self.n l.r (l.self.n - l.r) ≡ order_from l.self.bytes.now l.self.n 0 l.self.n;
}
