-- `low` is that of entry j, and the entries from it on give what all of them give.
use Prim.Native.Nat.{◌-◌}
use mathlib.Core.Path.{◌≡◌}
use Rattle.file.specs.Reader.{low_at, entries_from}
use Rattle.file.proofs.check.Reading.entries_behind.Given as goal

abbrev pub invariant-loop-j : goal.invariant-loop-j
invariant-loop-j l = record {
  lowest : l.low ≡ low_at l.self.bytes.now l.p l.j;
  left : entries_from l.self.bytes.now l.self.n l.self.k l.p l.j (l.count - l.j) ≡ entries_from l.self.bytes.now l.self.n l.self.k l.p l.initial.i (l.count - l.initial.i);
}
