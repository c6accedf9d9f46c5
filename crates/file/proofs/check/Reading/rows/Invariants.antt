-- The loop of `rows`: p is the bit of row v, and the rows from frame v on give what all of them give. A row that is fine
-- moves on to the bit behind it, which is near enough to count.
use Prim.Native.Nat.{◌-◌}
use mathlib.Core.Path.{◌≡◌}
use Rattle.file.specs.Reader.{row_bit, rows_from}
use Rattle.file.proofs.check.Reading.rows.Given as goal

abbrev pub invariant-loop-v : goal.invariant-loop-v
invariant-loop-v l = record {
  bit : l.p ≡ row_bit l.self.bytes.now l.self.n l.v;
  left : rows_from l.self.bytes.now l.self.n l.self.w l.self.k l.v (l.self.n - l.v) ≡ rows_from l.self.bytes.now l.self.n l.self.w l.self.k 0 l.self.n;
}
