-- The loop of `rows`: p is the bit of row v, and the places before it hold their rows and counts.
use Prim.Native.Nat.{◌*◌}
use mathlib.Core.Path.{◌≡◌}
use lib.ListN.{length}
use Rattle.file.specs.Reader.{row_bit, label_at, count_at}
use Rattle.file.proofs.Stores.{Before}
use Rattle.file.proofs.store.rows.Given as goal

abbrev pub invariant-loop-v : goal.invariant-loop-v
invariant-loop-v l = record {
  bit : l.p ≡ row_bit l.bytes (length l.initial.counts) l.v;
  labelled : Before (label_at l.bytes (length l.initial.counts) l.w) l.labels (l.v * l.w);
  counted : Before (count_at l.bytes (length l.initial.counts)) l.counts l.v;
}
