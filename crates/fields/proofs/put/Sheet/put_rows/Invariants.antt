-- The rows. The invariant: what is written, followed by the rows from v on, is the whole; the row of v stands first among
-- them.
use Prim.Native.Nat.{◌-◌}
use Rattle.fields.specs.Layout.{rows_fields}
use Rattle.fields.specs.Inner.{Left}
use Rattle.fields.proofs.put.Sheet.put_rows.Given as goal

abbrev pub invariant-loop-v : goal.invariant-loop-v
invariant-loop-v l = Left l.initial.self (rows_fields l.w l.labels l.counts 0 l.n) l.self (rows_fields l.w l.labels l.counts l.v (l.n - l.v))
