-- The entries of a row. The invariant: what is written, followed by the fields of the entries from here on, is the whole; the
-- next entry's fields stand first among them.
use Prim.Native.Nat.{◌-◌}
use lib.ListN.{length, get_or}
use Rattle.fields.specs.Layout.{fields_from, entry_fields, entries_fields}
use Rattle.fields.specs.Inner.{Left}
use Rattle.fields.proofs.put.Sheet.put_entries.Given as goal

abbrev pub invariant-loop-e : goal.invariant-loop-e
invariant-loop-e l = Left l.initial.self (entries_fields l.row) l.self (fields_from (λ i. entry_fields (get_or l.row i 0)) l.e-index (length l.row - l.e-index))
