-- The order. The invariant: what is written, followed by the fields of the ranks from here on, is the whole.
use Prim.Native.Nat.{◌-◌}
use lib.ListN.{length, get_or}
use Rattle.fields.specs.Layout.{fields_from, frame_fields, order_fields}
use Rattle.fields.specs.Inner.{Left}
use Rattle.fields.proofs.put.Sheet.put_order.Given as goal

abbrev pub invariant-loop-frame : goal.invariant-loop-frame
invariant-loop-frame l = Left l.initial.self (order_fields l.order) l.self (fields_from (λ r. frame_fields (get_or l.order r 0)) l.frame-index (length l.order - l.frame-index))
