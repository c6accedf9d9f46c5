-- A row: the field of its count, then its entries, a part of the label room from v * w on.
use Prim.Native.Nat.{ℕ, ◌+◌, ◌-◌, ◌*◌}
use mathlib.Core.Path.{sym}
use mathlib.Core.List.{List, [], ◌∷◌, append-nil}
use native.Mathlib.Omega.{arith}
use lib.ListN.{get_or, take, drop}
use Rattle.rows.proofs.Laws.{cut}
use Rattle.fields.specs.Bits.{field}
use Rattle.fields.specs.Layout.{row_fields, entries_fields}
use Rattle.fields.specs.Inner.{Ready, Left, Put}
use Rattle.fields.specs.declared.put.Sheet.{Sheet}
use Rattle.fields.proofs.Pen.{left_start, left_step, next_ready, next_step}
use Rattle.fields.proofs.put.Sheet.put_row.Goals as goal

module _ {p : Sheet} (w : ℕ) (labels counts : List ℕ) (v : ℕ) (r : Ready p (row_fields w labels counts v)) where
  abbrev count : ℕ
  count = get_or counts v 0

  begun : Left p (row_fields w labels counts v) p (field count 9 ∷ entries_fields (take (v * w + count - v * w) (drop (v * w) labels)))
  unfolding row_fields
  begun = rw (cut w labels counts v) (left_start r)

  counted : {p1 : Sheet} → Put p (field count 9 ∷ []) p1 →
      Left p (row_fields w labels counts v) p1 (entries_fields (take (v * w + count - v * w) (drop (v * w) labels)))
  counted u = next_step begun u

pub put-requires : goal.put-requires
put-requires c = (next_ready (begun _ _ _ _ c.requires.0), omega arith)

pub put_entries-requires : goal.put_entries-requires
put_entries-requires c = (counted _ _ _ _ c.requires.0 c.put.ensures).ready

pub returns : goal.returns
returns c = left_step (counted _ _ _ _ c.requires.0 c.put.ensures) _ [] (sym (append-nil _)) c.put_entries.ensures
