-- Where the test holds the part is the row's own, and where it fails it is empty and lies at the front.
use Prim.Native.Nat.{ℕ, ◌+◌, ◌*◌}
use mathlib.Core.Path.{sym, ap, ◌∙◌}
use Rattle.basics.proofs.Laws.{cond_true, cond_false}
use Rattle.entry.specs.Entry.{entry_bytes}
use Rattle.rows.specs.Rooms.{part_of, part_start}
use Rattle.rows.proofs.Laws.{room_held}
use Rattle.rows.proofs.part.row_part.Goals as goal

pub cut-requires : goal.cut-requires
cut-requires c = (room_held _ _ _ _ (sym c.in_room.ensures ∙ c.if-in_room.true)).2

pub returns-then-in_room : goal.returns-then-in_room
unfolding part_of part_start
returns-then-in_room c = let e = sym c.in_room.ensures ∙ c.if-in_room.true in
    record {
      entries = c.cut.ensures.entries ∙ sym (cond_true _ _ e);
      lies = c.cut.ensures.lies ∙ ap
          (λ (k : ℕ). (c.args.labels.ref_ptr.0, k * entry_bytes + c.args.labels.ref_ptr.1)) (sym (cond_true _ _ e));
    }

pub returns-else-in_room : goal.returns-else-in_room
unfolding part_of part_start
returns-else-in_room c = let e = sym c.in_room.ensures ∙ c.if-in_room.false in
    record {
      entries = sym (cond_false _ _ e);
      lies = ap (λ (k : ℕ).
          (c.args.labels.ref_ptr.0, k * entry_bytes + c.args.labels.ref_ptr.1)) (sym (cond_false _ _ e));
    }
