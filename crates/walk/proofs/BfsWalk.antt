-- The first half of a walk as a whole: from what it is given to what its parts need, and from what they leave to the met
-- room of the definition. The table of notes is the hub's row while the walk lasts, and as lent again behind it.
use Prim.Native.Nat.{ℕ, ◌≤◌, ◌<◌, min}
use mathlib.Core.Path.{◌≡◌, refl, sym, ap, ◌∙◌}
use mathlib.Core.List.{List}
use native.Mathlib.Omega.{arith}
use lib.ListN.{length, get_or, length-replicate, get_or-replicate}
use lib.Dec.{leb}
use Rattle.theory.specs.Distance.{far}
use Rattle.theory.proofs.Answer.{answer_cap}
use Rattle.theory.proofs.Plain.{far_room}
use Rattle.entry.specs.Entry.{joins_of}
use Rattle.entry.specs.Inner.{RanksIn}
use Rattle.rows.specs.Rooms.{row_at}
use Rattle.rows.specs.Laid.{rows_in}
use Rattle.walk.specs.Walk.{so_far, level_of}
use Rattle.walk.specs.Inner.{met_room, ExploreIn, RowsRise, Bfs, drops, noted_by}
use Rattle.walk.proofs.BfsEnd.{bfs_room}
use Rattle.walk.proofs.DropNotes.{note_long, note_forget, notes_at}
use Rattle.walk.proofs.DropWithin.{Notes, within_answer}
use Rattle.walk.proofs.DropRow.{row_long, row_low, row_noted}

-- no answer is above infinity
pub capped : (n w : ℕ) (labels counts : List ℕ) (hub u : ℕ) → so_far n w labels counts hub u ≤ far 1 n
unfolding so_far
capped n w labels counts hub u = answer_cap _ _ _ _

module _ {n w : ℕ} {S L labels counts : List ℕ} {hub : ℕ} {met queue noted : List ℕ}
    (e : ExploreIn n w S L labels counts hub met queue noted) where
  noted_long : length noted ≡ 4096
  noted_long = ap length e.noted_lacking ∙ length-replicate {A = ℕ} 4096 65536

  rows : RowsRise n w labels counts
  rows = record { long = e.labels_long; rows = e.rows }

  pub notes_long : (T : List ℕ) → length T ≡ length noted → n ≤ length T
  notes_long T long = omega (arith, noted_long, e.frames)

  -- `row` is the part lent for the hub's row, T the table with its notes
  module _ {row : List ℕ} (own : row ≡ row_at w labels counts hub) where
    pub note_in : RanksIn row noted
    note_in = row_noted rows e.hub_in _ (notes_long noted refl) own

    module _ {T : List ℕ} (filled : T ≡ noted_by joins_of row noted) where
      pub long : length T ≡ length noted
      long = ap length filled ∙ note_long joins_of row noted

      pub forget_in : RanksIn row T
      forget_in = row_noted rows e.hub_in _ (notes_long T long) own

      pub notes_back : {T' : List ℕ} → T' ≡ noted_by (λ _. 65536) row T → T' ≡ noted
      notes_back back =
          back
          ∙ ap (noted_by (λ _. 65536) row) (filled ∙ ap (noted_by joins_of row) e.noted_lacking)
          ∙ note_forget row 4096
          ∙ sym e.noted_lacking

      -- the notes are the hub's row
      notes : Notes (far 1 n) n (rows_in w labels counts hub) T
      unfolding far rows_in
      notes r h =
          let there : get_or noted r 0 ≡ 65536 =
          ap (λ (l : List ℕ). get_or l r 0) e.noted_lacking ∙ get_or-replicate 4096 r 65536 0 (omega (arith, e.frames)) in
          let low : far 1 n ≤ 65536 = omega (arith, e.frames) in
          notes_at (far 1 n) (row_at w labels counts hub) noted r low (omega (arith, noted_long, e.frames)) there
          (λ i j p q. e.rows.rising hub i j e.hub_in p (omega (arith, row_long rows e.hub_in)))
          ∙ ap (λ (l : List ℕ). min (far 1 n) (get_or l r 0)) (ap (λ (k : List ℕ). noted_by joins_of k noted) (sym own) ∙ sym filled)

      -- so the drop test is the answer's comparison with the level
      test_is : (u level : ℕ) → u < n → level < n
          → drops w labels counts T u level ≡ leb (so_far n w labels counts hub u) level
      unfolding drops so_far far rows_in
      test_is u level h l =
          within_answer (far 1 n) n (rows_in w labels counts hub) T (row_at w labels counts u) level notes
          (row_low rows h) (omega arith)

      pub room_is : {M Q : List ℕ} {tail : ℕ} → Bfs n S L (drops w labels counts T) hub M Q tail tail
          → M ≡ met_room n w S L labels counts hub
      unfolding met_room level_of
      room_is b =
          bfs_room e.block e.hub_in b (far 1 n) (far_room n) (so_far n w labels counts hub)
          (capped n w labels counts hub) test_is
