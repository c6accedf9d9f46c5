-- The index that a file gives which is read without refusal: what its rooms hold, place by place, and that it is one that
-- the writer takes.
use Rattle.refusal.specs.Tests.{fine}
use Prim.Native.Nat.{ℕ, suc, ◌+◌, ◌*◌, ◌≤◌, ◌<◌}
use mathlib.Core.Path.{◌≡◌, ap, ap₂, ◌∙◌}
use mathlib.Core.Bool.{Bool, ◌||◌}
use mathlib.Core.List.{List}
use native.Mathlib.Omega.{arith}
use native.Mathlib.Numerals.{add-one}
use lib.ListN.{length, get_or}
use lib.Dec.{leb, eqb}
use borrow.Author.Tests.{not-true}
use Rattle.basics.specs.Places.{stands}
use Rattle.basics.proofs.Laws.{some_ext, length_table, get_d_table}
use Rattle.refusal.specs.Numbers.{ORDER}
use Rattle.refusal.proofs.Laws.{tests_each, none_lowest}
use Rattle.links.specs.Order.{faulty_rank, order_test}
use Rattle.entry.specs.Entry.{rank_of, joins_of}
use Rattle.rows.specs.Inner.{Rooms}
use Rattle.rows.specs.Rooms.{row_at, rows_test}
use Rattle.entry.proofs.Laws.{rank_entry, joins_entry}
use Rattle.rows.proofs.Laws.{Sound, sound_row_lem}
use Rattle.rows.proofs.RoomLaws.{length_row, sound_all}
use Rattle.fields.specs.Bits.{field_at}
use Rattle.file.specs.Reader.{frames_of, stop_of, frame_at, order_field_test, entry_test, low_at, row_bit, count_at, entry_at, label_at, order_read, labels_read, counts_read}
use Rattle.file.specs.Inner.{Fit}
use Rattle.fields.proofs.Bits.{field_lt}
use Rattle.file.proofs.Steps.{field_legal}
use Rattle.file.proofs.Fields.{row_fine}
use Rattle.file.proofs.Heading.{frames_some, frames_most}
use Rattle.file.proofs.Inversion.{entry_next, entry_near}
use Rattle.file.proofs.Stores.{entry_read}
use Rattle.file.proofs.Reader.{Readable, count_fits}

-- the same ranks are faulty where the frames are the same
faulty_same : (n : ℕ) (f g : ℕ → ℕ) (r : ℕ) → ((j : ℕ) → j ≤ r → f j ≡ g j) → faulty_rank n f r ≡ faulty_rank n g r
unfolding faulty_rank stands
faulty_same n f g r same =
    let here : f r ≡ g r = same r (omega arith) in
    ap₂ (λ (a b : Bool). a || b) (ap (leb n) here)
    (some_ext (λ j. eqb (f j) (f r)) (λ j. eqb (g j) (g r)) 0 r (λ j h l. ap₂ eqb (same j (omega arith)) here))

-- ---- the index read

-- its row v, and the count of that row
abbrev pub row_read : List ℕ → ℕ → ℕ → List ℕ
row_read s w v = row_at w (labels_read s (frames_of s) w) (counts_read s (frames_of s)) v

abbrev pub count_read : List ℕ → ℕ → ℕ
count_read s v = get_or (counts_read s (frames_of s)) v 0

module _ {s : List ℕ} {w order labels counts : ℕ} (r : Readable s w order labels counts) where
  -- what the rooms hold, place by place

  pub frame_is : (j : ℕ) → j < frames_of s → get_or (order_read s (frames_of s)) j 0 ≡ frame_at s j
  unfolding order_read
  frame_is j h = get_d_table (frames_of s) (frame_at s) j 0 h

  pub count_is : (v : ℕ) → v < frames_of s → count_read s v ≡ count_at s (frames_of s) v
  unfolding counts_read
  count_is v h = get_d_table (frames_of s) (count_at s (frames_of s)) v 0 h

  rooms : Rooms (frames_of s) w (labels_read s (frames_of s) w) (counts_read s (frames_of s))
  unfolding labels_read counts_read
  rooms =
      record {
        sizes = record { some_frames = frames_some s; frames = frames_most s; some_width = r.some; width = r.wide };
        places = length_table (frames_of s * w) (label_at s (frames_of s) w);
        each = length_table (frames_of s) (count_at s (frames_of s));
      }

  row_fits : (v : ℕ) → v < frames_of s → count_read s v ≤ w
  row_fits v h = omega (arith, count_is v h, count_fits r v h)

  pub row_long : (v : ℕ) → v < frames_of s → length (row_read s w v) ≡ count_read s v
  row_long v h = length_row rooms v h (row_fits v h)

  -- entry i of row v
  entry_is : (v : ℕ) → v < frames_of s → (i : ℕ) → i < count_read s v
      → get_or (row_read s w v) i 0
      ≡ entry_at s (row_bit s (frames_of s) v + 9 + 24 * i)
  unfolding row_at
  entry_is v h i c = entry_read s (frames_of s) w v (count_read s v) i h (row_fits v h) c (count_is v h)

  pub rank_is : (v : ℕ) → v < frames_of s → (i : ℕ) → i < count_read s v
      → rank_of (get_or (row_read s w v) i 0)
      ≡ field_at s (row_bit s (frames_of s) v + 9 + 24 * i) 12
  unfolding entry_at
  rank_is v h i c =
      let p : ℕ = row_bit s (frames_of s) v + 9 + 24 * i in
      ap rank_of (entry_is v h i c) ∙ rank_entry (field_at s p 12) _ (omega (arith, field_lt s p 12))

  pub joins_is : (v : ℕ) → v < frames_of s → (i : ℕ) → i < count_read s v
      → joins_of (get_or (row_read s w v) i 0)
      ≡ field_at s (row_bit s (frames_of s) v + 9 + 24 * i + 12) 12
  unfolding entry_at
  joins_is v h i c =
      let p : ℕ = row_bit s (frames_of s) v + 9 + 24 * i in
      ap joins_of (entry_is v h i c) ∙ joins_entry (field_at s p 12) (field_at s (p + 12) 12) (omega (arith, field_lt s (p + 12) 12))

  -- ---- it is an index that the writer takes

  order_once : order_test (frames_of s) (order_read s (frames_of s)) ≡ fine
  unfolding order_test order_field_test
  order_once =
      let n : ℕ = frames_of s in
      none_lowest _ n ORDER
      (λ j b.
      faulty_same n _ (frame_at s) j (λ i l. frame_is i (omega arith))
      ∙ not-true _ (field_legal s _ 12 _ (tests_each _ n r.ordered j b)))

  entry_fine : (v : ℕ) → v < frames_of s → (i : ℕ) → i < count_read s v
      → entry_test s (frames_of s) (stop_of s) (row_bit s (frames_of s) v + 9 + 24 * i) (low_at s (row_bit s (frames_of s) v + 9) i) ≡ fine
  unfolding count_at
  entry_fine v h i c =
      let n : ℕ = frames_of s in
      tests_each _ _ (row_fine s n w (stop_of s) v (row_bit s n v) (tests_each _ n r.rowed v h)) i (omega (arith, count_is v h))

  row_sound : (v : ℕ) → v < frames_of s
      → Sound (frames_of s) (stop_of s) (row_read s w v)
      (count_read s v)
  unfolding low_at
  row_sound v h =
      let n : ℕ = frames_of s in
      let k : ℕ = stop_of s in
      let p : ℕ = row_bit s n v + 9 in
      record {
        rank = λ i c. omega (arith, rank_is v h i c, (entry_next s n k _ _ (entry_fine v h i c)).1);
        joins = λ i c. omega (arith, joins_is v h i c, entry_near s n k _ _ (entry_fine v h i c));
        rising = λ i c.
            let next : i + 1 ≡ suc i = add-one i in
            omega (
              arith,
              rank_is v h i (omega arith),
              rank_is v h (i + 1) c,
              ap (λ (x : ℕ). field_at s (p + 24 * x) 12) next,
              (entry_next s n k _ _ (entry_fine v h (suc i) (omega arith))).0,
            );
      }

  rows_sound : rows_test (frames_of s) w (stop_of s) (labels_read s (frames_of s) w) (counts_read s (frames_of s)) ≡ fine
  rows_sound = sound_all _ w _ _ _ (λ v h. sound_row_lem _ w _ _ _ v (row_fits v h) (row_sound v h))

  pub read_fit : Fit (frames_of s) w (stop_of s) (order_read s (frames_of s)) (labels_read s (frames_of s) w) (counts_read s (frames_of s))
  unfolding order_read
  read_fit =
      record {
        rooms = rooms;
        stop = r.head.stop;
        long = length_table (frames_of s) (frame_at s);
        once = order_once;
        sound = rows_sound;
      }
