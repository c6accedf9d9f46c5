-- The laws of rows in a label room, and of sound rows.
use Prim.Native.Nat.{ℕ, suc, ◌+◌, ◌-◌, ◌*◌, ◌/◌, ◌%◌, ◌≤◌, ◌<◌}
use mathlib.Core.Path.{◌≡◌, refl, ap₂, ◌∙◌}
use mathlib.Core.Bool.{true, false, not, ◌&&◌, ◌||◌}
use mathlib.Core.List.{List}
use native.Mathlib.Nat.{suc-mul, mul-le-mul_right, add-sub_cancel, add-sub_cancel_left}
use native.Mathlib.Omega.{arith}
use borrow.Author.Tests.{ltb-true, leb-true, leb-false, lt-ltb, le-leb, lt-leb, le-ltb, not-true}
use lib.ListN.{length, get_or, take, drop, length-drop}
use lib.Seq.{get_or-take, get_or-drop, length-take-le}
use lib.Arith.{digits_div, digits_mod}
use lib.Dec.{leb, ltb}
use Rattle.basics.proofs.Laws.{bcase, lt_or_ge, both_true, both, either_false, either_left, either_right, neither, not_of_false, some_not, some_none, get_d_table}
use Rattle.basics.specs.Places.{some, table}
use Rattle.entry.specs.Entry.{rank_of, joins_of}
use Rattle.rows.specs.Rooms.{part, in_room, row_at, faulty_entry, sound_row}

-- ---- rows in the room

-- the used places of a row end before the next row
pub row_inside : {v n c w : ℕ} → v < n → c ≤ w → v * w + c ≤ n * w
row_inside {v} {n} {c} {w} h k = omega (arith, suc-mul v w, mul-le-mul_right w h)

-- place c of row v lies in the label room
pub row_place : {n w v c : ℕ} → v < n → c < w → v * w + c < n * w
row_place {n} {w} {v} {c} h k = omega (arith, row_inside {v = v} {n = n} {c = suc c} {w = w} h k)

-- in a room of so many places
pub row_ends : {places n v c w : ℕ} → places ≡ n * w → v < n → c ≤ w → v * w + c ≤ places
row_ends e h k = omega (arith, e, row_inside h k)

pub in_room_lem : (w : ℕ) (labels : List ℕ) (v count : ℕ) → v < 4096 → w ≤ 256 → v * w + count ≤ length labels
    → in_room w labels v count ≡ true
unfolding in_room
in_room_lem w labels v count h k l = both _ _ (both _ _ (lt-ltb v 4096 h) (le-leb w 256 k)) (le-leb (v * w + count) (length labels) l)

-- what the test shows where it holds
pub room_held : (w : ℕ) (labels : List ℕ) (v count : ℕ) → in_room w labels v count ≡ true
    → (v < 4096) × (w ≤ 256) × (v * w + count ≤ length labels)
unfolding in_room
room_held w labels v count e =
    let p : (ltb v 4096 && leb w 256 ≡ true) × (leb (v * w + count) (length labels) ≡ true) = both_true _ _ e in
    let q : (ltb v 4096 ≡ true) × (leb w 256 ≡ true) = both_true _ _ p.0 in
    (ltb-true v 4096 q.0, leb-true w 256 q.1, leb-true (v * w + count) (length labels) p.1)

pub not_in_room : (w : ℕ) (labels : List ℕ) (v count : ℕ)
    → (v < 4096 → w ≤ 256 → v * w + count ≤ length labels → ⊥) → in_room w labels v count ≡ false
not_in_room w labels v count never =
    bcase (in_room w labels v count)
    (λ t.
    let (h, k, l) = room_held w labels v count t in
    absurd (never h k l))
    (λ f. f)

pub get_d_part : (w : ℕ) (labels : List ℕ) (v count i : ℕ) → i < count → get_or (part w labels v count) i 0 ≡ get_or labels (v * w + i) 0
unfolding part
get_d_part w labels v count i h = get_or-take count (drop (v * w) labels) i 0 h ∙ get_or-drop (v * w) labels i 0

-- entry j of a row in the room
pub entry_at : (w : ℕ) (labels counts : List ℕ) (v j : ℕ) → j < get_or counts v 0
    → get_or (row_at w labels counts v) j 0 ≡ get_or labels (v * w + j) 0
unfolding row_at
entry_at w labels counts v j h = get_d_part w labels v (get_or counts v 0) j h

pub length_part : {n : ℕ} (w : ℕ) (labels : List ℕ) (v count : ℕ) → v < n → count ≤ w → length labels ≡ n * w
    → length (part w labels v count) ≡ count
unfolding part
length_part {n} w labels v count h k e =
    length-take-le count (drop (v * w) labels)
    (simp length-drop (omega (arith, row_ends e h k)))

-- the used part of a row is as long as its count
pub length_used : {n w : ℕ} (labels counts : List ℕ) {v : ℕ} → length labels ≡ n * w → v < n → get_or counts v 0 ≤ w
    → length (row_at w labels counts v) ≡ get_or counts v 0
unfolding row_at
length_used {w = w} labels counts {v} e h k = length_part w labels v (get_or counts v 0) h k e

-- what is cut from a row's start for a count is so many of its entries
pub cut_part : (w : ℕ) (labels : List ℕ) (v count : ℕ)
    → take (v * w + count - v * w) (drop (v * w) labels) ≡ part w labels v count
unfolding part
cut_part w labels v count = rw add-sub_cancel_left refl

-- for its own count it is the used part
pub cut : (w : ℕ) (labels counts : List ℕ) (v : ℕ)
    → take (v * w + get_or counts v 0 - v * w) (drop (v * w) labels) ≡ row_at w labels counts v
unfolding row_at
cut w labels counts v = cut_part w labels v (get_or counts v 0)

-- ---- sound rows

-- what makes the first `count` entries of a list sound: strictly rising ranks below the bound, joins below n
pub record Sound (n bound : ℕ) (row : List ℕ) (count : ℕ) : Type 0 where
  pub rank : (i : ℕ) → i < count → rank_of (get_or row i 0) < bound
  pub joins : (i : ℕ) → i < count → joins_of (get_or row i 0) < n
  pub rising : (i : ℕ) → i + 1 < count → rank_of (get_or row i 0) < rank_of (get_or row (i + 1) 0)

pub faultless : (n bound : ℕ) (row : List ℕ) (i : ℕ) → rank_of (get_or row i 0) < bound → joins_of (get_or row i 0) < n
    → (0 < i → rank_of (get_or row (i - 1) 0) < rank_of (get_or row i 0)) → faulty_entry n bound row i ≡ false
unfolding faulty_entry
faultless n bound row i a b rise =
    neither _ _ (neither _ _ (lt-leb bound _ a) (lt-leb n _ b))
    (lt_or_ge 0 i
    (λ h. rw (lt-ltb 0 i h, lt-leb _ _ (rise h)) refl)
    (λ h. rw (le-ltb 0 i h) refl))

pub faulty_rank_lem : (n bound : ℕ) (row : List ℕ) (i : ℕ) → bound ≤ rank_of (get_or row i 0) → faulty_entry n bound row i ≡ true
unfolding faulty_entry
faulty_rank_lem n bound row i h = either_left _ _ (either_left _ _ (le-leb bound _ h))

pub faulty_joins : (n bound : ℕ) (row : List ℕ) (i : ℕ) → n ≤ joins_of (get_or row i 0) → faulty_entry n bound row i ≡ true
unfolding faulty_entry
faulty_joins n bound row i h = either_left _ _ (either_right (leb bound (rank_of (get_or row i 0))) _ (le-leb n _ h))

pub faulty_rise : (n bound : ℕ) (row : List ℕ) (i : ℕ) → 0 < i → rank_of (get_or row i 0) ≤ rank_of (get_or row (i - 1) 0)
    → faulty_entry n bound row i ≡ true
unfolding faulty_entry
faulty_rise n bound row i p h =
    either_right (leb bound (rank_of (get_or row i 0)) || leb n (joins_of (get_or row i 0))) _ (both _ _ (lt-ltb 0 i p) (le-leb _ _ h))

record Faultless (n bound : ℕ) (row : List ℕ) (i : ℕ) : Type 0 where
  rank : rank_of (get_or row i 0) < bound
  joins : joins_of (get_or row i 0) < n
  rising : 0 < i → rank_of (get_or row (i - 1) 0) < rank_of (get_or row i 0)

faultless_entry : (n bound : ℕ) (row : List ℕ) (i : ℕ) → faulty_entry n bound row i ≡ false → Faultless n bound row i
unfolding faulty_entry
faultless_entry n bound row i e =
    let p : (leb bound (rank_of (get_or row i 0)) || leb n (joins_of (get_or row i 0)) ≡ false)
    × (ltb 0 i && leb (rank_of (get_or row i 0)) (rank_of (get_or row (i - 1) 0)) ≡ false) = either_false _ _ e in
    let q = either_false _ _ p.0 in
    record {
      rank = leb-false _ _ q.0;
      joins = leb-false _ _ q.1;
      rising = λ h. leb-false _ _ (rw (lt-ltb 0 i h) at p.1);
    }

-- under a higher bound it stays so
pub faultless_higher : {bound higher : ℕ} (n : ℕ) (row : List ℕ) (i : ℕ) → bound ≤ higher → faulty_entry n bound row i ≡ false
    → faulty_entry n higher row i ≡ false
faultless_higher {bound} {higher} n row i h e =
    let f : Faultless n bound row i = faultless_entry n bound row i e in
    faultless n higher row i (omega (arith, f.rank)) f.joins f.rising

-- a sound row is one under a higher bound too
pub sound_higher : {bound higher n count : ℕ} {row : List ℕ} → bound ≤ higher → Sound n bound row count → Sound n higher row count
sound_higher h s = record { rank = λ i l. omega (arith, s.rank i l); joins = s.joins; rising = s.rising }

pub sound_of : (n bound : ℕ) (row : List ℕ) (count : ℕ) → some (faulty_entry n bound row) 0 count ≡ false → Sound n bound row count
sound_of n bound row count e =
    let one : (i : ℕ) → i < count → Faultless n bound row i =
    λ i h. faultless_entry n bound row i (some_not (faulty_entry n bound row) 0 count i e (omega arith) (omega arith)) in
    record {
      rank = λ i h. (one i h).rank;
      joins = λ i h. (one i h).joins;
      rising = λ i h. rw add-sub_cancel at ((one (i + 1) h).rising (omega arith));
    }

pub of_sound : (n bound : ℕ) (row : List ℕ) (count : ℕ) → Sound n bound row count → some (faulty_entry n bound row) 0 count ≡ false
of_sound n bound row count s =
    some_none (faulty_entry n bound row) 0 count
    (λ i h k.
    faultless n bound row i (s.rank i (omega arith)) (s.joins i (omega arith))
    (λ p.
    let e : i - 1 + 1 ≡ i = omega arith in
    rw e at (s.rising (i - 1) (omega arith))))

-- a sound row, taken apart and put together
pub row_sound : (n w bound : ℕ) (labels counts : List ℕ) (v : ℕ) → sound_row n w bound labels counts v ≡ true
    → (get_or counts v 0 ≤ w) × Sound n bound (row_at w labels counts v) (get_or counts v 0)
unfolding sound_row
row_sound n w bound labels counts v e =
    let p : (leb (get_or counts v 0) w ≡ true)
    × (not (some (faulty_entry n bound (row_at w labels counts v)) 0 (get_or counts v 0)) ≡ true) = both_true _ _ e in
    (leb-true _ _ p.0, sound_of n bound (row_at w labels counts v) (get_or counts v 0) (not-true _ p.1))

pub sound_row_lem : (n w bound : ℕ) (labels counts : List ℕ) (v : ℕ) → get_or counts v 0 ≤ w
    → Sound n bound (row_at w labels counts v) (get_or counts v 0) → sound_row n w bound labels counts v ≡ true
unfolding sound_row
sound_row_lem n w bound labels counts v h s =
    both _ _ (le-leb _ _ h) (not_of_false (of_sound n bound (row_at w labels counts v) (get_or counts v 0) s))

-- ---- a label room made row by row

-- place i of row v holds that row's cell i
pub part_table : (n w : ℕ) (cell : ℕ → ℕ → ℕ) (v count i : ℕ) → v < n → count ≤ w → i < count
    → get_or (part w (table (n * w) (λ p. cell (p / w) (p % w))) v count) i 0 ≡ cell v i
part_table n w cell v count i h fits low =
    let here : i < w = omega arith in
    get_d_part w _ v count i low ∙ get_d_table (n * w) (λ p. cell (p / w) (p % w)) (v * w + i) 0 (row_place h here)
    ∙ ap₂ cell (digits_div v here) (digits_mod v here)
