-- The laws of the pair question: its tests one by one, what they let through, and the cases of its answer.
use Rattle.std.specs.Borrow.{Bor}
use Rattle.std.specs.Prelude.{Result, Ok, Err, Some, None}
use Rattle.std.specs.Option.{option_map}
use Rattle.std.specs.Result.{IfOk, result_unwrap_or}
use Prim.Native.Nat.{ℕ, ◌*◌, ◌≤◌, ◌<◌}
use mathlib.Core.Path.{◌≡◌, refl, sym, ap, ◌∙◌}
use mathlib.Core.Bool.{true}
use mathlib.Core.List.{List, []}
use borrow.Author.Tests.{ltb-true, lt-ltb, le-ltb}
use lib.ListN.{length, get_or}
use Rattle.refusal.specs.Numbers.{FRAME, ROW}
use Rattle.refusal.specs.Tests.{◌then◌, refusal, if_fine, Verdict, fine, Refusal}
use Rattle.refusal.proofs.Laws.{test_fine, test_refused, test_held, then_fine, after_fine, after_refused}
use Rattle.rows.specs.Inner.{Rooms, RowLies, Rises, RowOr, RowsOr}
use Rattle.rows.specs.Rooms.{room_tests, frame_test, frame_tests, row_test, row_at, sound_row, check_row}
use Rattle.rows.specs.Lookup.{row_of, row_start}
use Rattle.rows.specs.Meetings.{meeting_of, Best}
use Rattle.rows.specs.declared.merge.Meeting.{Meeting}
use Rattle.rows.specs.Pair.{pair_tests, pair_of, answered}
use Rattle.rows.proofs.Laws.{Sound, row_sound}
use Rattle.rows.proofs.RoomLaws.{row_lies, fine_rooms, length_row, rooms_fine}

-- ---- tests on a frame and on its row

pub frame_fine : {n v : ℕ} (place : ℕ) → v < n → frame_test n v place ≡ fine
unfolding frame_test
frame_fine {n} {v} place h = test_fine FRAME place (lt-ltb v n h)

pub frame_refused : {n v : ℕ} (place : ℕ) → n ≤ v → frame_test n v place ≡ Err (refusal FRAME place)
unfolding frame_test
frame_refused {n} {v} place h = test_refused FRAME place (le-ltb v n h)

pub frame_held : (n v place : ℕ) → frame_test n v place ≡ fine → v < n
unfolding frame_test
frame_held n v place e = ltb-true v n (test_held _ FRAME place e)

pub row_fine : (n w : ℕ) (labels counts : List ℕ) (v : ℕ) → sound_row n w n labels counts v ≡ true
    → row_test n w n labels counts v ≡ fine
unfolding row_test
row_fine n w labels counts v e = test_fine ROW v e

pub row_held : (n w : ℕ) (labels counts : List ℕ) (v : ℕ) → row_test n w n labels counts v ≡ fine
    → sound_row n w n labels counts v ≡ true
unfolding row_test
row_held n w labels counts v e = test_held _ ROW v e

-- ---- the tests of the row check and of the pair question

-- what they let through
pub record Asked (n w : ℕ) (labels counts : List ℕ) (s t : ℕ) : Type 0 where
  pub rooms : Rooms n w labels counts
  pub first : s < n
  pub second : t < n
  pub first_sound : sound_row n w n labels counts s ≡ true
  pub second_sound : sound_row n w n labels counts t ≡ true

module _ (n w : ℕ) (labels counts : List ℕ) (v : ℕ) where
  -- the rooms, and the frame asked
  pub frame_rooms : {r : Refusal} → room_tests n w labels counts ≡ Err r → frame_tests n w labels counts v ≡ Err r
  unfolding frame_tests
  frame_rooms e = after_refused _ e

  pub frame_alone : room_tests n w labels counts ≡ fine → frame_tests n w labels counts v ≡ frame_test n v 0
  unfolding frame_tests
  frame_alone e = after_fine _ e

  -- as a function makes them
  pub frame_is : {x y z : Verdict} → x ≡ room_tests n w labels counts → x ≡ fine → y ≡ frame_test n v 0 → y ≡ z
      → frame_tests n w labels counts v ≡ z
  frame_is e f g h = frame_alone (sym e ∙ f) ∙ sym g ∙ h

  pub frame_asked : frame_tests n w labels counts v ≡ fine → Rooms n w labels counts × (v < n)
  unfolding frame_tests
  frame_asked e =
      let (rooms, frame) = then_fine (room_tests n w labels counts) _ e in
      (fine_rooms n w labels counts rooms, frame_held n v 0 frame)

  -- and its row
  pub check_frame : {r : Refusal} → frame_tests n w labels counts v ≡ Err r → check_row n w labels counts v ≡ Err r
  unfolding check_row
  check_frame e = after_refused _ e

  pub check_row_alone : frame_tests n w labels counts v ≡ fine → check_row n w labels counts v ≡ row_test n w n labels counts v
  unfolding check_row
  check_row_alone e = after_fine _ e

module _ (n w : ℕ) (labels counts : List ℕ) (s t : ℕ) where
  pub pair_first : {r : Refusal} → frame_tests n w labels counts s ≡ Err r → pair_tests n w labels counts s t ≡ Err r
  unfolding pair_tests
  pair_first e = after_refused _ e

  pub pair_other : {r : Refusal} → frame_tests n w labels counts s ≡ fine → frame_test n t 1 ≡ Err r → pair_tests n w labels counts s t ≡ Err r
  unfolding pair_tests
  pair_other e f = after_fine _ e ∙ after_refused _ f

  pub pair_rows : frame_tests n w labels counts s ≡ fine → t < n
      → pair_tests n w labels counts s t ≡ (row_test n w n labels counts s then row_test n w n labels counts t)
  unfolding pair_tests
  pair_rows e k = after_fine _ e ∙ after_fine _ (frame_fine 1 k)

  pub pair_asked : pair_tests n w labels counts s t ≡ fine → Asked n w labels counts s t
  unfolding pair_tests
  pair_asked e =
      let (frame, rest) = then_fine (frame_tests n w labels counts s) _ e in
      let (second, rows) = then_fine (frame_test n t 1) _ rest in
      let (row, other) = then_fine (row_test n w n labels counts s) _ rows in
      let (rooms, first) = frame_asked n w labels counts s frame in
      record {
        rooms = rooms;
        first = first;
        second = frame_held n t 1 second;
        first_sound = row_held n w labels counts s row;
        second_sound = row_held n w labels counts t other;
      }

-- and back: such rooms, frames and rows are not refused
pub asked_fine : {n w : ℕ} {labels counts : List ℕ} {s t : ℕ} → Asked n w labels counts s t
    → pair_tests n w labels counts s t ≡ fine
asked_fine {n} {w} {labels} {counts} {s} {t} a =
    pair_rows n w labels counts s t
    (frame_alone n w labels counts s (rooms_fine a.rooms) ∙ frame_fine 0 a.first) a.second
    ∙ after_fine _ (row_fine n w labels counts s a.first_sound)
    ∙ row_fine n w labels counts t a.second_sound

-- every entry of a sound row of such rooms is sound
pub sound_whole : {n w : ℕ} {labels counts : List ℕ} {v : ℕ} → Rooms n w labels counts → v < n
    → sound_row n w n labels counts v ≡ true
    → Sound n n (row_at w labels counts v) (length (row_at w labels counts v))
sound_whole {n} {w} {labels} {counts} {v} r h e =
    let (few, sound) = row_sound n w n labels counts v e in
    rw (length_row r v h few) sound

-- a row that lies in the room with rising ranks
pub record RowIn (w : ℕ) (labels counts : List ℕ) (v : ℕ) : Type 0 where
  pub row : RowLies w labels counts v
  pub rises : Rises (row_at w labels counts v)

-- it is fit for the merge
pub row_in : {n w : ℕ} {labels counts : List ℕ} {v : ℕ} → Rooms n w labels counts → v < n
    → sound_row n w n labels counts v ≡ true → RowIn w labels counts v
row_in {n} {w} {labels} {counts} {v} r h e = record {
  row = row_lies r v h (row_sound n w n labels counts v e).0;
  rises = record { next = (sound_whole r h e).rising };
}

-- what a fine row check says of the row
pub checked_row : (n w : ℕ) (labels counts : List ℕ) (v : ℕ) → check_row n w labels counts v ≡ fine
    → RowIn w labels counts v × (length (row_at w labels counts v) ≡ get_or counts v 0)
unfolding check_row
checked_row n w labels counts v e =
    let (frame, row) = then_fine (frame_tests n w labels counts v) _ e in
    let (rooms, inside) = frame_asked n w labels counts v frame in
    let sound = row_held n w labels counts v row in
    (row_in rooms inside sound, length_row rooms v inside (row_sound n w n labels counts v sound).0)

-- what is handed back by what the check says
pub row_by : (n w : ℕ) (labels counts : List ℕ) (v : ℕ) {x : Verdict} → check_row n w labels counts v ≡ x
    → (row_of n w labels counts v ≡ if_fine x (row_at w labels counts v) []) × (row_start n w labels counts v ≡ if_fine x (v * w) 0)
unfolding row_of row_start
row_by n w labels counts v e =
    (ap (λ (y : Verdict). if_fine y (row_at w labels counts v) []) e, ap (λ (y : Verdict). if_fine y (v * w) 0) e)

-- ---- what the tests hand back

-- a refusal, with no row
pub or_refused : {tests : Verdict} (row : List ℕ) {x : Result (Bor (List ℕ)) Refusal} {r : Refusal} → x ≡ Err r → tests ≡ Err r
    → RowOr tests row x
or_refused row e f = rw e f

pub both_refused : {tests : Verdict} (a b : List ℕ) {x : Result (Bor (List ℕ) × Bor (List ℕ)) Refusal} {r : Refusal} → x ≡ Err r
    → tests ≡ Err r → RowsOr tests a b x
both_refused a b e f = rw e f

-- what is lent by what the tests say, or another part where they refuse
module _ (tests : Verdict) (row : List ℕ) where
  pub lent_now : (x : Result (Bor (List ℕ)) Refusal) (other : Bor (List ℕ)) → RowOr tests row x
      → (result_unwrap_or x other).now ≡ if_fine tests row other.now
  unfolding if_fine
  lent_now (Ok lent) other p = p.1 ∙ sym (ap (λ (v : Verdict). if_fine v row other.now) p.0)
  lent_now (Err r) other p = sym (ap (λ (v : Verdict). if_fine v row other.now) p)

  pub lent_at : (x : Result (Bor (List ℕ)) Refusal) (other : Bor (List ℕ)) (place : ℕ → ℕ × ℕ) (start : ℕ) → RowOr tests row x
      → IfOk x (λ (lent : Bor (List ℕ)). lent.ref_ptr ≡ place start) → other.ref_ptr ≡ place 0
      → (result_unwrap_or x other).ref_ptr ≡ place (if_fine tests start 0)
  unfolding if_fine
  lent_at (Ok lent) other place start p q e = q ∙ sym (ap (λ (v : Verdict). place (if_fine v start 0)) p.0)
  lent_at (Err r) other place start p q e = e ∙ sym (ap (λ (v : Verdict). place (if_fine v start 0)) p)

-- ---- the answer

module _ (n w : ℕ) (labels counts : List ℕ) (s t : ℕ) where
  pub answer_refused : {r : Refusal} → pair_tests n w labels counts s t ≡ Err r
      → pair_of n w labels counts s t ≡ Err r
  unfolding pair_of answered
  answer_refused e = ap (λ (v : Verdict). answered v (meeting_of (row_at w labels counts s) (row_at w labels counts t))) e

  pub answer_fine : {best : Best} → pair_tests n w labels counts s t ≡ fine
      → best ≡ meeting_of (row_at w labels counts s) (row_at w labels counts t)
      → pair_of n w labels counts s t ≡ answered fine best
  unfolding pair_of
  answer_fine e b = λ i. answered (e i) (sym b i)

-- behind fine tests the answer is the best meeting's sum
pub answered_sum : (best : Best) → answered fine best ≡ Ok (option_map (λ (m : Meeting). m.sum) best)
unfolding answered
answered_sum None = refl
answered_sum (Some m) = refl
