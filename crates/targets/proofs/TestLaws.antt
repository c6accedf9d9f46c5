-- The laws of the tests of the questions on targets: the tests one by one, and what they let through.
use Rattle.std.specs.Prelude.{Err}
use Prim.Native.Nat.{ℕ, ◌+◌, ◌-◌, ◌≤◌, ◌<◌}
use mathlib.Core.Path.{◌≡◌, ap, ◌∙◌}
use mathlib.Core.Bool.{true}
use mathlib.Core.List.{List}
use native.Mathlib.Nat.{sub-zero}
use borrow.Author.Tests.{le-leb, lt-leb, leb-true}
use lib.ListN.{length, get_or, take, drop}
use lib.Dec.{leb}
use lib.Seq.{get_or-take, length-take-le}
use Rattle.basics.proofs.Laws.{is_table, length_table}
use Rattle.refusal.specs.Numbers.{SIZE, FRAME}
use Rattle.refusal.specs.Tests.{test, ◌then◌, refusal, tests_from, Verdict, fine, Refusal}
use Rattle.refusal.proofs.Laws.{test_fine, test_refused, test_held, then_fine, after_fine, after_refused, tests_each}
use Rattle.rows.specs.Inner.{Rooms}
use Rattle.rows.specs.Rooms.{room_tests, frame_test, row_test, rows_test, sound_row, check_row}
use Rattle.rows.proofs.PairLaws.{frame_fine, frame_refused, frame_held, frame_alone, row_held, check_row_alone}
use Rattle.rows.proofs.RoomLaws.{fine_rooms, rooms_fine, all_sound}
use Rattle.targets.specs.Inner.{FramesIn, frames_in}
use Rattle.targets.specs.Nearest.{nearest_tests}
use Rattle.targets.specs.Sixteen.{sixteen_tests}
use Rattle.targets.specs.Targets.{most_targets, target_rooms, records_test}
use Rattle.targets.specs.declared.record.Listed.{Listed}

-- ---- one by one

-- 8 for record i
abbrev pub record_test : ℕ → List ℕ → ℕ → Verdict
record_test n fs i = frame_test n (get_or fs i 0) (i + 1)

-- 9 for the row of record i
abbrev pub record_row : ℕ → ℕ → List ℕ → List ℕ → List ℕ → ℕ → Verdict
record_row n w labels counts fs i = row_test n w n labels counts (get_or fs i 0)

-- the rooms, and the number of records
module _ (n w : ℕ) (labels counts fs : List ℕ) where
  pub rooms_many : most_targets < length fs → target_rooms n w labels counts fs ≡ Err (refusal SIZE 0)
  unfolding target_rooms
  rooms_many h = after_refused _ (test_refused SIZE 0 (lt-leb (length fs) most_targets h))

  pub rooms_few : length fs ≤ most_targets → target_rooms n w labels counts fs ≡ room_tests n w labels counts
  unfolding target_rooms
  rooms_few h = after_fine _ (test_fine SIZE 0 (le-leb (length fs) most_targets h))

  pub rooms_let : target_rooms n w labels counts fs ≡ fine → Rooms n w labels counts × (length fs ≤ most_targets)
  unfolding target_rooms
  rooms_let e =
      let (few, rooms) = then_fine (test (leb (length fs) most_targets) SIZE 0) _ e in
      (fine_rooms n w labels counts rooms, leb-true (length fs) most_targets (test_held _ SIZE 0 few))

-- behind them, the records' frames
pub frames_let : (n : ℕ) (fs : List ℕ) → length fs ≤ most_targets → records_test n fs ≡ fine → FramesIn n fs
unfolding records_test
frames_let n fs few e = record {
  few = few;
  low = λ i h. frame_held n (get_or fs i 0) (i + 1) (tests_each (record_test n fs) (length fs) e i h);
}

-- of a row check behind rooms that fit and a frame below n, the row is left
pub row_left : {n w : ℕ} {labels counts : List ℕ} {v : ℕ} → Rooms n w labels counts → v < n
    → check_row n w labels counts v ≡ row_test n w n labels counts v
row_left {n} {w} {labels} {counts} {v} r h =
    check_row_alone n w labels counts v (frame_alone n w labels counts v (rooms_fine r) ∙ frame_fine 0 h)

-- ---- nearest target

-- what its tests let through
pub record NearestAsked (n w : ℕ) (labels counts : List ℕ) (asked : ℕ) (fs : List ℕ) : Type 0 where
  pub rooms : Rooms n w labels counts
  pub inside : asked < n
  pub frames : FramesIn n fs
  pub asked_sound : sound_row n w n labels counts asked ≡ true
  pub sound : (i : ℕ) → i < length fs → sound_row n w n labels counts (get_or fs i 0) ≡ true

module _ (n w : ℕ) (labels counts : List ℕ) (asked : ℕ) (fs : List ℕ) where
  pub nearest_rooms : {r : Refusal} → target_rooms n w labels counts fs ≡ Err r
      → nearest_tests n w labels counts asked fs ≡ Err r
  unfolding nearest_tests
  nearest_rooms e = after_refused _ e

  pub nearest_far : target_rooms n w labels counts fs ≡ fine → n ≤ asked
      → nearest_tests n w labels counts asked fs ≡ Err (refusal FRAME 0)
  unfolding nearest_tests
  nearest_far e k = after_fine _ e ∙ after_refused _ (frame_refused 0 k)

  pub nearest_on : target_rooms n w labels counts fs ≡ fine → asked < n
      → nearest_tests n w labels counts asked fs
      ≡ (records_test n fs
      then row_test n w n labels counts asked
      then tests_from (record_row n w labels counts fs) 0 (length fs))
  unfolding nearest_tests
  nearest_on e k = after_fine _ e ∙ after_fine _ (frame_fine 0 k)

  pub nearest_asked : nearest_tests n w labels counts asked fs ≡ fine → NearestAsked n w labels counts asked fs
  unfolding nearest_tests
  nearest_asked e =
      let (front, rest) = then_fine (target_rooms n w labels counts fs) _ e in
      let (frame, others) = then_fine (frame_test n asked 0) _ rest in
      let (records, rows) = then_fine (records_test n fs) _ others in
      let (row, each) = then_fine (row_test n w n labels counts asked) _ rows in
      let (rooms, few) = rooms_let n w labels counts fs front in
      record {
        rooms = rooms;
        inside = frame_held n asked 0 frame;
        frames = frames_let n fs few records;
        asked_sound = row_held n w labels counts asked row;
        sound = λ i h.
            row_held n w labels counts (get_or fs i 0) (tests_each (record_row n w labels counts fs) (length fs) each i h);
      }

-- ---- the sixteen counts

-- what their tests let through
pub record SixteenAsked (n w : ℕ) (labels counts fs : List ℕ) : Type 0 where
  pub rooms : Rooms n w labels counts
  pub frames : FramesIn n fs
  pub sound : (v : ℕ) → v < n → sound_row n w n labels counts v ≡ true

module _ (n w : ℕ) (labels counts fs : List ℕ) where
  pub sixteen_rooms : {r : Refusal} → target_rooms n w labels counts fs ≡ Err r
      → sixteen_tests n w labels counts fs ≡ Err r
  unfolding sixteen_tests
  sixteen_rooms e = after_refused _ e

  pub sixteen_on : target_rooms n w labels counts fs ≡ fine
      → sixteen_tests n w labels counts fs ≡ (records_test n fs then rows_test n w n labels counts)
  unfolding sixteen_tests
  sixteen_on e = after_fine _ e

  pub sixteen_asked : sixteen_tests n w labels counts fs ≡ fine → SixteenAsked n w labels counts fs
  unfolding sixteen_tests
  sixteen_asked e =
      let (front, rest) = then_fine (target_rooms n w labels counts fs) _ e in
      let (records, rows) = then_fine (records_test n fs) _ rest in
      let (rooms, few) = rooms_let n w labels counts fs front in
      record {
        rooms = rooms;
        frames = frames_let n fs few records;
        sound = all_sound n w n labels counts rows;
      }

-- ---- the records taken apart

pub length_in : (l : Listed) → length (frames_in l) ≡ l.count
unfolding frames_in
length_in l = length_table l.count (λ i. get_or l.frames i 0)

-- the frames of up to sixteen records are cut from the sixteen
pub frames_cut : (l : Listed) → l.count ≤ length l.frames → take (l.count - 0) (drop 0 l.frames) ≡ frames_in l
unfolding frames_in
frames_cut l h =
    ap (λ (k : ℕ). take k l.frames) (sub-zero l.count)
    ∙ is_table 0 (take l.count l.frames) l.count (λ i. get_or l.frames i 0) (length-take-le l.count l.frames h)
    (λ i k. get_or-take l.count l.frames i 0 k)
