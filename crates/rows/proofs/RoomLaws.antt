-- The laws of the tests on a label room and a count room: what they let through, and what each refuses.
use Rattle.std.specs.Prelude.{Err}
use Rattle.std.specs.List.{sum as sum_all}
use Rattle.std.proofs.lemmas.List.Sums.{sum_by-cons}
use Prim.Native.Nat.{ℕ, zero, suc, ◌+◌, ◌-◌, ◌*◌, ◌≤◌, ◌<◌}
use native.Mathlib.Nat.{sub-zero}
use mathlib.Core.Path.{◌≡◌, refl, sym, ap, ◌∙◌}
use mathlib.Core.Bool.{Bool, true, false, not}
use mathlib.Core.List.{List, [], ◌∷◌, map}
use native.Mathlib.Omega.{arith}
use borrow.Author.Tests.{le-leb, lt-leb, eqb-true, eq-eqb, not-false}
use lib.ListN.{length, get_or}
use lib.Dec.{eqb}
use Rattle.basics.specs.Places.{sum, first, some}
use Rattle.basics.proofs.Laws.{bcase, cond_true, both_true, both, not_of_true, not_of_false, first_here, first_step, first_over}
use Rattle.refusal.specs.Numbers.{SIZE, LENGTH, ROW}
use Rattle.refusal.specs.Sizes.{sizes_fit}
use Rattle.refusal.specs.Inner.{Sizes}
use Rattle.refusal.specs.Tests.{test, refusal, fine, Verdict, Refusal}
use Rattle.refusal.proofs.Laws.{test_fine, test_refused, test_held, then_fine, after_fine, after_refused, lowest_fine, lowest_refused, lowest_none, none_lowest}
use Rattle.refusal.proofs.SizeLaws.{sizes_fit_lem, sizes_held}
use Rattle.rows.specs.Rooms.{total_of, rooms_fit, room_tests, rows_test, check_rows, part_of, row_at, sound_row, unsound, faulty_entry}
use Rattle.rows.specs.Inner.{Rooms, RowLies}
use Rattle.rows.proofs.Tests.{test_failed}
use Rattle.rows.proofs.Laws.{row_ends, in_room_lem, length_used}

rooms_fit_lem : (n w : ℕ) (labels counts : List ℕ) → length labels ≡ n * w → length counts ≡ n → rooms_fit n w labels counts ≡ true
unfolding rooms_fit
rooms_fit_lem n w labels counts a b = both _ _ (eq-eqb (length labels) (n * w) a) (eq-eqb (length counts) n b)

fit_rooms : (n w : ℕ) (labels counts : List ℕ) → rooms_fit n w labels counts ≡ true → (length labels ≡ n * w) × (length counts ≡ n)
unfolding rooms_fit
fit_rooms n w labels counts e =
    let p : (eqb (length labels) (n * w) ≡ true) × (eqb (length counts) n ≡ true) = both_true _ _ e in
    (eqb-true (length labels) (n * w) p.0, eqb-true (length counts) n p.1)

-- 1: a size out of range
pub size_refused : (n w : ℕ) (labels counts : List ℕ) → sizes_fit n w ≡ false → room_tests n w labels counts ≡ Err (refusal SIZE 0)
unfolding room_tests
size_refused n w labels counts f = after_refused _ (test_refused SIZE 0 f)

-- 2: a room of another length
pub length_refused : {n w : ℕ} (labels counts : List ℕ) → Sizes n w → (length labels ≡ n * w → length counts ≡ n → ⊥)
    → room_tests n w labels counts ≡ Err (refusal LENGTH 0)
unfolding room_tests
length_refused {n} {w} labels counts s never =
    after_fine _ (test_fine SIZE 0 (sizes_fit_lem n w s))
    ∙ bcase (rooms_fit n w labels counts)
    (λ t.
    let r : (length labels ≡ n * w) × (length counts ≡ n) = fit_rooms n w labels counts t in
    absurd (never r.0 r.1))
    (λ f. test_refused LENGTH 0 f)

-- both tests let exactly such rooms through
pub rooms_fine : {n w : ℕ} {labels counts : List ℕ} → Rooms n w labels counts → room_tests n w labels counts ≡ fine
unfolding room_tests
rooms_fine {n} {w} {labels} {counts} r =
    after_fine _ (test_fine SIZE 0 (sizes_fit_lem n w r.sizes))
    ∙ test_fine LENGTH 0 (rooms_fit_lem n w labels counts r.places r.each)

pub fine_rooms : (n w : ℕ) (labels counts : List ℕ) → room_tests n w labels counts ≡ fine → Rooms n w labels counts
unfolding room_tests
fine_rooms n w labels counts e =
    let both : (test (sizes_fit n w) SIZE 0 ≡ fine) × (test (rooms_fit n w labels counts) LENGTH 0 ≡ fine) = then_fine _ _ e in
    let r : (length labels ≡ n * w) × (length counts ≡ n) = fit_rooms n w labels counts (test_held _ LENGTH 0 both.1) in
    record { sizes = sizes_held n w (test_held _ SIZE 0 both.0); places = r.0; each = r.1 }

-- for a caller that made the first two tests itself, the test of all rows is the third alone
pub rows_alone : (n w bound : ℕ) (labels counts : List ℕ) → Rooms n w labels counts
    → check_rows n w bound labels counts ≡ rows_test n w bound labels counts
unfolding check_rows
rows_alone n w bound labels counts r = after_fine _ (rooms_fine r)

-- 9 for all rows: the first that is not sound, if there is one
module _ (bound : ℕ) {n w : ℕ} {labels counts : List ℕ} (r : Rooms n w labels counts) {v : ℕ}
    (e : v ≡ first (unsound n w bound labels counts) 0 n) where
  pub rows_fine : v ≡ n → check_rows n w bound labels counts ≡ fine
  unfolding rows_test
  rows_fine h = rows_alone n w bound labels counts r ∙ lowest_fine _ n ROW e h

  pub rows_refused : (v ≡ n → ⊥) → check_rows n w bound labels counts ≡ Err (refusal ROW v)
  unfolding rows_test
  rows_refused h = rows_alone n w bound labels counts r ∙ lowest_refused _ n ROW e h

-- ---- all rows, one after another

-- the search for an unsound row from v on finds what the search of all does
abbrev pub LowestFrom : (n w bound : ℕ) (labels counts : List ℕ) (v : ℕ) → Type 0
LowestFrom n w bound labels counts v = first (unsound n w bound labels counts) v (n - v) ≡ first (unsound n w bound labels counts) 0 n

pub lowest_start : (n w bound : ℕ) (labels counts : List ℕ) → LowestFrom n w bound labels counts 0
lowest_start n w bound labels counts = rw sub-zero refl

-- a turn of the loop, whose test of row v stops it or lets it go on
module _ (n w bound : ℕ) (labels counts : List ℕ) (v : ℕ) {found : Bool} {verdict : Verdict} (from : LowestFrom n w bound labels counts v)
    (inside : v < n) (is : found ≡ sound_row n w bound labels counts v) (made : verdict ≡ test found ROW v) where
  pub lowest_stops : {r : Refusal} → Rooms n w labels counts → verdict ≡ Err r → check_rows n w bound labels counts ≡ Err r
  lowest_stops rooms e =
      let (broken, why) = test_failed found ROW v (sym made ∙ e) in
      rows_refused bound rooms (sym (first_here (unsound n w bound labels counts) v n inside (not_of_false (sym is ∙ broken))) ∙ from) (omega arith)
      ∙ ap Err (sym why)

  pub lowest_sound : verdict ≡ fine → sound_row n w bound labels counts v ≡ true
  lowest_sound e = sym is ∙ test_held found ROW v (sym made ∙ e)

  pub lowest_goes : verdict ≡ fine → LowestFrom n w bound labels counts (v + 1)
  lowest_goes e = first_step (unsound n w bound labels counts) v n inside (not_of_true (lowest_sound e)) ∙ from

pub lowest_over : (n w bound : ℕ) (labels counts : List ℕ) (v : ℕ) → LowestFrom n w bound labels counts v → v ≡ n
    → Rooms n w labels counts → check_rows n w bound labels counts ≡ fine
lowest_over n w bound labels counts v from e rooms =
    rows_fine bound rooms (sym (first_over (unsound n w bound labels counts) v n (omega arith)) ∙ from) e

-- 1 or 2 for all rows
pub rooms_refused : (n w bound : ℕ) (labels counts : List ℕ) {r : Refusal} → room_tests n w labels counts ≡ Err r
    → check_rows n w bound labels counts ≡ Err r
unfolding check_rows
rooms_refused n w bound labels counts e = after_refused _ e

-- the used part of a row of such rooms
module _ {n w : ℕ} {labels counts : List ℕ} (r : Rooms n w labels counts) (v : ℕ) (h : v < n) (k : get_or counts v 0 ≤ w) where
  pub row_lies : RowLies w labels counts v
  row_lies = record { counted = omega (arith, r.each); lies = row_ends r.places h k }

  pub part_is_row : part_of w labels v (get_or counts v 0) ≡ row_at w labels counts v
  unfolding part_of row_at
  part_is_row =
      cond_true _ _
      (in_room_lem w labels v (get_or counts v 0) (omega (arith, r.sizes.frames)) r.sizes.width row_lies.lies)

  pub length_row : length (row_at w labels counts v) ≡ get_or counts v 0
  length_row = length_used labels counts r.places h k

  pub sound_by_entries : (bound : ℕ)
      → sound_row n w bound labels counts v
      ≡ not (some (faulty_entry n bound (row_at w labels counts v)) 0 (length (row_at w labels counts v)))
  unfolding sound_row
  sound_by_entries bound = rw (length_row, le-leb (get_or counts v 0) w k) refl

-- 9: a count over W
pub count_unsound : (n w bound : ℕ) (labels counts : List ℕ) (v : ℕ) → w < get_or counts v 0
    → sound_row n w bound labels counts v ≡ false
unfolding sound_row
count_unsound n w bound labels counts v h = rw (lt-leb (get_or counts v 0) w h) refl

-- 9 for all rows is fine exactly if each is sound
pub all_sound : (n w bound : ℕ) (labels counts : List ℕ) → rows_test n w bound labels counts ≡ fine
    → (v : ℕ) → v < n → sound_row n w bound labels counts v ≡ true
unfolding rows_test
all_sound n w bound labels counts e v h = not-false _ (lowest_none _ n ROW e v h)

pub sound_all : (n w bound : ℕ) (labels counts : List ℕ) → ((v : ℕ) → v < n → sound_row n w bound labels counts v ≡ true)
    → rows_test n w bound labels counts ≡ fine
unfolding rows_test
sound_all n w bound labels counts sound = none_lowest _ n ROW (λ v h. not_of_true (sound v h))

-- what the test of all rows lets through
pub rows_sound : (n w bound : ℕ) (labels counts : List ℕ) → check_rows n w bound labels counts ≡ fine
    → Rooms n w labels counts × ((v : ℕ) → v < n → sound_row n w bound labels counts v ≡ true)
unfolding check_rows
rows_sound n w bound labels counts e =
    let (rooms, rows) = then_fine (room_tests n w labels counts) _ e in
    (fine_rooms n w labels counts rooms, all_sound n w bound labels counts rows)

-- the sum as the library says it, and how large it can be
pub sum_same : (counts : List ℕ) → sum_all (map (λ (count : ℕ). count) counts) ≡ sum counts
unfolding sum
sum_same [] = refl
sum_same (c ∷ cs) = sum_by-cons (λ (x : ℕ). x) c (map (λ (count : ℕ). count) cs) ∙ ap (λ (s : ℕ). c + s) (sum_same cs)

pub sum_most : (counts : List ℕ) → ((i : ℕ) → get_or counts i 0 < 4294967296) → sum counts ≤ length counts * 4294967296
unfolding sum
sum_most [] small = omega arith
sum_most (c ∷ cs) small = omega (arith, small zero, sum_most cs (λ i. small (suc i)))

-- the sum of a room that is not too long for an index
pub total_sum : (counts : List ℕ) → length counts ≤ 4096 → total_of counts ≡ sum counts
unfolding total_of
total_sum counts h = simp (le-leb (length counts) 4096 h)

pub total_over : (counts : List ℕ) → 4096 < length counts → total_of counts ≡ 0
unfolding total_of
total_over counts h = simp (lt-leb (length counts) 4096 h)
