-- What the answers depend on: for the nearest target the rows of the asked frame and of the records, for the sixteen counts all
-- rows; of a row its count and its used entries, nothing else.
use Prim.Native.Nat.{ℕ, ◌*◌, ◌<◌}
use mathlib.Core.Path.{◌≡◌, sym, ap, ◌∙◌}
use mathlib.Core.Bool.{not, ◌&&◌}
use mathlib.Core.List.{List}
use native.Mathlib.Omega.{arith}
use lib.ListN.{length, get_or}
use lib.Dec.{eqb, leb}
use Rattle.basics.specs.Places.{first}
use Rattle.basics.proofs.Laws.{count_ext, table_ext, least_ext, first_ext}
use Rattle.refusal.specs.Numbers.{SIZE, LENGTH, ROW}
use Rattle.refusal.specs.Sizes.{sizes_fit}
use Rattle.refusal.specs.Tests.{if_fine, test, ◌then◌, tests_from, Verdict, fine}
use Rattle.refusal.proofs.Laws.{tests_ext, vcase}
use Rattle.rows.specs.Meetings.{meeting_of}
use Rattle.rows.specs.Pair.{answered, said_of}
use Rattle.rows.specs.Rooms.{room_tests, rooms_fit, frame_test, row_test, rows_test, row_at, unsound}
use Rattle.rows.proofs.Laws.{row_sound}
use Rattle.rows.proofs.PairDepends.{SameRow, row_same, sound_same}
use Rattle.targets.specs.Nearest.{nearest_of, nearest_tests}
use Rattle.targets.specs.Sixteen.{counted_at, sixteen_by, sixteen_counts, sixteen_of, sixteen_tests}
use Rattle.targets.specs.Targets.{most_targets, apart, fewest_joins, joins_to, number_said, records_test, target_rooms}
use Rattle.targets.proofs.NearestLaws.{by_first_ext, fine_answer, nearest_refused}
use Rattle.targets.proofs.TestLaws.{SixteenAsked, nearest_asked, record_row, sixteen_asked}

-- the rooms are looked at by their lengths alone
rooms_by : (n w : ℕ) (labels counts labels' counts' : List ℕ) → length labels ≡ length labels' → length counts ≡ length counts'
    → room_tests n w labels counts ≡ room_tests n w labels' counts'
unfolding room_tests rooms_fit
rooms_by n w labels counts labels' counts' e f =
    λ i. test (sizes_fit n w) SIZE 0 then test (eqb (e i) (n * w) && eqb (f i) n) LENGTH 0

joins_by : (w : ℕ) (labels counts labels' counts' fs : List ℕ) (v i : ℕ)
    → row_at w labels counts v ≡ row_at w labels' counts' v
    → row_at w labels counts (get_or fs i 0) ≡ row_at w labels' counts' (get_or fs i 0)
    → joins_to w labels counts fs v i ≡ joins_to w labels' counts' fs v i
unfolding joins_to
joins_by w labels counts labels' counts' fs v i p q = λ j. number_said (said_of (answered fine (meeting_of (p j) (q j))))

-- ---- the nearest target

-- the answer depends on n, W, the lengths, the frames' numbers, and these frames' counts and used entries
module _ (n w : ℕ) (labels counts labels' counts' : List ℕ) (asked : ℕ) (fs : List ℕ) (e : length labels ≡ length labels')
    (f : length counts ≡ length counts') (own : SameRow w labels counts labels' counts' asked)
    (each : (i : ℕ) → i < length fs → SameRow w labels counts labels' counts' (get_or fs i 0)) where
  tests_same : nearest_tests n w labels counts asked fs ≡ nearest_tests n w labels' counts' asked fs
  unfolding nearest_tests target_rooms row_test
  tests_same =
      let rooms_same = rooms_by n w labels counts labels' counts' e f in
      let first-row = sound_same n w n labels counts labels' counts' asked e own in
      let rows : tests_from (record_row n w labels counts fs) 0 (length fs) ≡ tests_from (record_row n w labels' counts' fs) 0 (length fs) =
      tests_ext _ _ 0 (length fs)
      (λ j _ h.
      let same = sound_same n w n labels counts labels' counts' (get_or fs j 0) e (each j (omega arith)) in
      λ i. test (same i) ROW (get_or fs j 0)) in
      λ i.
      (test (leb (length fs) most_targets) SIZE 0 then rooms_same i)
      then frame_test n asked 0
      then records_test n fs
      then test (first-row i) ROW asked
      then rows i

  pub nearest_depends : nearest_of n w labels counts asked fs ≡ nearest_of n w labels' counts' asked fs
  nearest_depends =
      vcase (nearest_tests n w labels counts asked fs)
      (λ fine.
      let a = nearest_asked n w labels counts asked fs fine in
      let p = row_same w labels counts labels' counts' asked e own (row_sound n w n labels counts asked a.asked_sound).0 in
      fine_answer n w labels counts asked fs fine
      ∙ by_first_ext (length fs) _ _
      (λ j h.
      let q = row_same w labels counts labels' counts' (get_or fs j 0) e (each j h)
      (row_sound n w n labels counts (get_or fs j 0) (a.sound j h)).0 in
      joins_by w labels counts labels' counts' fs asked j p q)
      ∙ sym (fine_answer n w labels' counts' asked fs (sym tests_same ∙ fine)))
      (λ r refused.
      nearest_refused n w labels counts asked fs refused
      ∙ sym (nearest_refused n w labels' counts' asked fs (sym tests_same ∙ refused)))

-- ---- the sixteen counts

-- the counts depend on n, W, the lengths, the records' frames, and every frame's count and used entries
module _ (n w : ℕ) (labels counts labels' counts' fs : List ℕ) (e : length labels ≡ length labels')
    (f : length counts ≡ length counts') (each : (v : ℕ) → v < n → SameRow w labels counts labels' counts' v) where
  all_tests_same : sixteen_tests n w labels counts fs ≡ sixteen_tests n w labels' counts' fs
  unfolding sixteen_tests target_rooms rows_test
  all_tests_same =
      let rooms_same = rooms_by n w labels counts labels' counts' e f in
      let lowest : first (unsound n w n labels counts) 0 n ≡ first (unsound n w n labels' counts') 0 n =
      first_ext _ _ 0 n (λ j _ h. ap not (sound_same n w n labels counts labels' counts' j e (each j (omega arith)))) in
      λ i.
      (test (leb (length fs) most_targets) SIZE 0 then rooms_same i)
      then records_test n fs
      then test (eqb (lowest i) n) ROW (lowest i)

  counts_same : SixteenAsked n w labels counts fs → sixteen_counts n w labels counts fs ≡ sixteen_counts n w labels' counts' fs
  unfolding sixteen_counts fewest_joins
  counts_same a =
      let row : (v : ℕ) → v < n → row_at w labels counts v ≡ row_at w labels' counts' v =
      λ v h. row_same w labels counts labels' counts' v e (each v h) (row_sound n w n labels counts v (a.sound v h)).0 in
      let fewest : (v : ℕ) → v < n → fewest_joins w labels counts fs v ≡ fewest_joins w labels' counts' fs v =
      λ v h.
      least_ext apart (length fs) _ _
      (λ i l. joins_by w labels counts labels' counts' fs v i (row v h) (row (get_or fs i 0) (a.frames.low i l))) in
      table_ext 16 _ _ (λ i l. count_ext _ _ n (λ v h. ap (λ (j : ℕ). counted_at j i) (fewest v h)))

  pub sixteen_depends : sixteen_of n w labels counts fs ≡ sixteen_of n w labels' counts' fs
  unfolding sixteen_of sixteen_by if_fine
  sixteen_depends =
      vcase (sixteen_tests n w labels counts fs)
      (λ fine.
      let same = counts_same (sixteen_asked n w labels counts fs fine) in
      λ i. sixteen_by (all_tests_same i) (same i))
      (λ r refused.
      ap (λ (v : Verdict). sixteen_by v (sixteen_counts n w labels counts fs)) refused
      ∙ sym (ap (λ (v : Verdict). sixteen_by v (sixteen_counts n w labels' counts' fs)) (sym all_tests_same ∙ refused)))
