-- The answers in the paper's words: joins are what the pair question answers, and the record named is the first of those with
-- the fewest.
use Rattle.refusal.specs.Tests.{Verdict, fine}
use Rattle.std.specs.Prelude.{Ok, Some, None}
use Prim.Native.Nat.{ℕ, ◌+◌, ◌≤◌, ◌<◌}
use mathlib.Core.Path.{◌≡◌, refl, sym, ap, ◌∙◌}
use mathlib.Core.Logic.{◌⊎◌, inl, inr}
use mathlib.Core.Bool.{Bool, true}
use mathlib.Core.List.{List}
use native.Mathlib.Omega.{arith}
use borrow.Author.Tests.{lt-ltb, le-ltb, eq-eqb, eqb-true, eqb-false}
use lib.ListN.{length, get_or}
use lib.Dec.{eqb}
use Rattle.basics.specs.Places.{least, first}
use Rattle.basics.proofs.Laws.{lt_or_ge, least_le, least_found, first_marked, first_before, not_both}
use Rattle.refusal.proofs.Laws.{after_fine, tests_fine}
use Rattle.theory.specs.Distance.{said}
use Rattle.rows.specs.Inner.{Rooms}
use Rattle.rows.specs.Pair.{pair_of, said_of}
use Rattle.rows.specs.Rooms.{row_at, sound_row}
use Rattle.rows.proofs.PairAnswer.{best_answer}
use Rattle.rows.proofs.PairLaws.{asked_fine, answer_fine, frame_fine, row_fine, sound_whole}
use Rattle.rows.proofs.RoomLaws.{rooms_fine, sound_all}
use Rattle.targets.specs.Inner.{FramesIn}
use Rattle.targets.specs.Nearest.{nearest_tests, nearest_place, nearest_by, nearest_of}
use Rattle.targets.specs.Sixteen.{sixteen_tests}
use Rattle.targets.specs.Targets.{apart, joins_to, fewest_joins, records_test}
use Rattle.targets.proofs.ByRank.{joins_answer}
use Rattle.targets.proofs.TestLaws.{NearestAsked, SixteenAsked, rooms_few, nearest_on, sixteen_on}

-- what the pair question says of a frame and a record, both rows sound
pub pair_said : {n w : ℕ} {labels counts : List ℕ} → Rooms n w labels counts → (fs : List ℕ) (v i : ℕ) → v < n
    → get_or fs i 0 < n → sound_row n w n labels counts v ≡ true → sound_row n w n labels counts (get_or fs i 0) ≡ true
    → said_of (pair_of n w labels counts v (get_or fs i 0)) ≡ said apart (joins_to w labels counts fs v i)
pair_said {n} {w} {labels} {counts} rooms fs v i h k sound other =
    let one = sound_whole rooms h sound in
    let two = sound_whole rooms k other in
    let fine = asked_fine (record { rooms = rooms; first = h; second = k; first_sound = sound; second_sound = other }) in
    ap said_of (answer_fine n w labels counts v (get_or fs i 0) fine refl)
    ∙ best_answer apart n (row_at w labels counts v) (row_at w labels counts (get_or fs i 0)) (omega (arith, rooms.sizes.frames))
    one.rank one.joins two.joins
    ∙ ap (said apart) (sym (joins_answer rooms fs v i h k sound other))

module _ (w : ℕ) (labels counts : List ℕ) (asked : ℕ) (fs : List ℕ) where
  -- record i has the fewest joins from the asked frame, and no record before it has as few
  pub record FirstOfFewest (i : ℕ) : Type 0 where
    pub place : i < length fs
    pub some : joins_to w labels counts fs asked i < apart
    pub fewest : (j : ℕ) → j < length fs → joins_to w labels counts fs asked i ≤ joins_to w labels counts fs asked j
    pub before : (j : ℕ) → j < i → joins_to w labels counts fs asked i < joins_to w labels counts fs asked j

  first_of_fewest : fewest_joins w labels counts fs asked < apart → FirstOfFewest (nearest_place w labels counts asked fs)
  unfolding nearest_place fewest_joins
  first_of_fewest h =
      let f : ℕ → ℕ = joins_to w labels counts fs asked in
      let fewest : ℕ = least apart (length fs) f in
      let marked : ℕ → Bool = λ i. eqb (f i) fewest in
      let place : ℕ = first marked 0 (length fs) in
      let (j, b, e) = least_found apart (length fs) f h in
      let inside : place < length fs =
      lt_or_ge j place
      (λ l. not_both (eq-eqb (f j) fewest e) (first_before marked 0 (length fs) j (omega arith) l))
      (λ l. omega arith) in
      let here : f place ≡ fewest = eqb-true (f place) fewest (first_marked marked 0 (length fs) (omega arith)) in
      record {
        place = inside;
        some = omega arith;
        fewest = λ i l. omega (arith, least_le apart (length fs) f i l);
        before = λ i l.
            omega
            (arith, least_le apart (length fs) f i (omega arith), eqb-false (f i) fewest (first_before marked 0 (length fs) i (omega arith) l));
      }

  -- no record shares a rank with the asked frame
  none_near : apart ≤ fewest_joins w labels counts fs asked → (j : ℕ) → j < length fs → apart ≤ joins_to w labels counts fs asked j
  unfolding fewest_joins
  none_near h j l = omega (arith, least_le apart (length fs) (joins_to w labels counts fs asked) j l)

  -- behind fine tests the answer is that record's place, and none where there is none
  pub nearest_literal : (n : ℕ) → nearest_tests n w labels counts asked fs ≡ fine
      → ((i : ℕ) × (nearest_of n w labels counts asked fs ≡ Ok (Some i)) × FirstOfFewest i)
      ⊎ ((nearest_of n w labels counts asked fs ≡ Ok None)
      × ((j : ℕ) → j < length fs → apart ≤ joins_to w labels counts fs asked j))
  unfolding nearest_of nearest_by
  nearest_literal n e =
      let fewest : ℕ = fewest_joins w labels counts fs asked in
      let place : ℕ = nearest_place w labels counts asked fs in
      lt_or_ge fewest apart
      (λ h. inl (place, ap (λ (v : Verdict). nearest_by v fewest place) e ∙ rw (lt-ltb fewest apart h) refl, first_of_fewest h))
      (λ h. inr (ap (λ (v : Verdict). nearest_by v fewest place) e ∙ rw (le-ltb fewest apart h) refl, none_near h))

-- ---- what the tests let through, they do not refuse

pub records_fine : (n : ℕ) (fs : List ℕ) → FramesIn n fs → records_test n fs ≡ fine
unfolding records_test
records_fine n fs frames = tests_fine _ (length fs) (λ i h. frame_fine (i + 1) (frames.low i h))

pub nearest_passes : {n w : ℕ} {labels counts : List ℕ} {asked : ℕ} {fs : List ℕ} → NearestAsked n w labels counts asked fs
    → nearest_tests n w labels counts asked fs ≡ fine
nearest_passes {n} {w} {labels} {counts} {asked} {fs} a =
    nearest_on n w labels counts asked fs (rooms_few n w labels counts fs a.frames.few ∙ rooms_fine a.rooms) a.inside
    ∙ after_fine _ (records_fine n fs a.frames)
    ∙ after_fine _ (row_fine n w labels counts asked a.asked_sound)
    ∙ tests_fine _ (length fs) (λ i h. row_fine n w labels counts (get_or fs i 0) (a.sound i h))

pub sixteen_passes : {n w : ℕ} {labels counts fs : List ℕ} → SixteenAsked n w labels counts fs
    → sixteen_tests n w labels counts fs ≡ fine
sixteen_passes {n} {w} {labels} {counts} {fs} a =
    sixteen_on n w labels counts fs (rooms_few n w labels counts fs a.frames.few ∙ rooms_fine a.rooms)
    ∙ after_fine _ (records_fine n fs a.frames)
    ∙ sound_all n w n labels counts a.sound
