-- The laws of the nearest target: the first place of the fewest joins as it is found record by record, that the asked frame's
-- row noted by rank finds the pair question's answers.
use Rattle.refusal.specs.Tests.{Verdict, fine, Refusal}
use Rattle.std.specs.Prelude.{Ok, Err, Some, None}
use Prim.Native.Nat.{ℕ, ◌+◌, ◌≤◌, ◌<◌, min}
use mathlib.Core.Path.{◌≡◌, refl, sym, ap, subst, ◌∙◌}
use mathlib.Core.Bool.{Bool}
use mathlib.Core.List.{List, [], ◌∷◌}
use native.Mathlib.Numerals.{add-one}
use native.Mathlib.Omega.{arith}
use borrow.Author.Tests.{lt-ltb, le-ltb, eq-eqb, ne_eqb}
use lib.ListN.{length, get_or, replicate, length-replicate}
use lib.Dec.{eqb}
use Rattle.basics.specs.Places.{first, least}
use Rattle.basics.proofs.Laws.{cond_true, cond_false, first_is, least_le, least_ext, first_ext}
use Rattle.theory.specs.Rows.{Row, at, answer}
use Rattle.entry.specs.Entry.{decode}
use Rattle.rows.specs.Rooms.{part_of, row_at}
use Rattle.rows.proofs.Laws.{row_sound}
use Rattle.rows.proofs.PairLaws.{sound_whole}
use Rattle.rows.proofs.RoomLaws.{part_is_row}
use Rattle.targets.specs.Inner.{NotedLow, RanksIn, RowsKnown, first_reached, noted_in, reach_to}
use Rattle.targets.specs.Nearest.{nearest_by, nearest_of, nearest_place, nearest_tests, NearestTarget}
use Rattle.targets.specs.Targets.{apart, fewest_joins, joins_to}
use Rattle.targets.proofs.ByRank.{blank_at, blank_low, joins_answer, noted_at, noted_long, noted_low, reach_least, row_known}
use Rattle.targets.proofs.TestLaws.{NearestAsked, nearest_asked}

-- ---- the first of the fewest

-- the place has the fewest of all, and none before it has so few
pub record FirstAt (f : ℕ → ℕ) (fewest place k : ℕ) : Type 0 where
  pub inside : place < k
  pub here : f place ≡ fewest
  pub before : (j : ℕ) → j < place → fewest < f j

-- the fewest of the first k, and where any is below `apart` its first place
pub record Fewest (f : ℕ → ℕ) (fewest place k : ℕ) : Type 0 where
  pub least : fewest ≡ least apart k f
  pub first : fewest < apart → FirstAt f fewest place k

pub fewest_none : (f : ℕ → ℕ) (place : ℕ) → Fewest f apart place 0
unfolding least
fewest_none f place = record { least = refl; first = λ h. absurd (omega arith) }

least_next : (f : ℕ → ℕ) (k : ℕ) → least apart (k + 1) f ≡ min (f k) (least apart k f)
unfolding least
least_next f k = ap (λ (j : ℕ). least apart j f) (add-one k)

-- one more: fewer joins move the place, as many leave it
module _ {f : ℕ → ℕ} {fewest place k : ℕ} (found : Fewest f fewest place k) where
  pub fewest_less : {fewest' place' : ℕ} → f k < fewest → fewest' ≡ f k → place' ≡ k → Fewest f fewest' place' (k + 1)
  fewest_less {fewest'} {place'} h e p = record {
    least = omega (arith, least_next f k, found.least);
    first = λ _. record {
      inside = omega arith;
      here = ap f p ∙ sym e;
      before = λ j l. omega (arith, found.least, least_le apart k f j (omega arith));
    };
  }

  pub fewest_kept : {fewest' place' : ℕ} → fewest ≤ f k → fewest' ≡ fewest → place' ≡ place → Fewest f fewest' place' (k + 1)
  fewest_kept {fewest'} {place'} h e p = record {
    least = omega (arith, least_next f k, found.least);
    first = λ low.
        let at = found.first (omega arith) in
        record {
          inside = omega (arith, at.inside);
          here = ap f p ∙ at.here ∙ sym e;
          before = λ j l. omega (arith, at.before j (omega arith));
        };
  }

-- the answer on such numbers
abbrev pub by_first : ℕ → (ℕ → ℕ) → NearestTarget
by_first k f =
    nearest_by fine (least apart k f) (first (λ i. eqb (f i) (least apart k f)) 0 k)

module _ {f : ℕ → ℕ} {fewest place k : ℕ} (found : Fewest f fewest place k) where
  fewest_record : fewest < apart → (Ok (Some place)) ≡ by_first k f
  unfolding nearest_by
  fewest_record h =
      let at = found.first h in
      let marked : ℕ → Bool = λ i. eqb (f i) (least apart k f) in
      let there : first marked 0 k ≡ place =
      first_is marked 0 k place (omega arith) (omega (arith, at.inside)) (eq-eqb (f place) _ (at.here ∙ found.least))
      (λ j _ l. ne_eqb (f j) _ (omega (arith, at.before j l, found.least))) in
      sym
      (cond_true _ _ (lt-ltb (least apart k f) apart (omega (arith, found.least)))
      ∙ ap (λ (p : ℕ). Ok (Some p)) there)

  fewest_not : apart ≤ fewest → (Ok None) ≡ by_first k f
  unfolding nearest_by
  fewest_not h = sym (cond_false _ _ (le-ltb (least apart k f) apart (omega (arith, found.least))))

-- by what is noted
module _ (w : ℕ) (labels counts fs noted : List ℕ) {fewest place k : ℕ} (all : k ≡ length fs)
    (found : Fewest (reach_to w labels counts fs noted) fewest place k) where
  pub reached_record : fewest < apart → (Ok (Some place)) ≡ first_reached w labels counts fs noted
  unfolding first_reached
  reached_record h =
      fewest_record found h ∙ ap (λ (j : ℕ). by_first j (reach_to w labels counts fs noted)) all

  pub reached_none : apart ≤ fewest → (Ok None) ≡ first_reached w labels counts fs noted
  unfolding first_reached
  reached_none h =
      fewest_not found h ∙ ap (λ (j : ℕ). by_first j (reach_to w labels counts fs noted)) all

-- ---- the asked frame's row noted

pub by_first_ext : (k : ℕ) (f g : ℕ → ℕ) → ((i : ℕ) → i < k → f i ≡ g i) → by_first k f ≡ by_first k g
by_first_ext k f g same =
    let fewest : least apart k f ≡ least apart k g = least_ext apart k f g same in
    let place : first (λ i. eqb (f i) (least apart k f)) 0 k ≡ first (λ i. eqb (g i) (least apart k g)) 0 k =
    first_ext _ _ 0 k (λ j _ h. λ i. eqb (same j (omega arith) i) (fewest i)) in
    λ i. nearest_by fine (fewest i) (place i)

at_most : (x : Row) (r : ℕ) → at apart x r ≤ apart
unfolding at
at_most [] r = omega arith
at_most (e ∷ es) r = omega (arith, at_most es r)

-- a row noted in a blank table is that row by rank
row_noted : (row : List ℕ) (r : ℕ) → r < 4096
    → get_or (noted_in row (replicate 4096 apart)) r 0 ≡ at apart (decode row) r
row_noted row r h =
    let blank : get_or (replicate 4096 apart) r 0 ≡ apart = blank_at r h in
    omega (
      arith,
      noted_at row (replicate 4096 apart) r (omega (arith, length-replicate {A = ℕ} 4096 apart)) (omega arith),
      at_most (decode row) r,
    )

-- what noting the asked frame's row and reading the records' rows ask, behind fine tests
module _ {n w : ℕ} {labels counts : List ℕ} {asked : ℕ} {fs : List ℕ} (a : NearestAsked n w labels counts asked fs) where
  pub asked_part : part_of w labels asked (get_or counts asked 0) ≡ row_at w labels counts asked
  asked_part = part_is_row a.rooms asked a.inside (row_sound n w n labels counts asked a.asked_sound).0

  pub asked_ranks : {row : List ℕ} → row ≡ row_at w labels counts asked → RanksIn (replicate 4096 apart) row
  asked_ranks e =
      let known = row_known (replicate 4096 apart) a.rooms a.inside a.asked_sound (length-replicate 4096 apart) in
      subst (RanksIn (replicate 4096 apart)) (sym e) known.ranks

  pub asked_rows : (row : List ℕ) {noted : List ℕ} → noted ≡ noted_in row (replicate 4096 apart) → RowsKnown w labels counts fs noted
  asked_rows row {noted} e = record {
    few = a.frames.few;
    low = subst NotedLow (sym e) (noted_low row blank_low);
    rows = λ i h.
        row_known noted a.rooms (a.frames.low i h) (a.sound i h)
        (ap length e ∙ noted_long row (replicate 4096 apart) ∙ length-replicate 4096 apart);
  }

-- the row of record i read against it gives the pair question's answer
reach_joins : {n w : ℕ} {labels counts : List ℕ} {asked : ℕ} {fs : List ℕ} → NearestAsked n w labels counts asked fs → (i : ℕ)
    → i < length fs
    → reach_to w labels counts fs (noted_in (row_at w labels counts asked) (replicate 4096 apart)) i
    ≡ joins_to w labels counts fs asked i
unfolding reach_to answer
reach_joins {n} {w} {labels} {counts} {asked} {fs} a i h =
    let inside : get_or fs i 0 < n = a.frames.low i h in
    let mine : List ℕ = row_at w labels counts asked in
    let row : List ℕ = row_at w labels counts (get_or fs i 0) in
    let sound = sound_whole a.rooms inside (a.sound i h) in
    reach_least n (noted_in mine (replicate 4096 apart)) row (λ r. at apart (decode mine) r)
    (λ r l. row_noted mine r (omega (arith, a.rooms.sizes.frames))) sound.rank
    ∙ least_ext apart n (λ r. at apart (decode row) r + at apart (decode mine) r)
    (λ r. at apart (decode mine) r + at apart (decode row) r) (λ r l. omega arith)
    ∙ sym (joins_answer a.rooms fs asked i a.inside inside a.asked_sound (a.sound i h))

-- ---- the answer

module _ (n w : ℕ) (labels counts : List ℕ) (asked : ℕ) (fs : List ℕ) where
  pub nearest_refused : {r : Refusal} → nearest_tests n w labels counts asked fs ≡ Err r
      → nearest_of n w labels counts asked fs ≡ Err r
  unfolding nearest_of nearest_by
  nearest_refused e =
      ap (λ (v : Verdict). nearest_by v (fewest_joins w labels counts fs asked) (nearest_place w labels counts asked fs)) e

  pub fine_answer : nearest_tests n w labels counts asked fs ≡ fine
      → nearest_of n w labels counts asked fs ≡ by_first (length fs) (joins_to w labels counts fs asked)
  unfolding nearest_of nearest_place fewest_joins
  fine_answer e =
      ap (λ (v : Verdict). nearest_by v (fewest_joins w labels counts fs asked) (nearest_place w labels counts asked fs)) e

  -- the first record of fewest joins to the asked frame's row noted
  pub nearest_reached : {row noted : List ℕ} → nearest_tests n w labels counts asked fs ≡ fine
      → row ≡ row_at w labels counts asked → noted ≡ noted_in row (replicate 4096 apart)
      → first_reached w labels counts fs noted ≡ nearest_of n w labels counts asked fs
  unfolding first_reached
  nearest_reached e p q =
      ap (first_reached w labels counts fs) (q ∙ ap (λ (row : List ℕ). noted_in row (replicate 4096 apart)) p)
      ∙ by_first_ext (length fs) _ _ (reach_joins (nearest_asked n w labels counts asked fs e))
      ∙ sym (fine_answer e)
