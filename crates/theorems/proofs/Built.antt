-- An unrefused build: the tests were passed, so the links are a block and the order holds each frame once; the rooms hold
-- the rows of the rule at k, none over W long.
use Rattle.refusal.specs.Tests.{Verdict, fine, Refusal}
use Rattle.std.specs.Prelude.{Ok, Err}
use Prim.Native.Nat.{ℕ, ◌≤◌, ◌<◌}
use mathlib.Core.Path.{◌≡◌, refl, sym, ap, ◌∙◌}
use mathlib.Core.List.{List}
use native.Mathlib.Omega.{arith}
use lib.ListN.{length, get_or, replicate}
use Rattle.basics.specs.Places.{sum}
use Rattle.theory.specs.Rows.{Row}
use Rattle.theory.specs.Plain.{row_by}
use Rattle.entry.specs.Entry.{decode}
use Rattle.rows.specs.Rooms.{row_at}
use Rattle.rows.specs.Laid.{labels_of, counts_of, rows_in}
use Rattle.rows.specs.Inner.{Laid}
use Rattle.rows.proofs.LaidLaws.{count_at_lem, laid_long}
use Rattle.build.specs.Inner.{Tested}
use Rattle.build.specs.Build.{BuildOutcome, build_outcome, after_walks, after_tests, build_of, built_told}
use Rattle.build.proofs.BuildTests as build-tests
use Rattle.build.proofs.RunLaws.{rows_back}
use Rattle.build.proofs.RunStops.{narrow_rows}
use Rattle.theorems.proofs.Held.{Held}

-- what an unrefused build means
pub record Made (n w k : ℕ) (S L O : List ℕ) (entries : ℕ) (labels counts met queue : List ℕ) : Type 0 where
  pub given : Tested n w k S L O
  pub narrow : (v : ℕ) → v < n → length (row_by n S L O k v) ≤ w
  pub laid : Laid n w (row_by n S L O k) labels counts
  pub total : entries ≡ sum counts
  pub met_room_lem : met ≡ replicate n 0
  pub queue_room : queue ≡ replicate n 0

-- ---- the outcome taken apart

-- a number of entries is no refusal
not_made {ℓ} : {C : Type ℓ} {e : ℕ} {r : Refusal} → Ok e ≡ Err r → C
not_made q = let z : ◌≡◌ {A = ℕ} 0 1 = cc in absurd (omega arith)

tests_fine : (lent : BuildOutcome) (v : Verdict) (made : BuildOutcome) (e : ℕ) (a b d f : List ℕ)
    → build_outcome (Ok e) a b d f ≡ after_tests lent v made → (v ≡ fine) × (build_outcome (Ok e) a b d f ≡ made)
unfolding after_tests
tests_fine lent (Ok _) made e a b d f q = (refl, q)
tests_fine lent (Err r) made e a b d f q = not_made (ap (λ (o : BuildOutcome). o.answer) q)

walks_fine : (n w : ℕ) (R : ℕ → Row) (v : Verdict) (e : ℕ) (a b d f : List ℕ)
    → build_outcome (Ok e) a b d f ≡ after_walks n w R v
    → (v ≡ fine)
    × (build_outcome (Ok e) a b d f
    ≡ build_outcome (Ok (sum (counts_of n R))) (labels_of n w R) (counts_of n R) (replicate n 0) (replicate n 0))
unfolding after_walks
walks_fine n w R (Ok _) e a b d f q = (refl, q)
walks_fine n w R (Err r) e a b d f q = not_made (ap (λ (o : BuildOutcome). o.answer) q)

-- ---- an unrefused build

pub built_tests : (n w k : ℕ) (S L O labels counts met queue : List ℕ) (entries : ℕ) (labels' counts' met' queue' : List ℕ)
    → build_outcome (Ok entries) labels' counts' met' queue' ≡ build_of n w k S L O labels counts met queue
    → Made n w k S L O entries labels' counts' met' queue'
unfolding build_of built_told
built_tests n w k S L O labels counts met queue entries labels' counts' met' queue' e =
    let a = tests_fine _ _ _ entries labels' counts' met' queue' e in
    let b = walks_fine n w (row_by n S L O k) _ entries labels' counts' met' queue' a.1 in
    let count_room : counts' ≡ counts_of n (row_by n S L O k) = ap (λ (o : BuildOutcome). o.counts) b.1 in
    record {
      given = (build-tests.tests_fine n w k S L O labels counts met queue a.0).given;
      narrow = narrow_rows n w S L O k b.0;
      laid = record { rows = ap (λ (o : BuildOutcome). o.labels) b.1; numbers = count_room };
      total = ap (λ (o : BuildOutcome). get_or o.told.values 0 0) b.1 ∙ sym (ap sum count_room);
      met_room_lem = ap (λ (o : BuildOutcome). o.met) b.1;
      queue_room = ap (λ (o : BuildOutcome). o.queue) b.1;
    }

-- ---- its rows

module _ {n w k : ℕ} {S L O : List ℕ} {entries : ℕ} {labels counts met queue : List ℕ}
    (m : Made n w k S L O entries labels counts met queue) where
  -- the used entries of row v are those of the row rule
  pub built_row : (v : ℕ) → v < n → decode (row_at w labels counts v) ≡ row_by n S L O k v
  unfolding rows_in
  built_row v p =
      (λ i. decode (row_at w (m.laid.rows i) (m.laid.numbers i) v))
      ∙ rows_back (record { given = m.given; below = omega arith; fit = m.narrow }) v p

  -- the rooms of an unrefused build hold the rows of the rule
  pub built_held : Held n w k S L O labels counts
  built_held =
      record {
        block = m.given.block;
        order = m.given.order;
        stop = m.given.stop;
        rooms = record {
          sizes = m.given.sizes;
          places = (laid_long m.laid).0;
          each = (laid_long m.laid).1;
        };
        narrow = λ v p.
            omega (
              arith,
              ap (λ (l : List ℕ). get_or l v 0) m.laid.numbers,
              count_at_lem n (row_by n S L O k) v p,
              m.narrow v p,
            );
        rows = built_row;
      }
