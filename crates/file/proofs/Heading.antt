-- The header's tests, one field after another.
use Rattle.std.specs.Prelude.{Ok, Err}
use Prim.Native.Nat.{ℕ, ◌+◌, ◌≤◌, ◌<◌}
use mathlib.Core.Path.{◌≡◌, refl, sym, ap, ap₂, ◌∙◌}
use mathlib.Core.Bool.{Bool}
use mathlib.Core.List.{List}
use native.Mathlib.Omega.{arith}
use lib.ListN.{length}
use lib.Dec.{leb, ltb, eqb}
use borrow.Author.Tests.{le-leb, lt-leb, lt-ltb, eq-eqb, ne_eqb, leb-true, ltb-true, eqb-true}
use Rattle.basics.proofs.Laws.{same_truth}
use Rattle.refusal.specs.Numbers.{SHORT, VERSION, FIELD}
use Rattle.refusal.specs.Tests.{◌then◌, refusal, test, Verdict, fine, Refusal}
use Rattle.refusal.proofs.Laws.{test_fine, test_refused, test_held, then_fine, after_fine, after_refused}
use Rattle.fields.specs.Bits.{field_at, byte_len}
use Rattle.file.specs.declared.Index.{Index}
use Rattle.file.specs.Inner.{step, Step}
use Rattle.file.specs.Reader.{short_test, field_test, frames_of, stop_of, header_test, opened, indexed, Opened}
use Rattle.fields.proofs.Bits.{field_lt}
use Rattle.file.proofs.Steps.{went_on, step_goes, short_fine, short_refused, field_fine, field_refused, field_there, field_legal}

-- the same answer, and what is told of it, as the two clauses of the reader's contract
pub read_said {ℓ} : {A B : Type ℓ} (f : A → B) {a b : A} → a ≡ b → record { given : a ≡ b; said : f a ≡ f b }
read_said f e = record { given = e; said = ap f e }

-- ---- an answer

pub opened_fine : {v : Verdict} (n k : ℕ) → v ≡ fine → indexed n k ≡ opened v n k
unfolding opened
opened_fine n k e = sym (ap (λ (v : Verdict). opened v n k) e)

pub opened_refused : {v : Verdict} {a : Opened} {r : Refusal} (n k : ℕ) → v ≡ Err r → a ≡ Err r → a ≡ opened v n k
unfolding opened
opened_refused n k e f = f ∙ sym (ap (λ (v : Verdict). opened v n k) e)

-- an index is told by n and k
pub index_is : (v : Verdict) {x : Index} (m l : ℕ) → Ok x ≡ opened v m l → (v ≡ fine) × (x.n ≡ m) × (x.k ≡ l)
unfolding opened
index_is (Ok _) {x} m l e =
    let same : x ≡ record { n = m; k = l } = cc in
    (refl, ap (λ (y : Index). y.n) same, ap (λ (y : Index). y.k) same)
index_is (Err r) m l e = absurd cc

-- and a refusal by itself
pub refused_is : (v : Verdict) {r : Refusal} (m l : ℕ) → Err r ≡ opened v m l → v ≡ Err r
unfolding opened
refused_is (Ok _) m l e = cc
refused_is (Err r) m l e = cc

-- ---- the fields of the header

below_next : (a b : ℕ) → ltb a (b + 1) ≡ leb a b
below_next a b =
    same_truth _ _ (λ e. le-leb a b (omega (arith, ltb-true a (b + 1) e))) (λ e. lt-ltb a (b + 1) (omega (arith, leb-true a b e)))

below_one : (a : ℕ) → ltb a 1 ≡ eqb a 0
below_one a =
    same_truth _ _ (λ e. eq-eqb a 0 (omega (arith, ltb-true a 1 e))) (λ e. lt-ltb a 1 (omega (arith, eqb-true a 0 e)))

module _ (s : List ℕ) where
  -- behind the version's bytes its value decides
  pub at_version : {x : Step} {v : ℕ} → x ≡ step (short_test s 0 4) (field_at s 0 4) → x ≡ Ok v
      → header_test s
      ≡ (test (eqb v 1) VERSION 0
      then short_test s 4 12
      then field_test s 16 13 (leb (stop_of s) (frames_of s))
      then field_test s 29 3 (eqb (field_at s 29 3) 0))
  unfolding header_test
  at_version e f =
      step_goes _ _ _ e f
      ∙ ap (λ (y : ℕ). test (eqb y 1) VERSION 0 then short_test s 4 12 then field_test s 16 13 (leb (stop_of s) (frames_of s)) then field_test s 29 3 (eqb (field_at s 29 3) 0))
      (sym (went_on _ _ e f).1)

  -- behind those of n the stop and the spare: n + 1 stops are legal, and one spare
  pub at_stop : {x : Step} {v : ℕ} → x ≡ step (short_test s 4 12) (field_at s 4 12) → x ≡ Ok v
      → (short_test s 4 12
      then field_test s 16 13 (leb (stop_of s) (frames_of s))
      then field_test s 29 3 (eqb (field_at s 29 3) 0))
      ≡ (field_test s 16 13 (ltb (field_at s 16 13) (v + 1 + 1)) then field_test s 29 3 (ltb (field_at s 29 3) 1))
  unfolding frames_of stop_of
  at_stop {v = v} e f =
      let n : field_at s 4 12 + 1 ≡ v + 1 = ap (λ (x : ℕ). x + 1) (sym (went_on _ _ e f).1) in
      step_goes _ _ _ e f
      ∙ ap₂ (λ (a b : Bool). field_test s 16 13 a then field_test s 29 3 b)
      (ap (leb (field_at s 16 13)) n ∙ sym (below_next (field_at s 16 13) (v + 1)))
      (sym (below_one (field_at s 29 3)))

  pub version_short : length s < 1 → header_test s ≡ Err (refusal SHORT 0)
  unfolding header_test byte_len
  version_short h = after_refused _ (short_refused s 0 4 h)

  pub version_other : 1 ≤ length s → (field_at s 0 4 ≡ 1 → ⊥) → header_test s ≡ Err (refusal VERSION 0)
  unfolding header_test byte_len
  version_other h g = after_fine _ (short_fine s 0 4 h) ∙ after_refused _ (test_refused VERSION 0 (ne_eqb _ _ g))

  pub stop_over : 4 ≤ length s → field_at s 0 4 ≡ 1 → frames_of s < stop_of s → header_test s ≡ Err (refusal FIELD 16)
  unfolding header_test byte_len
  stop_over h v g =
      after_fine _ (short_fine s 0 4 (omega arith)) ∙ after_fine _ (test_fine VERSION 0 (eq-eqb _ _ v))
      ∙ after_fine _ (short_fine s 4 12 (omega arith))
      ∙ after_refused _ (field_refused s 16 13 (short_fine s 16 13 h) (lt-leb _ _ g))

  -- behind a legal stop
  behind_stop : 4 ≤ length s → field_at s 0 4 ≡ 1 → stop_of s ≤ frames_of s
      → header_test s ≡ field_test s 29 3 (eqb (field_at s 29 3) 0)
  unfolding header_test byte_len
  behind_stop h v g =
      after_fine _ (short_fine s 0 4 (omega arith)) ∙ after_fine _ (test_fine VERSION 0 (eq-eqb _ _ v))
      ∙ after_fine _ (short_fine s 4 12 (omega arith))
      ∙ after_fine _ (field_fine s 16 13 (short_fine s 16 13 h) (le-leb _ _ g))

  pub spare_set : 4 ≤ length s → field_at s 0 4 ≡ 1 → stop_of s ≤ frames_of s → (field_at s 29 3 ≡ 0 → ⊥)
      → header_test s ≡ Err (refusal FIELD 29)
  unfolding byte_len
  spare_set h v g z = behind_stop h v g ∙ field_refused s 29 3 (short_fine s 29 3 h) (ne_eqb _ _ z)

  pub header_fine : 4 ≤ length s → field_at s 0 4 ≡ 1 → stop_of s ≤ frames_of s → field_at s 29 3 ≡ 0
      → header_test s ≡ fine
  unfolding byte_len
  header_fine h v g z = behind_stop h v g ∙ field_fine s 29 3 (short_fine s 29 3 h) (eq-eqb _ _ z)

  pub frames_most : frames_of s ≤ 4096
  unfolding frames_of
  frames_most = omega (arith, field_lt s 4 12)

  pub frames_some : 1 ≤ frames_of s
  unfolding frames_of
  frames_some = omega arith

-- a header that is fine: version 1, a stop of at most n, spare 0, and four bytes
pub record Headed (s : List ℕ) : Type 0 where
  pub version : field_at s 0 4 ≡ 1
  pub stop : stop_of s ≤ frames_of s
  pub spare : field_at s 29 3 ≡ 0
  pub long : 4 ≤ length s

pub headed : (s : List ℕ) → header_test s ≡ fine → Headed s
unfolding header_test byte_len
headed s e =
    let (a, rest) = then_fine _ _ e in
    let (version, rest2) = then_fine _ _ rest in
    let (b, rest3) = then_fine _ _ rest2 in
    let (stop, spare) = then_fine _ _ rest3 in
    record {
      version = eqb-true _ _ (test_held _ VERSION 0 version);
      stop = leb-true _ _ (field_legal s 16 13 _ stop);
      spare = eqb-true _ _ (field_legal s 29 3 _ spare);
      long = field_there s 29 3 _ spare;
    }
