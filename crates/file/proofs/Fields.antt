-- The laws of the reader's tests, one field after another: where a test stops, where it goes on, where it ends.
use Rattle.std.specs.Prelude.{Err}
use Prim.Native.Nat.{ℕ, ◌+◌, ◌*◌, ◌≤◌, ◌<◌}
use mathlib.Core.Path.{◌≡◌, refl, sym, ap, ap₂, ◌∙◌}
use mathlib.Core.Bool.{Bool, true, false, not, ◌&&◌, ◌||◌}
use mathlib.Core.List.{List}
use native.Mathlib.Omega.{arith}
use native.Mathlib.Nat.{sub-zero}
use native.Mathlib.Numerals.{add-one}
use lib.ListN.{length}
use lib.Dec.{leb, ltb}
use borrow.Author.Tests.{le-leb, lt-leb, lt-ltb, leb-true, eq-eqb, ne_eqb, not-true}
use Rattle.basics.specs.Places.{stands}
use Rattle.basics.proofs.Laws.{both_true, not_of_false}
use Rattle.refusal.specs.Numbers.{ROOM, FIELD, LONG}
use Rattle.refusal.specs.Tests.{◌then◌, refusal, test, Verdict, fine, Refusal}
use Rattle.refusal.proofs.Laws.{test_fine, test_refused, test_held, then_fine, after_fine, after_refused, tests_on}
use Rattle.links.specs.Order.{faulty_rank}
use Rattle.links.proofs.Order.{rank_sound, sound_inside}
use Rattle.fields.specs.Bits.{field_at, byte_len, pad_len}
use Rattle.file.specs.Reader.{short_test, field_test, frame_at, order_field_test, order_from, entry_test, low_at, entries_from, row_fields_test, row_bit, rows_from, end_test, body_test}
use Rattle.file.specs.Inner.{Rises}
use Rattle.file.proofs.Steps.{field_fine, field_more, field_there}

-- ---- the order

module _ (s : List ℕ) (n r : ℕ) where
  pub order_out : {f : Refusal} → field_test s (32 + 12 * r) 12 (ltb (frame_at s r) n) ≡ Err f
      → order_field_test s n r ≡ Err f
  unfolding order_field_test
  order_out e = field_more s _ 12 _ _ (λ h. lt-ltb _ _ (sound_inside n (frame_at s) r (not-true _ h))) e

  -- behind a frame below n it is left whether it stands at a lower rank
  pub order_left : short_test s (32 + 12 * r) 12 ≡ fine → frame_at s r < n
      → order_field_test s n r ≡ test (not (stands (frame_at s) r (frame_at s r))) FIELD (32 + 12 * r)
  unfolding order_field_test field_test faulty_rank
  order_left e h =
      after_fine _ e
      ∙ ap (λ (b : Bool). test (not (b || stands (frame_at s) r (frame_at s r))) FIELD (32 + 12 * r)) (lt-leb n (frame_at s r) h)

  pub order_legal : short_test s (32 + 12 * r) 12 ≡ fine → frame_at s r < n → stands (frame_at s) r (frame_at s r) ≡ false
      → order_field_test s n r ≡ fine
  unfolding order_field_test
  order_legal e h k = field_fine s _ 12 e (not_of_false (rank_sound n (frame_at s) r h k))

-- ---- one entry

right_true : (a b : Bool) → b ≡ true → a && b ≡ a
right_true true b e = e
right_true false b e = refl

module _ (s : List ℕ) (n k p low : ℕ) where
  pub entry_rank : {f : Refusal} → field_test s p 12 (ltb (field_at s p 12) k) ≡ Err f
      → entry_test s n k p low ≡ Err f
  unfolding entry_test
  entry_rank e = after_refused _ (field_more s p 12 _ _ (λ h. (both_true (leb low (field_at s p 12)) _ h).1) e)

  -- behind a rank below k it is left whether it is above the one before, and then the joins
  pub entry_left : {rank : ℕ} → short_test s p 12 ≡ fine → rank ≡ field_at s p 12 → rank < k
      → entry_test s n k p low
      ≡ (test (leb low rank) FIELD p then field_test s (p + 12) 12 (ltb (field_at s (p + 12) 12) n))
  unfolding entry_test field_test
  entry_left {rank} e q h =
      let less : ltb (field_at s p 12) k ≡ true = lt-ltb (field_at s p 12) k (omega arith) in
      let legal : leb low (field_at s p 12) && ltb (field_at s p 12) k ≡ leb low rank = right_true _ _ less ∙ ap (leb low) (sym q) in
      ap (λ (v : Verdict). v then field_test s (p + 12) 12 (ltb (field_at s (p + 12) 12) n)) (after_fine _ e ∙ ap (λ (b : Bool). test b FIELD p) legal)

  pub entry_legal : short_test s p 12 ≡ fine → low ≤ field_at s p 12 → field_at s p 12 < k
      → short_test s (p + 12) 12 ≡ fine → field_at s (p + 12) 12 < n → entry_test s n k p low ≡ fine
  entry_legal e h g j l = entry_left e refl g ∙ after_fine _ (test_fine FIELD p (le-leb _ _ h)) ∙ field_fine s _ 12 j (lt-ltb _ _ l)

-- ---- entries seen at once

module _ (s : List ℕ) (n p count : ℕ) where
  pub rises_none : Rises s n p count 0 0
  unfolding low_at
  rises_none = record { within = omega arith; lowest = refl; left = λ k low. ap (entries_from s n k p 0) (sub-zero count) }

  -- one more, at the bit q of entry `seen`
  pub rises_more : {seen low q rank : ℕ} → Rises s n p count seen low → seen < count → q ≡ p + 24 * seen → rank ≡ field_at s q 12 → low ≤ rank
      → ((k : ℕ) → rank < k → entry_test s n k q low ≡ fine) → Rises s n p count (seen + 1) (rank + 1)
  unfolding low_at
  rises_more {seen} {low} {q} {rank} r more stands is rises legal =
      record {
        within = omega arith;
        lowest = ap (λ (x : ℕ). x + 1) is ∙ ap (λ (x : ℕ). field_at s x 12 + 1) stands ∙ ap (low_at s p) (sym (add-one seen));
        left = λ k high.
            tests_on _ seen count more (ap₂ (entry_test s n k) (sym stands) (sym r.lowest) ∙ legal k (omega arith)) ∙ r.left k (omega arith);
      }

-- ---- one row

module _ (s : List ℕ) (n w k v p : ℕ) where
  pub row_count : {f : Refusal} → field_test s p 9 (ltb (field_at s p 9) 257) ≡ Err f
      → row_fields_test s n w k v p ≡ Err f
  unfolding row_fields_test
  row_count e = after_refused _ (field_more s p 9 _ _ (λ h. lt-ltb (field_at s p 9) 257 (omega (arith, leb-true (field_at s p 9) 256 h))) e)

  -- behind a legal count it is left whether it fits the width, and then the entries
  pub row_left : {count : ℕ} → short_test s p 9 ≡ fine → count ≡ field_at s p 9 → count < 257
      → row_fields_test s n w k v p ≡ (test (leb count w) ROOM v then entries_from s n k (p + 9) 0 count)
  unfolding row_fields_test
  row_left e q h =
      after_fine _ (field_fine s p 9 e (le-leb (field_at s p 9) 256 (omega arith)))
      ∙ ap (λ (c : ℕ). test (leb c w) ROOM v then entries_from s n k (p + 9) 0 c) (sym q)

  pub row_room : short_test s p 9 ≡ fine → field_at s p 9 ≤ 256 → w < field_at s p 9
      → row_fields_test s n w k v p ≡ Err (refusal ROOM v)
  row_room e h g = row_left e refl (omega arith) ∙ after_refused _ (test_refused ROOM v (lt-leb _ _ g))

  -- the count of a row that is fine
  pub row_fits : row_fields_test s n w k v p ≡ fine → field_at s p 9 ≤ w
  unfolding row_fields_test
  row_fits e = leb-true _ _ (test_held _ ROOM v (then_fine _ _ (then_fine _ _ e).1).0)

  pub row_there : row_fields_test s n w k v p ≡ fine → byte_len (p + 9) ≤ length s
  unfolding row_fields_test
  row_there e = field_there s p 9 _ (then_fine _ _ e).0

  pub row_fine : row_fields_test s n w k v p ≡ fine → entries_from s n k (p + 9) 0 (field_at s p 9) ≡ fine
  unfolding row_fields_test
  row_fine e = (then_fine _ _ (then_fine _ _ e).1).1

-- ---- the end

module _ (s : List ℕ) (p : ℕ) where
  pub end_fill : (field_at s p (pad_len p) ≡ 0 → ⊥) → end_test s p ≡ Err (refusal FIELD p)
  unfolding end_test
  end_fill h = after_refused _ (test_refused FIELD p (ne_eqb _ _ h))

  pub end_long : field_at s p (pad_len p) ≡ 0 → byte_len p < length s → end_test s p ≡ Err (refusal LONG (byte_len p))
  unfolding end_test
  end_long h g = after_fine _ (test_fine FIELD p (eq-eqb _ _ h)) ∙ test_refused LONG (byte_len p) (lt-leb _ _ g)

  pub end_fine : field_at s p (pad_len p) ≡ 0 → length s ≤ byte_len p → end_test s p ≡ fine
  unfolding end_test
  end_fine h g = after_fine _ (test_fine FIELD p (eq-eqb _ _ h)) ∙ test_fine LONG (byte_len p) (le-leb _ _ g)

-- ---- everything behind the header

module _ (s : List ℕ) (n w k : ℕ) where
  pub body_end : (p : ℕ) → order_from s n 0 n ≡ fine → rows_from s n w k 0 n ≡ fine
      → p ≡ row_bit s n n → body_test s n w k ≡ end_test s p
  unfolding body_test
  body_end p e g q = after_fine _ e ∙ after_fine _ g ∙ ap (end_test s) (sym q)
