-- What tests that are fine show: every field is there and legal, and the rows stand where `row_bit` says.
use Rattle.refusal.specs.Tests.{fine}
use Prim.Native.Nat.{ℕ, zero, suc, ◌+◌, ◌-◌, ◌*◌, ◌≤◌, ◌<◌}
use mathlib.Core.Path.{◌≡◌, subst}
use mathlib.Core.List.{List}
use native.Mathlib.Omega.{arith}
use native.Mathlib.Decide.{ℕ_discrete}
use lib.ListN.{length}
use borrow.Author.Tests.{leb-true, ltb-true}
use Rattle.basics.proofs.Laws.{by_cases, both_true}
use Rattle.refusal.proofs.Laws.{then_fine, tests_each}
use Rattle.fields.specs.Bits.{field_at, byte_len}
use Rattle.file.specs.Reader.{order_field_test, order_from, entry_test, entries_from, row_fields_test, bit_behind, rows_from, row_bit}
use Rattle.fields.proofs.Bits.{field_lt}
use Rattle.file.proofs.Steps.{field_there, field_legal}
use Rattle.file.proofs.Fields.{row_fine, row_there}

-- ---- the order

module _ (s : List ℕ) (n : ℕ) where
  -- the bytes reach to the end of a field that is fine
  pub order_there : (j : ℕ) → order_field_test s n j ≡ fine → byte_len (32 + 12 * j + 12) ≤ length s
  unfolding order_field_test
  order_there j e = field_there s _ 12 _ e

-- ---- the entries of a row

module _ (s : List ℕ) (n k : ℕ) where
  entry_there : (p low : ℕ) → entry_test s n k p low ≡ fine → byte_len (p + 24) ≤ length s
  unfolding entry_test
  entry_there p low e =
      subst (λ (x : ℕ). byte_len x ≤ length s) (omega arith) (field_there s (p + 12) 12 _ (then_fine _ _ e).1)

  pub entry_next : (p low : ℕ) → entry_test s n k p low ≡ fine → (low ≤ field_at s p 12) × (field_at s p 12 < k)
  unfolding entry_test
  entry_next p low e =
      let (a, b) = both_true _ _ (field_legal s p 12 _ (then_fine _ _ e).0) in
      (leb-true _ _ a, ltb-true _ _ b)

  pub entry_near : (p low : ℕ) → entry_test s n k p low ≡ fine → field_at s (p + 12) 12 < n
  unfolding entry_test
  entry_near p low e = ltb-true _ _ (field_legal s (p + 12) 12 _ (then_fine _ _ e).1)

  entries_there : (p count : ℕ) → byte_len p ≤ length s → entries_from s n k p 0 count ≡ fine
      → byte_len (p + 24 * count) ≤ length s
  entries_there p zero h e = subst (λ (x : ℕ). byte_len x ≤ length s) (omega arith) h
  entries_there p (suc i) h e =
      subst (λ (x : ℕ). byte_len x ≤ length s) (omega arith)
      (entry_there (p + 24 * i) _ (tests_each _ (suc i) e i (omega arith)))

-- ---- the rows

-- the bytes reach to the end of a row that is fine
pub row_reaches : (s : List ℕ) (n w k v p : ℕ) → row_fields_test s n w k v p ≡ fine → byte_len (bit_behind s p) ≤ length s
unfolding bit_behind
row_reaches s n w k v p e =
    entries_there s n k (p + 9) (field_at s p 9) (row_there s n w k v p e) (row_fine s n w k v p e)

-- rows are short enough
pub bit_near : (s : List ℕ) (n v : ℕ) → row_bit s n v ≤ 32 + 12 * n + 12273 * v
unfolding row_bit bit_behind
bit_near s n zero = omega arith
bit_near s n (suc v) = omega (arith, bit_near s n v, field_lt s (row_bit s n v) 9)

-- the bytes reach to the end of the order and of each row
module _ (s : List ℕ) (n w k : ℕ) (rowed : rows_from s n w k 0 n ≡ fine) where
  pub bits_there : 4 ≤ length s → order_from s n 0 n ≡ fine → (v : ℕ) → v ≤ n → byte_len (row_bit s n v) ≤ length s
  unfolding row_bit byte_len
  bits_there long ordered zero h =
      by_cases (ℕ_discrete n 0)
      (λ (q : n ≡ 0). omega arith)
      (λ q. omega (arith, order_there s n (n - 1) (tests_each _ n ordered (n - 1) (omega arith))))
  bits_there long ordered (suc v) h = row_reaches s n w k v (row_bit s n v) (tests_each _ n rowed v (omega arith))
