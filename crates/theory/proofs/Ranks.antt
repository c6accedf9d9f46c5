-- n different numbers below n are all of them: the numbers that stand at a place grow by one with each place, so n of them
-- leave none out. So every frame has a rank, and only one.
use Prim.Native.Nat.{ℕ, zero, suc, ◌≤◌, ◌<◌}
use mathlib.Core.Path.{◌≡◌, refl}
use mathlib.Core.Bool.{true, false}
use mathlib.Core.List.{List}
use native.Mathlib.Omega.{arith}
use Rattle.basics.specs.Places.{stands, count}
use Rattle.basics.proofs.Laws.{bcase, not_both, stands_at, stands_by, stands_not, once_same, count_more, count_gap}
use Rattle.theory.specs.Links.{Order, hub_of}

module _ (m n : ℕ) (f : ℕ → ℕ) (inside : (r : ℕ) → r < m → f r < n)
    (once : (r s : ℕ) → r < s → s < m → f r ≡ f s → ⊥) where
  -- the first k numbers mark at least k places
  stands_count : (k : ℕ) → k ≤ m → k ≤ count (stands f k) n
  stands_count zero h = omega arith
  stands_count (suc k) h =
      let rest : k ≤ count (stands f k) n = stands_count k (omega arith) in
      let new : stands f k (f k) ≡ false = stands_not f k (f k) (λ r l. once r k l (omega arith)) in
      let more : (v : ℕ) → v < n → stands f k v ≡ true → stands f (suc k) v ≡ true =
      λ v l e.
      let (r, b, q) = stands_by f k v e in
      stands_at f (suc k) r (omega arith) q in
      omega
      (arith, count_more (stands f k) (stands f (suc k)) n (f k) more (inside k (omega arith)) new (stands_at f (suc k) k (omega arith) refl))

  -- different numbers below n that leave one out are fewer than n
  pub fewer : (v : ℕ) → v < n → ((r : ℕ) → r < m → f r ≡ v → ⊥) → m < n
  fewer v h out = omega (arith, count_gap (stands f m) n v h (stands_not f m v out), stands_count m (omega arith))

-- n different numbers below n: each number below n is one of them
pub onto : (n : ℕ) (f : ℕ → ℕ) → ((r : ℕ) → r < n → f r < n) → ((r s : ℕ) → r < s → s < n → f r ≡ f s → ⊥)
    → (v : ℕ) → v < n → (r : ℕ) × (r < n) × (f r ≡ v)
onto n f inside once v h =
    bcase (stands f n v) (stands_by f n v)
    (λ e. absurd (omega (arith, fewer n n f inside once v h (λ r l q. not_both (stands_at f n r l q) e))))

-- every frame has a rank
pub ranks_all : {n : ℕ} {O : List ℕ} → Order n O → (v : ℕ) → v < n → (r : ℕ) × (r < n) × (hub_of O r ≡ v)
ranks_all {n} {O} order = onto n (hub_of O) order.inside order.once

-- and only one
pub rank_one : {n : ℕ} {O : List ℕ} → Order n O → (r s : ℕ) → r < n → s < n → hub_of O r ≡ hub_of O s → r ≡ s
rank_one {n} {O} order = once_same n (hub_of O) order.once
