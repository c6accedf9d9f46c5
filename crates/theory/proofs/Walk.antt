-- The walk over whatever rows: a finished walk is one of a kind. A frame met at level m was met from a frame of a lower
-- level, on which two finished walks agree; so neither meets it later than the other.
use Prim.Native.Nat.{ℕ, zero, suc, ◌+◌, ◌≤◌, ◌<◌}
use mathlib.Core.Path.{◌≡◌, sym, ap, ◌∙◌}
use native.Mathlib.Decide.{ℕ_discrete}
use native.Mathlib.Omega.{arith}
use Rattle.basics.proofs.Laws.{by_cases, lt_or_ge}
use Rattle.theory.specs.Walk.{Met}

one_below : {B n : ℕ} {W : ℕ → ℕ → ℕ} {A : ℕ → ℕ} {x : ℕ} {t s : ℕ → ℕ} → ((u v : ℕ) → u < n → v < n → 1 ≤ W u v)
    → Met B n W A x t → Met B n W A x s → (m v : ℕ) → v < n → t v < m → t v < B → t v ≡ s v
one_below cost a b zero v p l g = absurd (omega arith)
one_below {B} {n} {W} {A} {x} {t} {s} cost a b (suc m) v p l g =
    by_cases (ℕ_discrete v x)
    (λ (e : v ≡ x). ap t e ∙ a.start ∙ sym b.start ∙ ap s (sym e))
    (λ e.
    let (u, q, less, step) = a.from v p e g in
    let c : 1 ≤ W u v = cost u v q p in
    let same : t u ≡ s u = one_below cost a b m u q (omega arith) (omega arith) in
    let most : s v ≤ s u + W u v = b.on u v q p (omega arith) in
    by_cases (ℕ_discrete (s v) (t v))
    (λ f. sym f)
    (λ f. sym (one_below cost b a m v p (omega arith) (omega arith))))

-- a finished walk is determined
pub one_walk : {B n : ℕ} {W : ℕ → ℕ → ℕ} {A : ℕ → ℕ} {x : ℕ} {t s : ℕ → ℕ} → ((u v : ℕ) → u < n → v < n → 1 ≤ W u v)
    → Met B n W A x t → Met B n W A x s → (v : ℕ) → v < n → t v ≡ s v
one_walk {B} {n} {W} {A} {x} {t} {s} cost a b v p =
    lt_or_ge (t v) B
    (one_below cost a b (suc (t v)) v p (omega arith))
    (λ g.
    lt_or_ge (s v) B
    (λ l. sym (one_below cost b a (suc (s v)) v p (omega arith) l))
    (λ l. omega (arith, a.cap v p, b.cap v p)))
