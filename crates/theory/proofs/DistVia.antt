-- Chains put together and taken apart, and Floyd's recurrence over any weights: it is a chain's sum where it is below B,
-- obeys the triangle law over the frames below k, and turns round with its weights.
use Prim.Native.Nat.{ℕ, zero, suc, ◌+◌, ◌≤◌, ◌<◌, min}
use mathlib.Core.Path.{◌≡◌, refl, sym, ap, ◌∙◌}
use native.Mathlib.Decide.{ℕ_discrete}
use native.Mathlib.Omega.{arith}
use borrow.Author.Tests.{eq-eqb, ne_eqb}
use Rattle.basics.proofs.Laws.{by_cases, lt_or_ge, cond_true, cond_false}
use Rattle.theory.specs.Chains.{Chain, stay, step}
use Rattle.theory.specs.Distance.{via}

module _ {K : ℕ → ℕ → ℕ → Type 0} {a : ℕ} where
  pub chain_sum : {b m k : ℕ} → k ≡ m → Chain K a b m → Chain K a b k
  chain_sum e c = rw e c

  -- one chain behind another
  pub chain_join : {b c m j k : ℕ} → Chain K a b m → Chain K b c j → k ≡ m + j → Chain K a c k
  chain_join x stay e = chain_sum (omega arith) x
  chain_join {m} {k} x (step {m = i} {w = w} y l f) e =
      let sum : k ≡ m + i + w = omega arith in
      step (chain_join x y refl) l sum

  -- a chain between two frames has a last link
  pub chain_last : {v m : ℕ} → Chain K a v m → (a ≡ v → ⊥)
      → (u : ℕ) × (j : ℕ) × (w : ℕ) × Chain K a u j × K u v w × (m ≡ j + w)
  chain_last stay far = absurd (far refl)
  chain_last (step {b = u} {m = j} {w = w} x l e) far = (u, j, w, x, l, e)

module _ (B : ℕ) (W : ℕ → ℕ → ℕ) where
  via_same : (a b : ℕ) → a ≡ b → via B W zero a b ≡ 0
  unfolding via
  via_same a b e = cond_true _ _ (eq-eqb a b e)

  via_link : (a b : ℕ) → (a ≡ b → ⊥) → via B W zero a b ≡ min B (W a b)
  unfolding via
  via_link a b e = cond_false _ _ (ne_eqb a b e)

  pub via_most : (k a b : ℕ) → via B W k a b ≤ B
  unfolding via
  via_most zero a b =
      by_cases (ℕ_discrete a b) (λ e. omega (arith, via_same a b e)) (λ e. omega (arith, via_link a b e))
  via_most (suc k) a b = omega (arith, via_most k a b)

  pub via_self : (k a : ℕ) → via B W k a a ≡ 0
  unfolding via
  via_self zero a = via_same a a refl
  via_self (suc k) a = omega (arith, via_self k a)

  -- a link is a way
  pub via_weight : (k a b : ℕ) → via B W k a b ≤ W a b
  unfolding via
  via_weight zero a b =
      by_cases (ℕ_discrete a b) (λ e. omega (arith, via_same a b e)) (λ e. omega (arith, via_link a b e))
  via_weight (suc k) a b = omega (arith, via_weight k a b)

  -- the triangle law: one more frame in between is the recurrence, the others are the law for less
  pub via_triangle : (k a x b : ℕ) → x < k → via B W k a b ≤ via B W k a x + via B W k x b
  unfolding via
  via_triangle zero a x b h = absurd (omega arith)
  via_triangle (suc k) a x b h =
      by_cases (ℕ_discrete x k)
      (λ (e : x ≡ k). rw e (omega arith))
      (λ e.
      omega
      (arith, via_triangle k a x b (omega arith), via_triangle k k x b (omega arith), via_triangle k a x k (omega arith)))

  -- the weights turned round turn the ways round
  pub via_swap : (n : ℕ) → ((u v : ℕ) → u < n → v < n → W u v ≡ W v u)
      → (k a b : ℕ) → k ≤ n → a < n → b < n → via B W k a b ≡ via B W k b a
  unfolding via
  via_swap n turn zero a b h p q =
      by_cases (ℕ_discrete a b)
      (λ e. via_same a b e ∙ sym (via_same b a (sym e)))
      (λ e. via_link a b e ∙ ap (min B) (turn a b p q) ∙ sym (via_link b a (λ f. e (sym f))))
  via_swap n turn (suc k) a b h p q =
      omega (
        arith,
        via_swap n turn k a b (omega arith) p q,
        via_swap n turn k a k (omega arith) p (omega arith),
        via_swap n turn k k b (omega arith) (omega arith) q,
      )

  -- below B it is the sum of a chain
  pub via_chain : (K : ℕ → ℕ → ℕ → Type 0) → ((u v : ℕ) → W u v < B → K u v (W u v))
      → (k a b : ℕ) → via B W k a b < B → Chain K a b (via B W k a b)
  unfolding via
  via_chain K link zero a b h =
      by_cases (ℕ_discrete a b)
      (λ (e : a ≡ b). chain_sum (via_same a b e) (rw (← e) stay))
      (λ e.
      let f : via B W zero a b ≡ min B (W a b) = via_link a b e in
      step stay (link a b (omega arith)) (omega arith))
  via_chain K link (suc k) a b h =
      lt_or_ge (via B W k a k + via B W k k b) (via B W k a b)
      (λ l.
      chain_join (via_chain K link k a k (omega (arith, via_most k a b))) (via_chain K link k k b (omega (arith, via_most k a b)))
      (omega arith))
      (λ g. chain_sum (omega arith) (via_chain K link k a b (omega arith)))
