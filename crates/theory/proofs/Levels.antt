-- The walk level by level is a finished walk, when every penalty is 1. A level once known stays; a frame of a level is
-- met from a kept frame one level less; and n levels suffice, since a frame of level l has frames of every lower level
-- behind it, and there are n frames.
use Prim.Native.Nat.{ℕ, zero, suc, ◌≤◌, ◌<◌}
use mathlib.Core.Path.{◌≡◌, refl, ap, ◌∙◌}
use mathlib.Core.Logic.{◌⊎◌, inl, inr}
use mathlib.Core.Bool.{Bool, true, false, cond, ◌&&◌}
use native.Mathlib.Decide.{ℕ_discrete}
use native.Mathlib.Omega.{arith}
use lib.Dec.{eqb, ltb}
use borrow.Author.Tests.{eq-eqb, ne_eqb, lt-ltb, le-ltb, ltb-true, eqb-true}
use Rattle.basics.specs.Places.{some, count}
use Rattle.basics.proofs.Laws.{bcase, by_cases, cases, lt_or_ge, both, both_true, cond_true, cond_false, cond_ge, some_one, some_found, count_most, count_lower}
use Rattle.theory.specs.Walk.{Met, levels}
use Rattle.theory.proofs.Walk.{one_walk}

-- the penalty of a link where all are 1
abbrev pub one_each : ℕ → (ℕ → ℕ → Bool) → ℕ → ℕ → ℕ
one_each B J u v = cond (J u v) 1 B

module _ (B n : ℕ) (J : ℕ → ℕ → Bool) (A : ℕ → ℕ) (x : ℕ) (inside : x < n) (room : n < B) where
  -- the levels known after level d
  known : ℕ → ℕ → ℕ
  known d v = levels B n J A x d v

  -- a neighbour of a kept frame of level d
  reached : ℕ → ℕ → Bool
  reached d v = some (λ u. eqb (known d u) d && ltb d (A u) && J u v) 0 n

  at_start : (v : ℕ) → ((v ≡ x) × (known zero v ≡ 0)) ⊎ ((v ≡ x → ⊥) × (known zero v ≡ B))
  unfolding known levels
  at_start v =
      by_cases (ℕ_discrete v x)
      (λ e. inl (e, cond_true _ _ (eq-eqb v x e)))
      (λ e. inr (e, cond_false _ _ (ne_eqb v x e)))

  -- known before; or met now; or not met
  stays : (d v : ℕ) → known d v < B → known (suc d) v ≡ known d v
  unfolding known levels
  stays d v h = cond_true _ _ (lt-ltb (levels B n J A x d v) B h)

  met_now : (d v : ℕ) → B ≤ known d v → reached d v ≡ true → known (suc d) v ≡ suc d
  unfolding known levels reached
  met_now d v h e = cond_false _ _ (le-ltb (levels B n J A x d v) B h) ∙ cond_true _ _ e

  not_met : (d v : ℕ) → B ≤ known d v → reached d v ≡ false → known (suc d) v ≡ B
  unfolding known levels reached
  not_met d v h e = cond_false _ _ (le-ltb (levels B n J A x d v) B h) ∙ cond_false _ _ e

  stage {ℓ} : {C : Type ℓ} (d v : ℕ) → (known d v < B → known (suc d) v ≡ known d v → C)
      → (B ≤ known d v → reached d v ≡ true → known (suc d) v ≡ suc d → C) → (known (suc d) v ≡ B → C) → C
  stage d v old new not =
      lt_or_ge (known d v) B
      (λ h. old h (stays d v h))
      (λ h. bcase (reached d v) (λ e. new h e (met_now d v h e)) (λ e. not (not_met d v h e)))

  -- a frame that is a neighbour of a kept frame of level d
  reached_by : (d v : ℕ) → reached d v ≡ true → (u : ℕ) × (u < n) × (known d u ≡ d) × (d < A u) × (J u v ≡ true)
  unfolding reached
  reached_by d v e =
      let (u, low, h, m) = some_found (λ z. eqb (known d z) d && ltb d (A z) && J z v) 0 n e in
      let (p, q) = both_true (eqb (known d u) d && ltb d (A u)) (J u v) m in
      let (a, b) = both_true (eqb (known d u) d) (ltb d (A u)) p in
      (u, omega arith, eqb-true (known d u) d a, ltb-true d (A u) b, q)

  reaches : (d u v : ℕ) → u < n → known d u ≡ d → d < A u → J u v ≡ true → reached d v ≡ true
  unfolding reached
  reaches d u v h a b q =
      some_one (λ z. eqb (known d z) d && ltb d (A z) && J z v) 0 n u (omega arith) (omega arith)
      (both (eqb (known d u) d && ltb d (A u)) (J u v) (both (eqb (known d u) d) (ltb d (A u)) (eq-eqb (known d u) d a) (lt-ltb d (A u) b)) q)

  level_cap : (d v : ℕ) → d ≤ n → known d v ≤ B
  level_cap zero v h = cases (at_start v) (λ z. omega arith) (λ z. omega arith)
  level_cap (suc d) v h =
      stage d v (λ l e. omega arith) (λ l r e. omega arith) (λ e. omega arith)

  level_most : (d v : ℕ) → d ≤ n → known d v < B → known d v ≤ d
  level_most zero v h l = cases (at_start v) (λ z. omega arith) (λ z. omega arith)
  level_most (suc d) v h l =
      stage d v (λ g e. omega (arith, level_most d v (omega arith) g)) (λ g r e. omega arith) (λ e. omega arith)

  level_start : (d : ℕ) → known d x ≡ 0
  level_start zero = cases (at_start x) (λ z. z.1) (λ z. absurd (z.0 refl))
  level_start (suc d) =
      let before : known d x ≡ 0 = level_start d in
      stays d x (omega arith) ∙ before

  -- a frame is met from a kept frame one level less
  level_from : (d v : ℕ) → d ≤ n → v < n → (v ≡ x → ⊥) → known d v < B
      → (u : ℕ) × (u < n) × (known d u < A u) × (known d v ≡ suc (known d u)) × (J u v ≡ true)
  level_from zero v h p e l = cases (at_start v) (λ z. absurd (e z.0)) (λ z. absurd (omega arith))
  level_from (suc d) v h p e l =
      stage d v
      (λ g f.
      let (u, q, kept, up, near) = level_from d v (omega arith) p e g in
      let same : known (suc d) u ≡ known d u = stays d u (omega arith) in
      (u, q, omega arith, omega arith, near))
      (λ g r f.
      let (u, q, here, kept, near) = reached_by d v r in
      let same : known (suc d) u ≡ known d u = stays d u (omega arith) in
      (u, q, omega arith, omega arith, near))
      (λ f. absurd (omega arith))

  -- a kept frame's neighbours are met at the next level or before
  level_on : (d u v : ℕ) → d ≤ n → u < n → v < n → known d u < d → known d u < A u → J u v ≡ true → known d v ≤ suc (known d u)
  level_on zero u v h p q less kept near = absurd (omega arith)
  level_on (suc d) u v h p q less kept near =
      stage d u
      (λ g e.
      by_cases (ℕ_discrete (known d u) d)
      (λ f.
      stage d v
      (λ i j. omega (arith, level_most d v (omega arith) i))
      (λ i j k. omega arith)
      (λ k.
      lt_or_ge (known d v) B
      (λ i. omega (arith, level_most d v (omega arith) i, stays d v i))
      (λ i. omega (arith, met_now d v i (reaches d u v p f (omega arith) near)))))
      (λ f.
      let next : known d v ≤ suc (known d u) = level_on d u v (omega arith) p q (omega (arith, level_most d u (omega arith) g)) (omega arith) near in
      omega (arith, stays d v (omega arith))))
      (λ g r e. absurd (omega arith))
      (λ e. absurd (omega arith))

  -- a frame of level l has l frames of lower levels behind it: the frame that it was met from has one level less
  behind : (l v : ℕ) → v < n → known n v ≡ l → l < B → suc l ≤ count (λ u. ltb (known n u) (suc l)) n
  behind zero v p e g = omega (arith, count_lower (known n) n v zero 1 p (omega arith) (omega arith))
  behind (suc l) v p e g =
      let other : v ≡ x → ⊥ = λ f. omega (arith, level_start n, ap (known n) f) in
      let (u, q, kept, up, near) = level_from n v (omega arith) p other (omega arith) in
      omega (
        arith,
        behind l u q (omega arith) (omega arith),
        count_lower (known n) n v (suc l) (suc (suc l)) p (omega arith) (omega arith),
      )

  -- so n levels suffice
  level_below : (u : ℕ) → u < n → known n u < B → known n u < n
  level_below u p h =
      by_cases (ℕ_discrete (known n u) n)
      (λ e. absurd (omega (arith, behind n u p e room, count_most (λ v. ltb (known n v) (suc n)) n)))
      (λ e. omega (arith, level_most n u (omega arith) h))

  -- the levels are a finished walk
  pub levels_met : Met B n (one_each B J) A x (levels B n J A x n)
  unfolding known
  levels_met =
      record {
        cap = λ v p. level_cap n v (omega arith);
        start = level_start n;
        on = λ u v p q kept.
            bcase (J u v)
            (λ near.
            let one : one_each B J u v ≡ 1 = cond_true 1 B near in
            lt_or_ge (known n u) B
            (λ h. omega (arith, level_on n u v (omega arith) p q (level_below u p h) kept near))
            (λ h. omega (arith, level_cap n v (omega arith))))
            (λ apart. omega (arith, cond_false {A = ℕ} 1 B apart, level_cap n v (omega arith)));
        from = λ v p e h.
            let (u, q, kept, up, near) = level_from n v (omega arith) p e h in
            (u, q, kept, omega (arith, cond_true {A = ℕ} 1 B near));
      }

  -- and the only one
  pub met_levels : (t : ℕ → ℕ) → Met B n (one_each B J) A x t → (v : ℕ) → v < n → t v ≡ levels B n J A x n v
  met_levels t met = one_walk (λ u v p q. cond_ge (J u v) 1 (omega arith) (omega arith)) met levels_met
