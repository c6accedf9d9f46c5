-- The walk over the rule's rows makes the rule's next rows. No frame is met below its distance to the hub; and where the
-- distance is below the answer so far, so it is all along a shortest chain, which the walk then follows. Hence a frame is
-- kept exactly if the rule lets it in, at its distance.
use Prim.Native.Nat.{ℕ, zero, suc, ◌+◌, ◌≤◌, ◌<◌}
use mathlib.Core.Path.{◌≡◌, refl, sym, ap, ◌∙◌}
use mathlib.Core.Bool.{Bool}
use native.Mathlib.Decide.{ℕ_discrete}
use native.Mathlib.Omega.{arith}
use Rattle.basics.proofs.Laws.{by_cases, lt_or_ge}
use Rattle.theory.specs.Rows.{Row, Metric, answer, hubs, keep, rule_row}
use Rattle.theory.specs.Walk.{Met, levels, walk_row, walks}
use Rattle.theory.proofs.Rule.{keep_not}
use Rattle.theory.proofs.Answer.{answer_hubs, hubs_cap, hubs_le, hubs_found}
use Rattle.theory.proofs.Levels.{one_each, levels_met}

-- what the penalties of single links owe the distance
pub record Steps (B n : ℕ) (W d : ℕ → ℕ → ℕ) : Type 0 where
  pub cost : (u v : ℕ) → u < n → v < n → 1 ≤ W u v
  pub on : (a u v : ℕ) → a < n → u < n → v < n → d a v ≤ d a u + W u v
  pub last : (a v : ℕ) → a < n → v < n → (a ≡ v → ⊥) → d a v < B → (u : ℕ) × (u < n) × (d a v ≡ d a u + W u v)

module _ {B n : ℕ} {d W : ℕ → ℕ → ℕ} (h : ℕ → ℕ) (𝓜 : Metric B n d) (inside : (r : ℕ) → r < n → h r < n)
    (𝓢 : Steps B n W d) where
  -- the least sum over hubs grows along a link by no more than its penalty
  pub hubs_on : (k a u v : ℕ) → k ≤ n → a < n → u < n → v < n → hubs B d h k a v ≤ hubs B d h k a u + W u v
  hubs_on k a u v l p q f =
      lt_or_ge (hubs B d h k a u) B
      (λ g.
      let (r, i, e) = hubs_found B d h k a u g in
      omega (arith, hubs_le B d h k a v r i, 𝓢.on (h r) u v (inside r (omega arith)) q f))
      (λ g. omega (arith, hubs_cap B d h k a v))

  module _ (r : ℕ) (rank : r < n) (A t : ℕ → ℕ) (rows : (u : ℕ) → u < n → A u ≡ answer B n (rule_row B d h r (h r)) (rule_row B d h r u))
      (met : Met B n W A (h r) t) where
    -- the answer from the rows so far is the least sum over the hubs so far
    sums : (u : ℕ) → u < n → A u ≡ hubs B d h r (h r) u
    sums u p = rows u p ∙ answer_hubs h 𝓜 inside r (h r) u (omega arith) (inside r rank) p

    over_below : (m v : ℕ) → v < n → t v < m → t v < B → d (h r) v ≤ t v
    over_below zero v p l g = absurd (omega arith)
    over_below (suc m) v p l g =
        by_cases (ℕ_discrete v (h r))
        (λ (e : v ≡ h r). omega (arith, ap (d (h r)) e, 𝓜.self (h r) (inside r rank)))
        (λ e.
        let (u, q, kept, up) = met.from v p e g in
        let c : 1 ≤ W u v = 𝓢.cost u v q p in
        omega (arith, over_below m u q (omega arith) (omega arith), 𝓢.on (h r) u v (inside r rank) q p))

    -- no frame is met below its distance
    pub over : (v : ℕ) → v < n → d (h r) v ≤ t v
    over v p =
        lt_or_ge (t v) B (over_below (suc (t v)) v p (omega arith))
        (λ g. omega (arith, 𝓜.cap (h r) v (inside r rank) p))

    exact_below : (m v : ℕ) → v < n → d (h r) v < m → d (h r) v < A v → t v ≤ d (h r) v
    exact_below zero v p l g = absurd (omega arith)
    exact_below (suc m) v p l g =
        by_cases (ℕ_discrete (h r) v)
        (λ (e : h r ≡ v). omega (arith, ap t e, met.start))
        (λ e.
        let (u, q, up) = 𝓢.last (h r) v (inside r rank) p e (omega (arith, sums v p, hubs_cap B d h r (h r) v)) in
        let c : 1 ≤ W u v = 𝓢.cost u v q p in
        let kept : d (h r) u < A u =
        omega (arith, sums u q, sums v p, hubs_on r (h r) u v (omega arith) (inside r rank) q p) in
        let near : t u ≤ d (h r) u = exact_below m u q (omega arith) kept in
        omega (arith, met.on u v q p (omega arith)))

    -- where the rule lets it in, a frame is met at its distance
    pub exact : (v : ℕ) → v < n → d (h r) v < A v → t v ≡ d (h r) v
    exact v p g = omega (arith, over v p, exact_below (suc (d (h r) v)) v p (omega arith) g)

    -- so every row gains what the rule gives it
    pub met_rule : (v : ℕ) → v < n → keep r (t v) (A v) (rule_row B d h r v) ≡ rule_row B d h (suc r) v
    unfolding rule_row
    met_rule v p =
        let x : Row = rule_row B d h r v in
        lt_or_ge (d (h r) v) (A v)
        (λ g. rw (exact v p g, sums v p))
        (λ g.
        keep_not r (t v) (A v) x (omega (arith, over v p))
        ∙ sym (keep_not r (d (h r) v) (hubs B d h r (h r) v) x (omega (arith, sums v p))))

module _ {B n : ℕ} {d : ℕ → ℕ → ℕ} (J : ℕ → ℕ → Bool) (h : ℕ → ℕ) (𝓜 : Metric B n d)
    (inside : (r : ℕ) → r < n → h r < n) (𝓢 : Steps B n (one_each B J) d) (room : n < B) where
  -- one hub's walk, level by level, over rows that are the rule's at its rank
  pub walk_rule : (R : ℕ → Row) (r v : ℕ) → r < n → v < n → ((u : ℕ) → u < n → R u ≡ rule_row B d h r u)
      → walk_row B n J R r (h r) v ≡ rule_row B d h (suc r) v
  unfolding walk_row
  walk_rule R r v p q same =
      let A : ℕ → ℕ = λ u. answer B n (R (h r)) (R u) in
      let rows : (u : ℕ) → u < n → A u ≡ answer B n (rule_row B d h r (h r)) (rule_row B d h r u) =
      λ u f.
      ap (λ (x : Row). answer B n x (R u)) (same (h r) (inside r p))
      ∙ ap (answer B n (rule_row B d h r (h r))) (same u f) in
      let t : ℕ → ℕ = levels B n J A (h r) n in
      ap (keep r (t v) (A v)) (same v q)
      ∙ met_rule h 𝓜 inside 𝓢 r p A t rows (levels_met B n J A (h r) (inside r p) room) v q

  -- all walks, in rank order, from empty rows
  pub walks_rule : (k v : ℕ) → k ≤ n → v < n → walks B n J h k v ≡ rule_row B d h k v
  unfolding walks rule_row
  walks_rule zero v l p = refl
  walks_rule (suc r) v l p = walk_rule (walks B n J h r) r v l p (λ u q. walks_rule r u (omega arith) q)
