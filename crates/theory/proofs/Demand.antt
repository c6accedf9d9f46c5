-- Demand 3 over any penalties: the answer is the least sum of a chain through one of the first k hubs; it is never below
-- the distance and exceeds it by at most twice the way to any of these hubs; at k = n it is the distance. That no entry is
-- spare stands in Spare.
use Prim.Native.Nat.{ℕ, ◌+◌, ◌*◌, ◌≤◌, ◌<◌}
use mathlib.Core.Path.{◌≡◌, sym, subst}
use native.Mathlib.Omega.{arith}
use Rattle.basics.specs.Places.{least}
use Rattle.basics.proofs.Laws.{lt_or_ge, least_found}
use Rattle.theory.specs.Chains.{Chain, Through, Least}
use Rattle.theory.specs.Distance.{said}
use Rattle.theory.specs.Rows.{Metric, answer, hubs, rule_row}
use Rattle.theory.proofs.Rule.{never_less}
use Rattle.theory.proofs.DistLeast.{said_least}
use Rattle.theory.proofs.Answer.{answer_cap, answer_hub, answer_hubs, hubs_le, hubs_found}

-- d is the least sum of a chain between two frames below n, B where there is none
pub record Shortest (K : ℕ → ℕ → ℕ → Type 0) (B n : ℕ) (d : ℕ → ℕ → ℕ) : Type 0 where
  pub chain : (a b : ℕ) → a < n → b < n → d a b < B → Chain K a b (d a b)
  pub low : (a b m : ℕ) → a < n → b < n → Chain K a b m → d a b ≤ m
  pub reach : (a b m : ℕ) → a < n → b < n → Chain K a b m → d a b < B

module _ {B n : ℕ} {d : ℕ → ℕ → ℕ} (h : ℕ → ℕ) (𝓜 : Metric B n d) (inside : (r : ℕ) → r < n → h r < n) where
  -- the least sum of a chain through one of the first k hubs, none exactly if there is none
  pub fewest : {K : ℕ → ℕ → ℕ → Type 0} → Shortest K B n d → (k s t : ℕ) → k ≤ n → s < n → t < n
      → Least (Through (Chain K) h k s t) (said B (answer B n (rule_row B d h k s) (rule_row B d h k t)))
  fewest {K} 𝓢 k s t l p q =
      let same : answer B n (rule_row B d h k s) (rule_row B d h k t) ≡ hubs B d h k s t = answer_hubs h 𝓜 inside k s t l p q in
      subst (λ (z : ℕ). Least (Through (Chain K) h k s t) (said B z)) (sym same)
      (said_least (Through (Chain K) h k s t) B (hubs B d h k s t) has low reach)
    where
      has : hubs B d h k s t < B → Through (Chain K) h k s t (hubs B d h k s t)
      has g =
          let (r, i, e) = hubs_found B d h k s t g in
          let f : h r < n = inside r (omega arith) in
          record {
            rank = r;
            used = i;
            there = d s (h r);
            on = d (h r) t;
            to_hub = 𝓢.chain s (h r) p f (omega arith);
            from_hub = 𝓢.chain (h r) t f q (omega arith);
            whole = sym e;
          }

      low : (m : ℕ) → Through (Chain K) h k s t m → hubs B d h k s t ≤ m
      low m c =
          let r : ℕ = c.rank in
          let f : h r < n = inside r (omega (arith, c.used)) in
          omega (
            arith,
            hubs_le B d h k s t r c.used,
            𝓢.low s (h r) c.there p f c.to_hub,
            𝓢.low (h r) t c.on f q c.from_hub,
            c.whole,
          )

      reach : (m : ℕ) → Through (Chain K) h k s t m → hubs B d h k s t < B
      reach m c =
          let r : ℕ = c.rank in
          let f : h r < n = inside r (omega (arith, c.used)) in
          omega (
            arith,
            hubs_le B d h k s t r c.used,
            𝓜.twice s (h r) (h r) t p f f q (𝓢.reach s (h r) c.there p f c.to_hub) (𝓢.reach (h r) t c.on f q c.from_hub),
          )

  -- never below the distance
  pub never_below : (k s t : ℕ) → k ≤ n → s < n → t < n → d s t ≤ answer B n (rule_row B d h k s) (rule_row B d h k t)
  never_below k s t l p q = omega (arith, answer_hubs h 𝓜 inside k s t l p q, never_less h 𝓜 inside k s t l p q)

  -- over the distance by at most twice the way from the first frame to a used hub
  pub near_first : (k s t r : ℕ) → k ≤ n → s < n → t < n → r < k
      → answer B n (rule_row B d h k s) (rule_row B d h k t) ≤ d s t + 2 * d s (h r)
  near_first k s t r l p q g =
      let f : h r < n = inside r (omega arith) in
      omega (arith, answer_hub h 𝓜 inside k s t r l p q g, 𝓜.via (h r) s t f p q, 𝓜.swap (h r) s f p)

  -- and from the second frame
  pub near_second : (k s t r : ℕ) → k ≤ n → s < n → t < n → r < k
      → answer B n (rule_row B d h k s) (rule_row B d h k t) ≤ d s t + 2 * d t (h r)
  near_second k s t r l p q g =
      let f : h r < n = inside r (omega arith) in
      omega (arith, answer_hub h 𝓜 inside k s t r l p q g, 𝓜.via s t (h r) p q f, 𝓜.swap (h r) t f q)

  -- so to the nearest of the used hubs, from either frame
  pub near : (k s t : ℕ) → k ≤ n → s < n → t < n
      → (answer B n (rule_row B d h k s) (rule_row B d h k t) ≤ d s t + 2 * least B k (λ r. d s (h r)))
      × (answer B n (rule_row B d h k s) (rule_row B d h k t) ≤ d s t + 2 * least B k (λ r. d t (h r)))
  near k s t l p q =
      (nearest s (λ r g. near_first k s t r l p q g), nearest t (λ r g. near_second k s t r l p q g))
    where
      nearest : (a : ℕ)
          → ((r : ℕ) → r < k → answer B n (rule_row B d h k s) (rule_row B d h k t) ≤ d s t + 2 * d a (h r))
          → answer B n (rule_row B d h k s) (rule_row B d h k t) ≤ d s t + 2 * least B k (λ r. d a (h r))
      nearest a each =
          lt_or_ge (least B k (λ r. d a (h r))) B
          (λ g.
          let (r, i, e) = least_found B k (λ r. d a (h r)) g in
          omega (arith, each r i))
          (λ g. omega (arith, answer_cap B n (rule_row B d h k s) (rule_row B d h k t)))

  -- a pair with a used hub gets the distance
  pub hub_count : (k r t : ℕ) → k ≤ n → r < k → t < n → answer B n (rule_row B d h k (h r)) (rule_row B d h k t) ≡ d (h r) t
  hub_count k r t l g q =
      let f : h r < n = inside r (omega arith) in
      omega (arith, answer_hub h 𝓜 inside k (h r) t r l f q g, 𝓜.self (h r) f, never_below k (h r) t l f q)

  -- with every frame a hub, every pair does
  pub true_count : ((v : ℕ) → v < n → (r : ℕ) × (r < n) × (h r ≡ v)) → (s t : ℕ) → s < n → t < n
      → answer B n (rule_row B d h n s) (rule_row B d h n t) ≡ d s t
  true_count all s t p q =
      let (r, g, e) = all s p in
      subst (λ (z : ℕ). answer B n (rule_row B d h n z) (rule_row B d h n t) ≡ d z t) e (hub_count n r t (omega arith) g q)
