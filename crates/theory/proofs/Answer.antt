-- The answer of two rows: over any rows, the least shared sum; over rows by the rule, the least sum over all hubs below
-- the stop. A hub that one of the two rows lacks is covered by a hub of lower rank, at a sum no greater: so the lowest
-- rank of the least sum is in both rows.
use Prim.Native.Nat.{ℕ, zero, suc, ◌+◌, ◌≤◌, ◌<◌, min}
use mathlib.Core.Path.{◌≡◌, refl, sym, ap, subst}
use mathlib.Core.Logic.{◌⊎◌, inl, inr}
use mathlib.Core.Bool.{cond}
use mathlib.Core.List.Memᴰ
use mathlib.Core.List.{[], ◌∷◌}
use native.Mathlib.Decide.{ℕ_discrete}
use native.Mathlib.Omega.{arith}
use lib.Dec.{eqb}
use borrow.Author.Tests.{eq-eqb, ne_eqb}
use Rattle.basics.proofs.Laws.{by_cases, cases, lt_or_ge, cond_true, cond_false, least_most, least_le, least_ge, least_found}
use Rattle.theory.specs.Chains.{Least}
use Rattle.theory.specs.Distance.{said}
use Rattle.theory.specs.Rows.{Row, In, Shared, Metric, at, answer, hubs, rule_row}
use Rattle.theory.proofs.DistLeast.{said_least}
use Rattle.theory.proofs.Rule.{rule_lt, in_row}

-- ---- what a row has for a rank

pub at_le : (B : ℕ) (x : Row) {r m : ℕ} → In r m x → at B x r ≤ m
unfolding at
at_le B [] mem = absurd (Memᴰ.not-nil mem)
at_le B (e ∷ x) {r} {m} mem =
    cases (Memᴰ.cases_cons mem)
    (λ (q : ◌≡◌ {A = ℕ × ℕ} (r, m) e).
    omega (arith, cond_true e.1 B (eq-eqb e.0 r (ap (λ (z : ℕ × ℕ). z.0) (sym q))), ap (λ (z : ℕ × ℕ). z.1) q))
    (λ later. omega (arith, at_le B x later))

pub at_in : (B : ℕ) (x : Row) (r : ℕ) → at B x r < B → In r (at B x r) x
unfolding at
at_in B [] r h = absurd (omega arith)
at_in B (e ∷ x) r h =
    let j : ℕ = cond (eqb e.0 r) e.1 B in
    lt_or_ge (at B x r) j
    (λ l. subst (λ (z : ℕ). In r z (e ∷ x)) (omega arith) (Memᴰ.tail (at_in B x r (omega arith))))
    (λ g.
    by_cases (ℕ_discrete e.0 r)
    (λ (q : e.0 ≡ r).
    let p : min j (at B x r) ≡ e.1 = omega (arith, cond_true e.1 B (eq-eqb e.0 r q)) in
    Memᴰ.head (λ i. (sym q i, p i)))
    (λ q. absurd (omega (arith, cond_false e.1 B (ne_eqb e.0 r q)))))

-- ---- the answer

pub answer_cap : (B n : ℕ) (x y : Row) → answer B n x y ≤ B
unfolding answer
answer_cap B n x y = least_most B n _

pub answer_le : (B n : ℕ) (x y : Row) (r : ℕ) → r < n → answer B n x y ≤ at B x r + at B y r
unfolding answer
answer_le B n x y r h = least_le B n (λ z. at B x z + at B y z) r h

pub answer_ge : (B n : ℕ) (x y : Row) (m : ℕ) → m ≤ B → ((r : ℕ) → r < n → m ≤ at B x r + at B y r) → m ≤ answer B n x y
unfolding answer
answer_ge B n x y m h all = least_ge B n _ m h all

-- an answer below B is a shared sum
pub answer_found : (B n : ℕ) (x y : Row) → answer B n x y < B → Shared x y (answer B n x y)
unfolding answer
answer_found B n x y h =
    let (r, l, e) = least_found B n (λ z. at B x z + at B y z) h in
    record {
      rank = r;
      first = at B x r;
      second = at B y r;
      in_first = at_in B x r (omega arith);
      in_second = at_in B y r (omega arith);
      whole = sym e;
    }

-- no shared sum is less
pub answer_least : (B n : ℕ) (x y : Row) → ((r m : ℕ) → In r m x → r < n) → (m : ℕ) → Shared x y m → answer B n x y ≤ m
answer_least B n x y low m s =
    omega (
      arith,
      answer_le B n x y s.rank (low s.rank s.first s.in_first),
      at_le B x s.in_first,
      at_le B y s.in_second,
      s.whole,
    )

-- it is the least sum of joins over ranks found in both rows, none if no rank is shared
pub literal : (B n : ℕ) (x y : Row) → ((r m : ℕ) → In r m x → r < n) → ((m : ℕ) → Shared x y m → m < B)
    → Least (Shared x y) (said B (answer B n x y))
literal B n x y low small =
    said_least (Shared x y) B (answer B n x y) (answer_found B n x y) (answer_least B n x y low)
    (λ m s. omega (arith, small m s, answer_least B n x y low m s))

-- ---- the least sum over hubs

pub hubs_cap : (B : ℕ) (d : ℕ → ℕ → ℕ) (h : ℕ → ℕ) (k s t : ℕ) → hubs B d h k s t ≤ B
unfolding hubs
hubs_cap B d h k s t = least_most B k _

pub hubs_le : (B : ℕ) (d : ℕ → ℕ → ℕ) (h : ℕ → ℕ) (k s t r : ℕ) → r < k → hubs B d h k s t ≤ d s (h r) + d (h r) t
unfolding hubs
hubs_le B d h k s t r l = least_le B k (λ z. d s (h z) + d (h z) t) r l

pub hubs_ge : (B : ℕ) (d : ℕ → ℕ → ℕ) (h : ℕ → ℕ) (k s t m : ℕ) → m ≤ B → ((r : ℕ) → r < k → m ≤ d s (h r) + d (h r) t)
    → m ≤ hubs B d h k s t
unfolding hubs
hubs_ge B d h k s t m l all = least_ge B k (λ z. d s (h z) + d (h z) t) m l all

pub hubs_found : (B : ℕ) (d : ℕ → ℕ → ℕ) (h : ℕ → ℕ) (k s t : ℕ) → hubs B d h k s t < B
    → (r : ℕ) × (r < k) × (d s (h r) + d (h r) t ≡ hubs B d h k s t)
unfolding hubs
hubs_found B d h k s t l = least_found B k (λ z. d s (h z) + d (h z) t) l

-- ---- rows by the rule

module _ {B n : ℕ} {d : ℕ → ℕ → ℕ} (h : ℕ → ℕ) (𝓜 : Metric B n d) (inside : (r : ℕ) → r < n → h r < n) where
  -- what a row by the rule has for a rank is the distance to its hub
  pub at_rule : (k v r : ℕ) → k ≤ n → v < n → at B (rule_row B d h k v) r < B
      → (r < k) × (at B (rule_row B d h k v) r ≡ d (h r) v)
  at_rule k v r l q g =
      let (a, b, c) = (in_row h 𝓜 inside k v l q).0 (at_in B (rule_row B d h k v) r g) in
      (a, c)

  -- a hub below the stop is in the row, or one of lower rank lies on a shortest way to it
  covered : (k v r : ℕ) → k ≤ n → v < n → r < k
      → (at B (rule_row B d h k v) r ≤ d (h r) v)
      ⊎ ((B ≤ d (h r) v) ⊎ ((q : ℕ) × (q < r) × (d (h r) (h q) + d (h q) v ≤ d (h r) v)))
  covered k v r l f g =
      lt_or_ge (d (h r) v) (hubs B d h r (h r) v)
      (λ less. inl (at_le B (rule_row B d h k v) ((in_row h 𝓜 inside k v l f).1 (g, (rule_lt h 𝓜 inside r v (omega arith) f).1 less, refl))))
      (λ more.
      inr (lt_or_ge (hubs B d h r (h r) v) B
      (λ some.
      let (q, p, e) = hubs_found B d h r (h r) v some in
      inr (q, p, omega arith))
      (λ far. inl (omega arith))))

  -- no hub below the stop gives a lesser sum than the answer; j bounds the rank
  answer_most : (k s t : ℕ) → k ≤ n → s < n → t < n → (j r : ℕ) → r < j → r < k
      → answer B n (rule_row B d h k s) (rule_row B d h k t) ≤ d s (h r) + d (h r) t
  answer_most k s t l first second zero r less g = absurd (omega arith)
  answer_most k s t l first second (suc j) r less g =
      let f : h r < n = inside r (omega arith) in
      let turn : d (h r) s ≡ d s (h r) = 𝓜.swap (h r) s f first in
      let x : Row = rule_row B d h k s in
      let y : Row = rule_row B d h k t in
      let most : answer B n x y ≤ B = answer_cap B n x y in
      cases (covered k s r l first g)
      (λ a.
      cases (covered k t r l second g)
      (λ b. omega (arith, answer_le B n x y r (omega arith)))
      (λ b.
      cases b (λ far. omega arith)
      (λ z.
      let (q, i, e) = z in
      let hub : h q < n = inside q (omega arith) in
      omega (arith, answer_most k s t l first second j q (omega arith) (omega arith), 𝓜.via s (h r) (h q) first f hub))))
      (λ a.
      cases a (λ far. omega arith)
      (λ z.
      let (q, i, e) = z in
      let hub : h q < n = inside q (omega arith) in
      omega (
        arith,
        answer_most k s t l first second j q (omega arith) (omega arith),
        𝓜.swap (h q) s hub first,
        𝓜.via (h q) (h r) t hub f second,
        𝓜.swap (h q) (h r) hub f,
      )))

  -- so none does
  pub answer_hub : (k s t r : ℕ) → k ≤ n → s < n → t < n → r < k
      → answer B n (rule_row B d h k s) (rule_row B d h k t) ≤ d s (h r) + d (h r) t
  answer_hub k s t r l p q g = answer_most k s t l p q (suc r) r (omega arith) g

  -- the answer of two rows by the rule is the least sum over the hubs below the stop
  pub answer_hubs : (k s t : ℕ) → k ≤ n → s < n → t < n
      → answer B n (rule_row B d h k s) (rule_row B d h k t) ≡ hubs B d h k s t
  answer_hubs k s t l p q =
      let x : Row = rule_row B d h k s in
      let y : Row = rule_row B d h k t in
      let down : answer B n x y ≤ hubs B d h k s t =
      hubs_ge B d h k s t (answer B n x y) (answer_cap B n x y)
      (λ r. answer_hub k s t r l p q) in
      let up : hubs B d h k s t ≤ answer B n x y =
      answer_ge B n x y (hubs B d h k s t) (hubs_cap B d h k s t)
      (λ r g.
      lt_or_ge (at B x r) B
      (λ a.
      lt_or_ge (at B y r) B
      (λ b.
      let (i, e) = at_rule k s r l p a in
      let (j, f) = at_rule k t r l q b in
      omega (arith, hubs_le B d h k s t r i, 𝓜.swap (h r) s (inside r g) p))
      (λ b. omega (arith, hubs_cap B d h k s t)))
      (λ a. omega (arith, hubs_cap B d h k s t))) in
      omega arith
