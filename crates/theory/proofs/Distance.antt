-- The distance of a block is the least sum of a chain, and none where there is no chain; it is what the row rule asks of a
-- distance. A chain never leaves the frames below n; along a shortest one the distance rises at every link, so a
-- distance is at most M times the number of frames that are nearer.
use Prim.Native.Nat.{ℕ, zero, suc, ◌+◌, ◌-◌, ◌*◌, ◌≤◌, ◌<◌}
use mathlib.Core.Path.{◌≡◌, ap}
use mathlib.Core.Bool.{Bool}
use mathlib.Core.List.{List}
use native.Mathlib.Nat.{mul-le-mul_left, mul-suc}
use native.Mathlib.Decide.{ℕ_discrete}
use native.Mathlib.Omega.{arith}
use lib.Dec.{ltb}
use borrow.Author.Tests.{le-ltb}
use Rattle.basics.specs.Places.{count}
use Rattle.basics.proofs.Laws.{by_cases, count_gap, count_lower}
use Rattle.theory.specs.Links.{Block, Link}
use Rattle.theory.specs.Chains.{Chain, stay, step, Least}
use Rattle.theory.specs.Distance.{far, weight, dist, said}
use Rattle.theory.specs.Rows.{Metric}
use Rattle.theory.proofs.DistLeast.{said_least}
use Rattle.theory.proofs.DistVia.{chain_join, chain_last, via_most, via_self, via_weight, via_triangle, via_swap, via_chain}
use Rattle.theory.proofs.DistWeight.{link_inside, link_back, link_upto, weight_link, link_weight, weight_one, weight_upto, weight_swap}

pub far_one : (M n : ℕ) → 1 ≤ far M n
unfolding far
far_one M n = omega arith

far_whole : (M n : ℕ) → M * n < far M n
unfolding far
far_whole M n = omega arith

suc_pred : {a : ℕ} (n : ℕ) → a < n → suc (n - 1) ≡ n
suc_pred n h = omega arith

module _ {n M : ℕ} {S L : List ℕ} {P : ℕ → ℕ} (block : Block n M S L P) where
  pub dist_most : (a b : ℕ) → dist M n S L P a b ≤ far M n
  unfolding dist
  dist_most a b = via_most _ _ n a b

  pub dist_self : (a : ℕ) → dist M n S L P a a ≡ 0
  unfolding dist
  dist_self a = via_self _ _ n a

  pub dist_triangle : (a x b : ℕ) → x < n → dist M n S L P a b ≤ dist M n S L P a x + dist M n S L P x b
  unfolding dist
  dist_triangle a x b h = via_triangle _ _ n a x b h

  pub dist_swap : (a b : ℕ) → a < n → b < n → dist M n S L P a b ≡ dist M n S L P b a
  unfolding dist
  dist_swap a b p q = via_swap _ _ n (weight_swap block (far M n)) n a b (omega arith) p q

  pub dist_weight : (a b : ℕ) → dist M n S L P a b ≤ weight (far M n) S L P a b
  unfolding dist
  dist_weight a b = via_weight _ _ n a b

  -- one link on
  pub dist_step : (a u v : ℕ) → u < n → dist M n S L P a v ≤ dist M n S L P a u + weight (far M n) S L P u v
  dist_step a u v h = omega (arith, dist_triangle a u v h, dist_weight u v)

  -- ---- the least sum of a chain

  -- a distance below infinity is a chain's sum
  pub dist_chain : (a b : ℕ) → dist M n S L P a b < far M n → Chain (Link S L P) a b (dist M n S L P a b)
  unfolding dist
  dist_chain a b h = via_chain _ _ (Link S L P) (weight_link (far M n) S L P) n a b h

  -- a chain from a frame leads to a frame
  pub chain_inside : {a b m : ℕ} → a < n → Chain (Link S L P) a b m → b < n
  chain_inside h stay = h
  chain_inside h (step c l e) = link_inside block (chain_inside h c) l

  -- a chain may be gone back
  pub chain_back : {a b m : ℕ} → a < n → Chain (Link S L P) a b m → Chain (Link S L P) b a m
  chain_back h stay = stay
  chain_back {m} h (step {b = u} {m = j} {w = w} c l e) =
      let first : w ≡ 0 + w = omega arith in
      let sum : m ≡ w + j = omega arith in
      chain_join (step stay (link_back block (chain_inside h c) l) first) (chain_back h c) sum

  -- no chain's sum is below the distance
  pub dist_least : {a b m : ℕ} → a < n → Chain (Link S L P) a b m → dist M n S L P a b ≤ m
  dist_least {a} h stay = omega (arith, dist_self a)
  dist_least {a} h (step {b = u} {c = v} c l e) =
      let low : dist M n S L P a u ≤ _ = dist_least h c in
      let p : u < n = chain_inside h c in
      omega (arith, dist_step a u v p, link_weight block (far M n) p l)

  -- ---- the last link of a shortest chain

  pub dist_last : (a v : ℕ) → a < n → (a ≡ v → ⊥) → dist M n S L P a v < far M n
      → (u : ℕ) × (u < n) × (dist M n S L P a v ≡ dist M n S L P a u + weight (far M n) S L P u v)
      × (weight (far M n) S L P u v < far M n) × (dist M n S L P a u < dist M n S L P a v)
  dist_last a v h apart below =
      let (u, j, w, c, l, e) = chain_last (dist_chain a v below) apart in
      let p : u < n = chain_inside h c in
      let low : dist M n S L P a u ≤ j = dist_least h c in
      let light : weight (far M n) S L P u v ≤ w = link_weight block (far M n) p l in
      let on : dist M n S L P a v ≤ dist M n S L P a u + weight (far M n) S L P u v = dist_step a u v p in
      let one : 1 ≤ weight (far M n) S L P u v = weight_one block (far M n) u v (far_one M n) in
      (u, p, omega arith, omega arith, omega arith)

  -- two frames at no distance are one
  pub dist_apart : (a b : ℕ) → a < n → dist M n S L P a b ≡ 0 → a ≡ b
  dist_apart a b h e =
      by_cases (ℕ_discrete a b) (λ q. q)
      (λ q.
      let (u, p, sum, light, near) = dist_last a b h q (omega (arith, far_one M n)) in
      absurd (omega arith))

  -- ---- how far

  -- the frames nearer to a than m
  nearer : ℕ → ℕ → ℕ → Bool
  nearer a m u = ltb (dist M n S L P a u) m

  -- by the last link, a frame has more nearer ones than the frame before it
  dist_count : (a : ℕ) → a < n → (j v : ℕ) → v < n → dist M n S L P a v < j → dist M n S L P a v < far M n
      → dist M n S L P a v ≤ M * count (nearer a (dist M n S L P a v)) n
  unfolding nearer
  dist_count a h zero v q below fin = absurd (omega arith)
  dist_count a h (suc j) v q below fin =
      by_cases (ℕ_discrete a v)
      (λ (e : a ≡ v). omega (arith, dist_self a, ap (dist M n S L P a) e))
      (λ e.
      let (u, p, sum, light, near) = dist_last a v h e fin in
      let du : ℕ = dist M n S L P a u in
      let dv : ℕ = dist M n S L P a v in
      let rest : du ≤ M * count (nearer a du) n = dist_count a h j u p (omega arith) (omega arith) in
      let more : suc (count (nearer a du) n) ≤ count (nearer a dv) n =
      count_lower (dist M n S L P a) n u du dv p (omega arith) near in
      omega (arith, mul-le-mul_left M more, weight_upto block (far M n) u v p light, mul-suc M (count (nearer a du) n)))

  -- a distance below infinity is at most M times the other frames
  pub dist_bound : (a b : ℕ) → a < n → b < n → dist M n S L P a b < far M n → dist M n S L P a b ≤ M * (n - 1)
  unfolding nearer
  dist_bound a b p q h =
      let m : ℕ = dist M n S L P a b in
      let gap : count (nearer a m) n ≤ n - 1 = omega (arith, count_gap (nearer a m) n b q (le-ltb m m (omega arith))) in
      omega (arith, dist_count a p (suc m) b q (omega arith) h, mul-le-mul_left M gap)

  -- what a chain leads to is not at infinity, however often the chain turns back
  pub dist_reach : {a b m : ℕ} → a < n → Chain (Link S L P) a b m → dist M n S L P a b < far M n
  dist_reach {a} h stay = omega (arith, dist_self a, far_one M n)
  dist_reach {a} h (step {b = u} {c = v} c l e) =
      let p : u < n = chain_inside h c in
      let upto : dist M n S L P a u ≤ M * (n - 1) = dist_bound a u h p (dist_reach h c) in
      let on : dist M n S L P a v ≤ dist M n S L P a u + weight (far M n) S L P u v = dist_step a u v p in
      let light : weight (far M n) S L P u v ≤ M = omega (arith, link_weight block (far M n) p l, link_upto block p l) in
      let whole : M * (n - 1) + M ≤ M * n = omega (arith, mul-suc M (n - 1), ap (λ (k : ℕ). M * k) (suc_pred n h)) in
      omega (arith, far_whole M n)

  -- d(a,b) is the least sum of a chain from a to b, and none exactly if there is no chain
  pub dist_is : (a b : ℕ) → a < n → Least (Chain (Link S L P) a b) (said (far M n) (dist M n S L P a b))
  dist_is a b h =
      said_least (Chain (Link S L P) a b) (far M n) (dist M n S L P a b) (dist_chain a b) (λ j c. dist_least h c)
      (λ j c. dist_reach h c)

  pub dist_twice : (a b c e : ℕ) → a < n → b < n → c < n → e < n → dist M n S L P a b < far M n
      → dist M n S L P c e < far M n → dist M n S L P a b + dist M n S L P c e < far M n
  unfolding far
  dist_twice a b c e p q r s h k =
      let less : n - 1 ≤ n = omega arith in
      omega (arith, dist_bound a b p q h, dist_bound c e r s k, mul-le-mul_left M less)

  -- what the row rule asks of a distance
  pub dist_metric : Metric (far M n) n (dist M n S L P)
  dist_metric =
      record {
        self = λ a h. dist_self a;
        swap = dist_swap;
        via = λ a b c p q r. dist_triangle a b c q;
        apart = λ a b p q. dist_apart a b p;
        cap = λ a b p q. dist_most a b;
        twice = dist_twice;
      }
