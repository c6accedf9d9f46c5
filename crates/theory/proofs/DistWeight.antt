-- The weight of a pair of frames: the least penalty of a link between them. In a block it is at least 1, at most M where
-- it is below B, and the same both ways, for a list holds only frames whose own list holds this one.
use Prim.Native.Nat.{ℕ, ◌+◌, ◌≤◌, ◌<◌}
use mathlib.Core.Path.{◌≡◌, refl}
use mathlib.Core.Bool.{true, cond, ◌&&◌}
use mathlib.Core.List.{List}
use native.Mathlib.Omega.{arith}
use lib.ListN.{length, get_or}
use lib.Dec.{leb, ltb, eqb}
use borrow.Author.Tests.{leb-true, ltb-true, eqb-true, le-leb, lt-ltb, eq-eqb}
use Rattle.basics.proofs.Laws.{bcase, lt_or_ge, both_true, both, cond_true, cond_false, cond_ge, never_falls, least_most, least_le, least_ge, least_found}
use Rattle.theory.specs.Links.{Block, Link, in_list, holds_at}
use Rattle.theory.specs.Distance.{weight}

-- such a place is a link
pub held_link : {S L : List ℕ} (P : ℕ → ℕ) (u v i : ℕ) → holds_at S L u v i ≡ true → Link S L P u v (P i)
unfolding in_list
held_link {S} {L} P u v i t =
    let (t₁, t₂) = both_true (leb (get_or S u 0) i && ltb i (get_or S (u + 1) 0)) (eqb (get_or L i 0) v) t in
    let (t₃, t₄) = both_true (leb (get_or S u 0) i) (ltb i (get_or S (u + 1) 0)) t₁ in
    record { at = i; from = leb-true _ _ t₃; upto = ltb-true _ _ t₄; holds = eqb-true _ _ t₂; costs = refl }

-- and each link is one
pub link_held : {S L : List ℕ} {P : ℕ → ℕ} {u v w : ℕ} (l : Link S L P u v w) → holds_at S L u v l.at ≡ true
unfolding in_list
link_held l =
    both _ _ (both _ _ (le-leb _ _ l.from) (lt-ltb _ _ l.upto)) (eq-eqb _ _ l.holds)

module _ (B : ℕ) (S L : List ℕ) (P : ℕ → ℕ) where
  pub weight_most : (u v : ℕ) → weight B S L P u v ≤ B
  unfolding weight
  weight_most u v = least_most B (length L) _

  -- a weight below B is the penalty of a link
  pub weight_link : (u v : ℕ) → weight B S L P u v < B → Link S L P u v (weight B S L P u v)
  unfolding weight
  weight_link u v h =
      let f : ℕ → ℕ = λ i. cond (holds_at S L u v i) (P i) B in
      let (i, l, e) = least_found B (length L) f h in
      bcase (holds_at S L u v i)
      (λ t. rw (← e, cond_true (P i) B t) (held_link P u v i t))
      (λ t. absurd (omega (arith, cond_false (P i) B t)))

  -- no link's penalty is below the weight
  pub weight_least : {u v w : ℕ} (l : Link S L P u v w) → l.at < length L → weight B S L P u v ≤ w
  unfolding weight
  weight_least {u} {v} {w} l h =
      let f : ℕ → ℕ = λ i. cond (holds_at S L u v i) (P i) B in
      omega (arith, least_le B (length L) f l.at h, cond_true (P l.at) B (link_held l), l.costs)

-- ---- in a block

module _ {n M : ℕ} {S L : List ℕ} {P : ℕ → ℕ} (block : Block n M S L P) where
  -- starts never pass the last
  pub start_upto : (v : ℕ) → v ≤ n → get_or S v 0 ≤ length L
  start_upto v h = omega (arith, block.last, never_falls (λ u. get_or S u 0) n block.rise v n h (omega arith))

  pub link_place : {u v w : ℕ} → u < n → (l : Link S L P u v w) → l.at < length L
  link_place {u} h l = omega (arith, l.upto, start_upto (u + 1) (omega arith))

  -- a link leads to a frame
  pub link_inside : {u v w : ℕ} → u < n → Link S L P u v w → v < n
  link_inside {u} h l = omega (arith, l.holds, block.inside u l.at h l.from l.upto)

  pub link_upto : {u v w : ℕ} → u < n → Link S L P u v w → w ≤ M
  link_upto h l = omega (arith, l.costs, block.most l.at (link_place h l))

  -- a link may be gone back
  pub link_back : {u v w : ℕ} → u < n → Link S L P u v w → Link S L P v u w
  link_back {u} h l = rw (← l.holds, ← l.costs) (block.mirror u l.at h l.from l.upto)

  pub link_weight : (B : ℕ) {u v w : ℕ} → u < n → Link S L P u v w → weight B S L P u v ≤ w
  link_weight B h l = weight_least B S L P l (link_place h l)

  pub weight_one : (B u v : ℕ) → 1 ≤ B → 1 ≤ weight B S L P u v
  unfolding weight
  weight_one B u v h =
      least_ge B (length L) _ 1 h (λ i l. cond_ge (holds_at S L u v i) 1 (block.least i l) h)

  pub weight_upto : (B u v : ℕ) → u < n → weight B S L P u v < B → weight B S L P u v ≤ M
  weight_upto B u v p h = link_upto p (weight_link B S L P u v h)

  pub weight_back : (B u v : ℕ) → u < n → weight B S L P v u ≤ weight B S L P u v
  weight_back B u v p =
      lt_or_ge (weight B S L P u v) B
      (λ h.
      let l : Link S L P u v (weight B S L P u v) = weight_link B S L P u v h in
      link_weight B (link_inside p l) (link_back p l))
      (λ h. omega (arith, weight_most B S L P v u))

  -- the same both ways
  pub weight_swap : (B u v : ℕ) → u < n → v < n → weight B S L P u v ≡ weight B S L P v u
  weight_swap B u v p q = omega (arith, weight_back B u v p, weight_back B v u q)
