-- The plain block, every join counted as 1: the weight is 1 where the list of u holds v, and a chain's sum is its number
-- of links.
use Prim.Native.Nat.{ℕ, ◌≤◌, ◌<◌}
use mathlib.Core.Path.{◌≡◌, refl, sym, ◌∙◌}
use mathlib.Core.Bool.{Bool, true, cond}
use mathlib.Core.List.{List}
use native.Mathlib.Omega.{arith}
use lib.ListN.{length}
use Rattle.basics.specs.Places.{some, least}
use Rattle.basics.proofs.Laws.{bcase, cond_true, cond_false, cond_ge, some_found, some_not, some_one, least_most, least_le, least_ge}
use Rattle.theory.specs.Links.{Link, Block, holds_at}
use Rattle.theory.specs.Chains.{Chain, stay, step, Least, link_count, ChainOf, Through}
use Rattle.theory.specs.Distance.{far, weight, dist, said}
use Rattle.theory.specs.Plain.{ones, joined, joins_to}
use Rattle.theory.proofs.DistLeast.{least_same}
use Rattle.theory.proofs.DistVia.{chain_sum}
use Rattle.theory.proofs.DistWeight.{held_link, link_held, link_place}
use Rattle.theory.proofs.Distance.{far_one, dist_is}

-- the least of ones at the marked places is 1 if some place is marked
least_ones : (B k : ℕ) (marked : ℕ → Bool) → 1 ≤ B → least B k (λ i. cond (marked i) 1 B) ≡ cond (some marked 0 k) 1 B
least_ones B k marked h =
    let f : ℕ → ℕ = λ i. cond (marked i) 1 B in
    bcase (some marked 0 k)
    (λ t.
    let (i, l, p, m) = some_found marked 0 k t in
    let low : 1 ≤ least B k f = least_ge B k f 1 h (λ j q. cond_ge (marked j) 1 (omega arith) h) in
    omega (arith, cond_true {A = ℕ} 1 B t, cond_true {A = ℕ} 1 B m, least_le B k f i (omega arith)))
    (λ t.
    let low : B ≤ least B k f =
    least_ge B k f B (omega arith)
    (λ j q. omega (arith, cond_false {A = ℕ} 1 B (some_not marked 0 k j t (omega arith) (omega arith)))) in
    omega (arith, cond_false {A = ℕ} 1 B t, least_most B k f))

-- the weight is 1 where the list of u holds v, and infinity where not
pub plain_weight : (n : ℕ) (S L : List ℕ) (u v : ℕ) → weight (far 1 n) S L ones u v ≡ cond (joined S L u v) 1 (far 1 n)
unfolding weight joined
plain_weight n S L u v = least_ones (far 1 n) (length L) (holds_at S L u v) (far_one 1 n)

-- the list of u holds v: a link
pub joined_link : {S L : List ℕ} (P : ℕ → ℕ) (u v : ℕ) → joined S L u v ≡ true → (w : ℕ) × Link S L P u v w
unfolding joined
joined_link {S} {L} P u v t =
    let (i, l, p, m) = some_found (holds_at S L u v) 0 (length L) t in
    (P i, held_link P u v i m)

-- and a link of a block is in the list of its frame
pub link_joined : {n M : ℕ} {S L : List ℕ} {P : ℕ → ℕ} {u v w : ℕ} → Block n M S L P → u < n → Link S L P u v w → joined S L u v ≡ true
unfolding joined
link_joined {S} {L} {u} {v} block h l =
    some_one (holds_at S L u v) 0 (length L) l.at (omega arith) (omega (arith, link_place block h l)) (link_held l)

-- where every join counts 1, the sum of a chain is its number of links
pub chain_links : {S L : List ℕ} {a b m : ℕ} (c : Chain (Link S L ones) a b m) → m ≡ link_count c
unfolding link_count
chain_links stay = refl
chain_links (step c l e) = omega (arith, chain_links c, l.costs)

-- so a chain of sum m is a chain of m links
pub counted : {S L : List ℕ} {a b m : ℕ} → Chain (Link S L ones) a b m → ChainOf (Link S L ones) a b m
counted {m} c = record { sum = m; chain = c; long = sym (chain_links c) }

pub uncounted : {S L : List ℕ} {a b m : ℕ} → ChainOf (Link S L ones) a b m → Chain (Link S L ones) a b m
uncounted c = chain_sum (sym (chain_links c.chain ∙ c.long)) c.chain

-- through a hub by chains counted otherwise
pub other_chains : {C D : ℕ → ℕ → ℕ → Type 0} {h : ℕ → ℕ} {k s t m : ℕ} → ((a b j : ℕ) → C a b j → D a b j)
    → Through C h k s t m → Through D h k s t m
other_chains {h} {s} {t} f c =
    record {
      rank = c.rank;
      used = c.used;
      there = c.there;
      on = c.on;
      to_hub = f s (h c.rank) c.there c.to_hub;
      from_hub = f (h c.rank) t c.on c.from_hub;
      whole = c.whole;
    }

module _ {n : ℕ} {S L : List ℕ} (block : Block n 1 S L ones) where
  -- d(a,b) is the fewest links of a chain from a to b, and none exactly if there is no chain
  pub joins_is : (a b : ℕ) → a < n → Least (ChainOf (Link S L ones) a b) (said (far 1 n) (joins_to n S L a b))
  unfolding joins_to
  joins_is a b h =
      least_same (said (far 1 n) (dist 1 n S L ones a b)) (λ j. counted) (λ j. uncounted) (dist_is block a b h)
