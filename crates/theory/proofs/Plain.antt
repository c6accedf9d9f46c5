-- The plain index, every join counted as 1, in the paper's own words: demand 3 in fewest joins, what a row holds, and that
-- the walks level by level make the rows of the rule.
use Prim.Native.Nat.{ℕ, zero, suc, ◌+◌, ◌*◌, ◌≤◌, ◌<◌}
use mathlib.Core.Path.{◌≡◌, refl, sym, subst}
use mathlib.Core.Logic.{◌↔◌}
use mathlib.Core.List.{List, [], ◌∷◌, ◌++◌}
use native.Mathlib.Omega.{arith}
use lib.ListN.{length}
use Rattle.basics.specs.Places.{least}
use Rattle.theory.specs.Links.{Link, Block, Order, hub_of}
use Rattle.theory.specs.Chains.{Least, ChainOf, Through}
use Rattle.theory.specs.Distance.{far, said}
use Rattle.theory.specs.Rows.{Row, In, Shared, Rule, Metric, answer, rule_row, instead}
use Rattle.theory.specs.Walk.{walk_row, walks}
use Rattle.theory.specs.Plain.{ones, joined, joins_to, row_by, answer_by}
use Rattle.theory.proofs.DistLeast.{least_same}
use Rattle.theory.proofs.DistPlain.{plain_weight, counted, uncounted, other_chains, joins_is}
use Rattle.theory.proofs.Distance.{dist_metric}
use Rattle.theory.proofs.Rule.{Rising, rank_at, joins_at, place_in, row_rising}
use Rattle.theory.proofs.Answer.{literal}
use Rattle.theory.proofs.Levels.{one_each}
use Rattle.theory.proofs.WalkRule.{Steps, walk_rule, walks_rule}
use Rattle.theory.proofs.Penalties.{sum_answer, dist_steps, sums_fewest, sums_never_below, sums_near, sums_true, sums_spare, sums_in_row, sums_own, sums_no_higher, sums_upto}

-- ---- rows of any block, sound or not

-- ranks strictly rise, below the stop
pub plain_rising : (n : ℕ) (S L O : List ℕ) (k v : ℕ) → Rising k (row_by n S L O k v)
unfolding row_by
plain_rising n S L O k v = row_rising (far 1 n) (joins_to n S L) (hub_of O) k v

pub row_none : (n : ℕ) (S L O : List ℕ) (v : ℕ) → row_by n S L O zero v ≡ []
unfolding row_by rule_row
row_none n S L O v = refl

-- there are fewer frames than infinity
pub far_room : (n : ℕ) → n < far 1 n
unfolding far
far_room n = omega arith

-- any two rows with ranks and joins below n: the answer is the least sum of joins over ranks found in both, none if no
-- rank is shared
pub plain_literal : (n : ℕ) (x y : Row) → ((r m : ℕ) → In r m x → (r < n) × (m < n)) → ((r m : ℕ) → In r m y → m < n)
    → Least (Shared x y) (said (far 1 n) (answer (far 1 n) n x y))
unfolding far
plain_literal n x y first second =
    literal (far 1 n) n x y (λ r m z. (first r m z).0)
    (λ m s.
    omega
    (arith, (first s.rank s.first s.in_first).1, second s.rank s.second s.in_second, s.whole))

module _ {n : ℕ} {S L : List ℕ} (block : Block n 1 S L ones) where
  pub plain_metric : Metric (far 1 n) n (joins_to n S L)
  unfolding joins_to
  plain_metric = dist_metric block

  pub plain_steps : Steps (far 1 n) n (one_each (far 1 n) (joined S L)) (joins_to n S L)
  unfolding joins_to
  plain_steps =
      record {
        cost = λ u v p q. omega (arith, plain_weight n S L u v, (dist_steps block).cost u v p q);
        on = λ a u v p q f. omega (arith, plain_weight n S L u v, (dist_steps block).on a u v p q f);
        last = λ a v p q e g.
            let (u, f, up) = (dist_steps block).last a v p q e g in
            (u, f, omega (arith, plain_weight n S L u v));
      }

  module _ {O : List ℕ} (order : Order n O) where
    -- ---- demand 3

    -- the answer is the fewest joins of a chain through one of the first k hubs, none exactly if there is no such chain
    pub plain_fewest : (k s t : ℕ) → k ≤ n → s < n → t < n
        → Least (Through (ChainOf (Link S L ones)) (hub_of O) k s t) (said (far 1 n) (answer_by n S L O k s t))
    unfolding row_by joins_to
    plain_fewest k s t l p q =
        least_same (said (far 1 n) (sum_answer 1 n S L ones O k s t))
        (λ j. other_chains (λ a b i. counted))
        (λ j. other_chains (λ a b i. uncounted))
        (sums_fewest block order k s t l p q)

    -- never below the true count
    pub plain_never_below : (k s t : ℕ) → k ≤ n → s < n → t < n → joins_to n S L s t ≤ answer_by n S L O k s t
    unfolding row_by joins_to
    plain_never_below = sums_never_below block order

    -- over the true count by at most twice the joins to the nearest used hub, of the first frame and of the second
    pub plain_near : (k s t : ℕ) → k ≤ n → s < n → t < n
        → (answer_by n S L O k s t ≤ joins_to n S L s t + 2 * least (far 1 n) k (λ r. joins_to n S L s (hub_of O r)))
        × (answer_by n S L O k s t ≤ joins_to n S L s t + 2 * least (far 1 n) k (λ r. joins_to n S L t (hub_of O r)))
    unfolding row_by joins_to
    plain_near = sums_near block order

    -- at k = n the true count of every pair, none for a pair without a chain
    pub plain_true : (s t : ℕ) → s < n → t < n → answer_by n S L O n s t ≡ joins_to n S L s t
    unfolding row_by joins_to
    plain_true = sums_true block order

    pub plain_true_count : (s t : ℕ) → s < n → t < n
        → Least (ChainOf (Link S L ones) s t) (said (far 1 n) (answer_by n S L O n s t))
    plain_true_count s t p q =
        subst (λ (z : ℕ). Least (ChainOf (Link S L ones) s t) (said (far 1 n) z)) (sym (plain_true s t p q)) (joins_is block s t p)

    -- no entry is spare: without it, its hub and its frame (the same frame, it may be) are answered otherwise
    pub plain_spare : (k v : ℕ) → k ≤ n → v < n → (xs : Row) (r m : ℕ) (ys : Row) → row_by n S L O k v ≡ xs ++ ((r, m) ∷ ys)
        → said (far 1 n) (answer_by n S L O k (hub_of O r) v)
        ≡ said (far 1 n) (answer (far 1 n) n (instead (row_by n S L O k) v (xs ++ ys) (hub_of O r)) (instead (row_by n S L O k) v (xs ++ ys) v))
        → ⊥
    unfolding row_by joins_to
    plain_spare = sums_spare block order

    -- ---- the rows

    -- a row holds exactly what the row rule says
    pub plain_in_row : (k v : ℕ) → k ≤ n → v < n → {r m : ℕ} → In r m (row_by n S L O k v)
        ↔ ((r < k) × Rule (far 1 n) (joins_to n S L) (hub_of O) r v × (m ≡ joins_to n S L (hub_of O r) v))
    unfolding row_by joins_to
    plain_in_row k v l p = sums_in_row block order k v l p

    -- every frame of rank below k has itself in its row at 0 joins
    pub plain_own : (k r : ℕ) → k ≤ n → r < k → In r 0 (row_by n S L O k (hub_of O r))
    unfolding row_by joins_to
    plain_own = sums_own block order

    -- a row has no rank above its frame's own
    pub plain_no_higher : (k q r m : ℕ) → k ≤ n → q < n → In r m (row_by n S L O k (hub_of O q)) → r ≤ q
    unfolding row_by joins_to
    plain_no_higher = sums_no_higher block order

    -- joins are below n
    pub plain_joins : (k v r m : ℕ) → k ≤ n → v < n → In r m (row_by n S L O k v) → m < n
    unfolding row_by joins_to
    plain_joins k v r m l p mem = omega (arith, sums_upto block order k v r m l p mem)

    -- so at each place of a row
    pub plain_places : (k v i : ℕ) → k ≤ n → v < n → i < length (row_by n S L O k v)
        → (rank_at (row_by n S L O k v) i < k) × (joins_at (row_by n S L O k v) i < n)
    plain_places k v i l p h =
        let x : Row = row_by n S L O k v in
        ((plain_rising n S L O k v).below i h, plain_joins k v (rank_at x i) (joins_at x i) l p (place_in x i h))

    -- ---- the walks

    -- one hub's walk over rows that are the rule's at its rank
    pub walk_out : (R : ℕ → Row) (r v : ℕ) → r < n → v < n → ((u : ℕ) → u < n → R u ≡ row_by n S L O r u)
        → walk_row (far 1 n) n (joined S L) R r (hub_of O r) v ≡ row_by n S L O (suc r) v
    unfolding row_by
    walk_out = walk_rule (joined S L) (hub_of O) plain_metric order.inside plain_steps (far_room n)

    -- the walks of all hubs below k, in rank order, from empty rows, make the rows of the rule
    pub plain_walks : (k v : ℕ) → k ≤ n → v < n → walks (far 1 n) n (joined S L) (hub_of O) k v ≡ row_by n S L O k v
    unfolding row_by
    plain_walks = walks_rule (joined S L) (hub_of O) plain_metric order.inside plain_steps (far_room n)
