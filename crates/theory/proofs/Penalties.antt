-- Demand 3 for a block of links with penalties: what the distance owes the rows and the walk, and the theorems over any
-- such distance taken for this one. The plain index is the case of all 1.
use Prim.Native.Nat.{ℕ, ◌+◌, ◌-◌, ◌*◌, ◌≤◌, ◌<◌}
use mathlib.Core.Path.{◌≡◌}
use mathlib.Core.Logic.{◌↔◌}
use mathlib.Core.List.{List, ◌∷◌, ◌++◌}
use Rattle.basics.specs.Places.{least}
use Rattle.theory.specs.Links.{Link, Block, Order, hub_of}
use Rattle.theory.specs.Chains.{Chain, Through, Least}
use Rattle.theory.specs.Distance.{far, weight, dist, said}
use Rattle.theory.specs.Rows.{Row, In, Rule, answer, rule_row, instead}
use Rattle.theory.proofs.Ranks.{ranks_all}
use Rattle.theory.proofs.DistWeight.{weight_one}
use Rattle.theory.proofs.Distance.{far_one, dist_chain, dist_least, dist_reach, dist_step, dist_last, dist_bound, dist_metric}
use Rattle.theory.proofs.Rule.{in_row, own_entry, no_higher, joins_most}
use Rattle.theory.proofs.Demand.{Shortest, fewest, never_below, near, true_count}
use Rattle.theory.proofs.Spare.{spare}
use Rattle.theory.proofs.WalkRule.{Steps}

-- the row of v by the row rule over penalties up to M, at stop k
abbrev pub sum_row : ℕ → ℕ → List ℕ → List ℕ → (ℕ → ℕ) → List ℕ → ℕ → ℕ → Row
sum_row M n S L P O k v = rule_row (far M n) (dist M n S L P) (hub_of O) k v

-- the answer for (s,t) from these rows
abbrev pub sum_answer : ℕ → ℕ → List ℕ → List ℕ → (ℕ → ℕ) → List ℕ → ℕ → ℕ → ℕ → ℕ
sum_answer M n S L P O k s t = answer (far M n) n (sum_row M n S L P O k s) (sum_row M n S L P O k t)

module _ {n M : ℕ} {S L : List ℕ} {P : ℕ → ℕ} (block : Block n M S L P) where
  -- the distance is the least sum of a chain
  pub dist_shortest : Shortest (Link S L P) (far M n) n (dist M n S L P)
  dist_shortest =
      record {
        chain = λ a b p q. dist_chain block a b;
        low = λ a b m p q. dist_least block p;
        reach = λ a b m p q. dist_reach block p;
      }

  -- and goes along single links
  pub dist_steps : Steps (far M n) n (weight (far M n) S L P) (dist M n S L P)
  dist_steps =
      record {
        cost = λ u v p q. weight_one block (far M n) u v (far_one M n);
        on = λ a u v p q f. dist_step block a u v q;
        last = λ a v p q e g.
            let (u, f, up, light, less) = dist_last block a v p e g in
            (u, f, up);
      }

  module _ {O : List ℕ} (order : Order n O) where
    -- the least sum of a chain through one of the first k hubs, none exactly if there is no such chain
    pub sums_fewest : (k s t : ℕ) → k ≤ n → s < n → t < n
        → Least (Through (Chain (Link S L P)) (hub_of O) k s t) (said (far M n) (sum_answer M n S L P O k s t))
    sums_fewest = fewest (hub_of O) (dist_metric block) order.inside dist_shortest

    -- never below the true sum
    pub sums_never_below : (k s t : ℕ) → k ≤ n → s < n → t < n → dist M n S L P s t ≤ sum_answer M n S L P O k s t
    sums_never_below = never_below (hub_of O) (dist_metric block) order.inside

    -- over the true sum by at most twice the way to the nearest used hub, of the first frame and of the second
    pub sums_near : (k s t : ℕ) → k ≤ n → s < n → t < n
        → (sum_answer M n S L P O k s t ≤ dist M n S L P s t + 2 * least (far M n) k (λ r. dist M n S L P s (hub_of O r)))
        × (sum_answer M n S L P O k s t ≤ dist M n S L P s t + 2 * least (far M n) k (λ r. dist M n S L P t (hub_of O r)))
    sums_near = near (hub_of O) (dist_metric block) order.inside

    -- at k = n the true sum
    pub sums_true : (s t : ℕ) → s < n → t < n → sum_answer M n S L P O n s t ≡ dist M n S L P s t
    sums_true = true_count (hub_of O) (dist_metric block) order.inside (ranks_all order)

    -- no entry is spare: without it, its hub and its frame are answered otherwise
    pub sums_spare : (k v : ℕ) → k ≤ n → v < n → (xs : Row) (r m : ℕ) (ys : Row) → sum_row M n S L P O k v ≡ xs ++ ((r, m) ∷ ys)
        → said (far M n) (sum_answer M n S L P O k (hub_of O r) v)
        ≡ said (far M n) (answer (far M n) n (instead (sum_row M n S L P O k) v (xs ++ ys) (hub_of O r)) (instead (sum_row M n S L P O k) v (xs ++ ys) v))
        → ⊥
    sums_spare = spare (hub_of O) (dist_metric block) order.inside

    -- what a row holds: exactly what the rule lets in
    pub sums_in_row : (k v : ℕ) → k ≤ n → v < n → {r m : ℕ} → In r m (sum_row M n S L P O k v)
        ↔ ((r < k) × Rule (far M n) (dist M n S L P) (hub_of O) r v × (m ≡ dist M n S L P (hub_of O r) v))
    sums_in_row k v l p = in_row (hub_of O) (dist_metric block) order.inside k v l p

    -- a frame of rank below k has itself in its row at 0
    pub sums_own : (k r : ℕ) → k ≤ n → r < k → In r 0 (sum_row M n S L P O k (hub_of O r))
    sums_own = own_entry (hub_of O) (dist_metric block) order.inside (far_one M n) order.once

    -- a row has no rank above its frame's own
    pub sums_no_higher : (k q r m : ℕ) → k ≤ n → q < n → In r m (sum_row M n S L P O k (hub_of O q)) → r ≤ q
    sums_no_higher = no_higher (hub_of O) (dist_metric block) order.inside

    -- a row's sums are at most M for each other frame
    pub sums_upto : (k v r m : ℕ) → k ≤ n → v < n → In r m (sum_row M n S L P O k v) → m ≤ M * (n - 1)
    sums_upto = joins_most (hub_of O) (dist_metric block) order.inside (M * (n - 1)) (dist_bound block)
