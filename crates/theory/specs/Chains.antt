-- Chains of links, turning back allowed, and chains through one of the first k hubs.
use Rattle.std.specs.Prelude.{ℕ, suc, ◌+◌, ◌≤◌, ◌<◌, ◌≡◌}

-- a chain from a to b along links, with the sum of its penalties; K b c w: a link from b to c of penalty w
pub data Chain (K : ℕ → ℕ → ℕ → Type 0) (a : ℕ) : ℕ → ℕ → Type 0 where
  stay : Chain K a a 0
  step : {b c m w k : ℕ} → Chain K a b m → K b c w → k ≡ m + w → Chain K a c k

-- from s to t with m in all, through one of the first k hubs: C a b m is a chain from a to b of sum, or of number of links,
-- m; h gives the hub of a rank
pub record Through (C : ℕ → ℕ → ℕ → Type 0) (h : ℕ → ℕ) (k s t m : ℕ) : Type 0 where
  pub rank : ℕ
  pub used : rank < k
  pub there : ℕ
  pub on : ℕ
  pub to_hub : C s (h rank) there
  pub from_hub : C (h rank) t on
  pub whole : m ≡ there + on

-- what a question gives back: a number of joins, or none
pub data Count : Type 0 where
  joins : ℕ → Count
  none : Count

-- the least m of which Q holds, and none exactly if there is none
unfoldable pub Least : (ℕ → Type 0) → Count → Type 0
Least Q (joins m) = Q m × ((j : ℕ) → Q j → m ≤ j)
Least Q none = (j : ℕ) → Q j → ⊥

-- the number of links of a chain
unfoldable pub link_count : {K : ℕ → ℕ → ℕ → Type 0} {a b m : ℕ} → Chain K a b m → ℕ
link_count stay = 0
link_count (step c l e) = suc (link_count c)

-- a chain from a to b of that many links
pub record ChainOf (K : ℕ → ℕ → ℕ → Type 0) (a b links : ℕ) : Type 0 where
  pub sum : ℕ
  pub chain : Chain K a b sum
  pub long : link_count chain ≡ links
