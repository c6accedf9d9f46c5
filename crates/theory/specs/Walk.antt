-- The walk of one hub over rows so far, whatever they are. A u is the answer for (hub, u) from the rows so far; a
-- frame is kept exactly if it is met below that.
use Rattle.std.specs.Prelude.{ℕ, zero, suc, ◌+◌, ◌≤◌, ◌<◌, ◌≡◌, Bool, cond, ◌&&◌, [], eqb, ltb}
use Rattle.basics.specs.Places.{some}
use Rattle.theory.specs.Rows.{Row, answer, keep}

-- A finished walk from frame x over n frames, whatever the order it was made in: t v is the level at which v was met,
-- B where it was not. W u v is the penalty of the link from u to v, B or more where there is none.
pub record Met (B n : ℕ) (W : ℕ → ℕ → ℕ) (A : ℕ → ℕ) (x : ℕ) (t : ℕ → ℕ) : Type 0 where
  pub cap : (v : ℕ) → v < n → t v ≤ B
  pub start : t x ≡ 0
  pub on : (u v : ℕ) → u < n → v < n → t u < A u → t v ≤ t u + W u v
  pub from : (v : ℕ) → v < n → (v ≡ x → ⊥) → t v < B → (u : ℕ) × (u < n) × (t u < A u) × (t v ≡ t u + W u v)

-- The walk level by level (all penalties 1): the levels known after level d. Level 0 is the hub. A frame not met yet is
-- met at level d + 1 if it is a neighbour (J u v) of a frame of level d that is not dropped.
unfoldable pub levels : ℕ → ℕ → (ℕ → ℕ → Bool) → (ℕ → ℕ) → ℕ → ℕ → ℕ → ℕ
levels B n J A x zero v = cond (eqb v x) 0 B
levels B n J A x (suc d) v =
    let t : ℕ → ℕ = levels B n J A x d in
    let met : ℕ = cond (some (λ u. eqb (t u) d && ltb d (A u) && J u v) 0 n) (suc d) B in
    cond (ltb (t v) B) (t v) met

-- one hub's walk: every row gains (r, level) where its frame is met below the answer from the rows so far
unfoldable pub walk_row : ℕ → ℕ → (ℕ → ℕ → Bool) → (ℕ → Row) → ℕ → ℕ → ℕ → Row
walk_row B n J R r x v =
    let A : ℕ → ℕ = λ u. answer B n (R x) (R u) in
    keep r (levels B n J A x n v) (A v) (R v)

-- the walks of the hubs of rank 0 to k - 1, from empty rows
unfoldable pub walks : ℕ → ℕ → (ℕ → ℕ → Bool) → (ℕ → ℕ) → ℕ → ℕ → Row
walks B n J h zero v = []
walks B n J h (suc r) v = walk_row B n J (walks B n J h r) r (h r) v
