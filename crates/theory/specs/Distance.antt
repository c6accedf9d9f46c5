-- The distance, by Floyd's recurrence: it computes on small blocks, and the theorems say that it is the least sum of a
-- chain. Infinity is a number above every sum of two distances, so that "none" needs no case of its own.
use Rattle.std.specs.Prelude.{ℕ, zero, suc, ◌+◌, ◌*◌, min, cond, List, length, eqb, ltb}
use Rattle.basics.specs.Places.{least}
use Rattle.theory.specs.Links.{holds_at}
use Rattle.theory.specs.Chains.{Count, joins, none}

-- above every sum of two distances of n frames with penalties up to M
unfoldable pub far : ℕ → ℕ → ℕ
far M n = 2 * (M * n) + 1

-- the least penalty of a link from u to v, and B where there is none
unfoldable pub weight : ℕ → List ℕ → List ℕ → (ℕ → ℕ) → ℕ → ℕ → ℕ
weight B S L P u v = least B (length L) (λ i. cond (holds_at S L u v i) (P i) B)

-- the least sum of a chain from a to b whose frames in between are below k, and B where there is none
unfoldable pub via : ℕ → (ℕ → ℕ → ℕ) → ℕ → ℕ → ℕ → ℕ
via B W zero a b = cond (eqb a b) 0 (min B (W a b))
via B W (suc k) a b = min (via B W k a b) (via B W k a k + via B W k k b)

-- d(a,b): the least sum of a chain from a to b, `far M n` where there is none
unfoldable pub dist : ℕ → ℕ → List ℕ → List ℕ → (ℕ → ℕ) → ℕ → ℕ → ℕ
dist M n S L P = via (far M n) (weight (far M n) S L P) n

-- a number below infinity as a count, infinity as none
unfoldable pub said : ℕ → ℕ → Count
said B m = cond (ltb m B) (joins m) none
