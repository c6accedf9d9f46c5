-- The row rule and the answer of two rows. A row is a list of (rank, joins); d is the distance, h gives the hub of a
-- rank, and B is above every sum.
use Rattle.std.specs.Prelude.{ℕ, zero, suc, ◌+◌, ◌≤◌, ◌<◌, min, ◌≡◌, cond, eqb, ltb}
use mathlib.Core.List.{List, [], ◌∷◌, ◌++◌, Memᴰ}
use Rattle.basics.specs.Places.{least}

abbrev pub Row : Type 0
Row = List (ℕ × ℕ)

-- the row holds (r, m): rank r at m joins
abbrev pub In : ℕ → ℕ → Row → Type 0
In r m x = Memᴰ (r, m) x

-- m is a sum of joins over a rank found in both rows
pub record Shared (x y : Row) (m : ℕ) : Type 0 where
  pub rank : ℕ
  pub first : ℕ
  pub second : ℕ
  pub in_first : In rank first x
  pub in_second : In rank second y
  pub whole : m ≡ first + second

-- the joins that a row has for rank r, and B where it has none
unfoldable pub at : ℕ → Row → ℕ → ℕ
at B [] r = B
at B (e ∷ es) r = min (cond (eqb e.0 r) e.1 B) (at B es r)

-- the answer: the least sum of joins over the ranks below n that are in both rows, and B or more where none is shared
unfoldable pub answer : ℕ → ℕ → Row → Row → ℕ
answer B n x y = least B n (λ r. at B x r + at B y r)

-- the least sum from s to a hub of rank below k and on to t, at most B
unfoldable pub hubs : ℕ → (ℕ → ℕ → ℕ) → (ℕ → ℕ) → ℕ → ℕ → ℕ → ℕ
hubs B d h k s t = least B k (λ r. d s (h r) + d (h r) t)

-- the row with (r, m) behind it where m is below p, else the row itself
unfoldable pub keep : ℕ → ℕ → ℕ → Row → Row
keep r m p x = cond (ltb m p) (x ++ ((r, m) ∷ [])) x

-- the row of v at stop k: (r, d(h,v)) for each hub h of rank r below k for which the sums over lower ranks all exceed d(h,v)
unfoldable pub rule_row : ℕ → (ℕ → ℕ → ℕ) → (ℕ → ℕ) → ℕ → ℕ → Row
rule_row B d h zero v = []
rule_row B d h (suc r) v = keep r (d (h r) v) (hubs B d h r (h r) v) (rule_row B d h r v)

-- the rows R with x in place of the row of v
unfoldable pub instead : (ℕ → Row) → ℕ → Row → ℕ → Row
instead R v x u = cond (eqb u v) x (R u)

-- the rule in the paper's words: h reaches v, and no w of lower rank has d(h,w) + d(w,v) = d(h,v). Here h has rank r, w rank q
pub record Rule (B : ℕ) (d : ℕ → ℕ → ℕ) (h : ℕ → ℕ) (r v : ℕ) : Type 0 where
  pub reach : d (h r) v < B
  pub alone : (q : ℕ) → q < r → d (h r) (h q) + d (h q) v ≡ d (h r) v → ⊥

-- what a distance owes the rule: frames are those below n
pub record Metric (B n : ℕ) (d : ℕ → ℕ → ℕ) : Type 0 where
  pub self : (a : ℕ) → a < n → d a a ≡ 0
  pub swap : (a b : ℕ) → a < n → b < n → d a b ≡ d b a
  pub via : (a b c : ℕ) → a < n → b < n → c < n → d a c ≤ d a b + d b c
  pub apart : (a b : ℕ) → a < n → b < n → d a b ≡ 0 → a ≡ b
  pub cap : (a b : ℕ) → a < n → b < n → d a b ≤ B
  pub twice : (a b c e : ℕ) → a < n → b < n → c < n → e < n → d a b < B → d c e < B → d a b + d c e < B
