-- Searches and counts over a run of places, and tables: the words that the definitions of every crate are made of.
use Rattle.std.specs.Prelude.{ℕ, zero, suc, ◌+◌, min, Bool, true, false, cond, List, [], ◌∷◌, eqb}

-- the lowest of the `left` places from `a` on that is marked, or the end of them where none is
unfoldable pub first : (ℕ → Bool) → ℕ → ℕ → ℕ
first marked a zero = a
first marked a (suc left) =
    let rest : ℕ = first marked (suc a) left in
    cond (marked a) a rest

-- some of the `left` places from `a` on is marked
unfoldable pub some : (ℕ → Bool) → ℕ → ℕ → Bool
some marked a zero = false
some marked a (suc left) =
    let rest : Bool = some marked (suc a) left in
    cond (marked a) true rest

-- v stands at one of the places below r: it is one of `f 0 .. f (r - 1)`
unfoldable pub stands : (ℕ → ℕ) → ℕ → ℕ → Bool
stands f r v = some (λ j. eqb (f j) v) 0 r

-- how many of the places below n are marked
unfoldable pub count : (ℕ → Bool) → ℕ → ℕ
count marked zero = 0
count marked (suc n) =
    let rest : ℕ = count marked n in
    cond (marked n) (suc rest) rest

-- the least of `f 0 .. f (k - 1)`, and `most` where none is below it
unfoldable pub least : ℕ → ℕ → (ℕ → ℕ) → ℕ
least most zero f = most
least most (suc k) f = min (f k) (least most k f)

-- the list `f 0, .. f (n - 1)`
unfoldable pub table {ℓ} : {A : Type ℓ} → ℕ → (ℕ → A) → List A
table zero f = []
table (suc n) f = f zero ∷ table n (λ i. f (suc i))

-- the sum of a list
unfoldable pub sum : List ℕ → ℕ
sum [] = 0
sum (x ∷ xs) = x + sum xs
