-- Text as bytes: a number in decimal digits.
use Rattle.std.specs.Prelude.{ℕ, ◌^◌, List, ltb}
use Rattle.basics.specs.Places.{first}
use Rattle.io.specs.Digits.{last_digits}

-- how many digits a number has: the fewest, at least one, that hold it
unfoldable pub digit_count : ℕ → ℕ
digit_count x = first (λ k. ltb x (10 ^ k)) 1 20

-- a number in decimal
unfoldable pub decimal : ℕ → List ℕ
decimal x = last_digits 10 (digit_count x) x
