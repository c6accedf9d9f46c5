-- Within so many joins: yes exactly if the pair question has an answer and it is at most the limit.
use Rattle.refusal.specs.Tests.{Refusal}
use Rattle.std.specs.Prelude.{ℕ, cond, List, [], ◌∷◌, leb, Ok, Err, Some, None, Result, Bool, true, false}
use Rattle.refusal.specs.Told.{Told, gives, refuses}
use Rattle.rows.specs.Pair.{pair_of, Answer}

-- yes or no, or a refusal
abbrev pub WithinAnswer : Type 0
WithinAnswer = Result Bool Refusal

-- of the pair question's answer
unfoldable pub within_by : ℕ → Answer → WithinAnswer
within_by limit (Ok (Some j)) = cond (leb j limit) (Ok true) (Ok false)
within_by limit (Ok None) = Ok false
within_by limit (Err r) = Err r

-- the tests are the pair question's
unfoldable pub within_of : ℕ → ℕ → List ℕ → List ℕ → ℕ → ℕ → ℕ → WithinAnswer
within_of n w labels counts s t limit = within_by limit (pair_of n w labels counts s t)

-- the paper's numbers: yes, 1 or 0
unfoldable pub within_told : WithinAnswer → Told
within_told (Ok true) = gives (1 ∷ [])
within_told (Ok false) = gives (0 ∷ [])
within_told (Err r) = refuses r 1
