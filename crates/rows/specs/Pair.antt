-- The pair question: its tests, its answer, and the paper's numbers for each case of the answer.
use Rattle.std.specs.Prelude.{ℕ, List, [], ◌∷◌, Ok, Err, Some, None, Option, Result}
use Rattle.refusal.specs.Tests.{◌then◌, Verdict, Refusal}
use Rattle.refusal.specs.Told.{Told, gives, refuses}
use Rattle.theory.specs.Chains.{Count, joins, none}
use Rattle.rows.specs.Rooms.{frame_test, frame_tests, row_test, row_at}
use Rattle.rows.specs.Meetings.{meeting_of, Best}

-- a number of joins, none where no rank is shared, or a refusal
abbrev pub Answer : Type 0
Answer = Result (Option ℕ) Refusal

-- pair: 1, 2, 8, then 9 for the first frame, then for the second
unfoldable pub pair_tests : ℕ → ℕ → List ℕ → List ℕ → ℕ → ℕ → Verdict
pair_tests n w labels counts s t =
    frame_tests n w labels counts s
    then frame_test n t 1
    then row_test n w n labels counts s
    then row_test n w n labels counts t

-- behind fine tests: the least sum of joins over ranks found in both rows; "none" if no rank is shared
unfoldable pub answered : Verdict → Best → Answer
answered (Ok _) None = Ok None
answered (Ok _) (Some m) = Ok (Some m.sum)
answered (Err r) best = Err r

-- the answer for (s,t); for s = t it is read from the row as for any pair
unfoldable pub pair_of : ℕ → ℕ → List ℕ → List ℕ → ℕ → ℕ → Answer
pair_of n w labels counts s t =
    answered (pair_tests n w labels counts s t) (meeting_of (row_at w labels counts s) (row_at w labels counts t))

-- the paper's numbers: whether a rank is shared, 1 or 0, and the joins
unfoldable pub pair_told : Answer → Told
pair_told (Ok (Some j)) = gives (1 ∷ j ∷ [])
pair_told (Ok None) = gives (0 ∷ 0 ∷ [])
pair_told (Err r) = refuses r 2

-- what an answer says: its joins, or none
unfoldable pub said_of : Answer → Count
said_of (Ok (Some j)) = joins j
said_of (Ok None) = none
said_of (Err r) = none
