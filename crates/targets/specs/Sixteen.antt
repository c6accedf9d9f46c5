-- The sixteen counts: at place i the frames whose nearest target is i joins away, place 15 taking 15 and more, frames without
-- any target left out.
use Rattle.std.specs.Prelude.{ℕ, min, Bool, ◌&&◌, List, eqb, ltb, Ok, Err, Result}
use Rattle.basics.specs.Places.{count, table}
use Rattle.refusal.specs.Tests.{◌then◌, Verdict, Refusal}
use Rattle.refusal.specs.Told.{Told, gives, refuses}
use Rattle.rows.specs.Rooms.{rows_test}
use Rattle.targets.specs.Targets.{target_rooms, records_test, apart, fewest_joins}

-- the sixteen counts, or a refusal
abbrev pub SixteenCounts : Type 0
SixteenCounts = Result (List ℕ) Refusal

-- 1, 2, 8 for the records, 9 with the lowest frame of all
unfoldable pub sixteen_tests : ℕ → ℕ → List ℕ → List ℕ → List ℕ → Verdict
sixteen_tests n w labels counts fs =
    target_rooms n w labels counts fs then records_test n fs then rows_test n w n labels counts

-- a frame with so few joins to its nearest target is counted at place i
unfoldable pub counted_at : ℕ → ℕ → Bool
counted_at fewest i = ltb fewest apart && eqb (min fewest 15) i

-- the sixteen counts of n frames
unfoldable pub sixteen_counts : ℕ → ℕ → List ℕ → List ℕ → List ℕ → List ℕ
sixteen_counts n w labels counts fs = table 16 (λ i. count (λ v. counted_at (fewest_joins w labels counts fs v) i) n)

-- the sixteen counts where the tests are fine
unfoldable pub sixteen_by : Verdict → List ℕ → SixteenCounts
sixteen_by (Ok _) sixteen = Ok sixteen
sixteen_by (Err r) sixteen = Err r

unfoldable pub sixteen_of : ℕ → ℕ → List ℕ → List ℕ → List ℕ → SixteenCounts
sixteen_of n w labels counts fs =
    sixteen_by (sixteen_tests n w labels counts fs) (sixteen_counts n w labels counts fs)

-- the paper's numbers: the sixteen counts, all 0 on a refusal
unfoldable pub sixteen_told : SixteenCounts → Told
sixteen_told (Ok sixteen) = gives sixteen
sixteen_told (Err r) = refuses r 16
