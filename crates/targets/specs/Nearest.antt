-- Nearest target: the place of the record with the fewest joins from the asked frame, the first such place on equal counts,
-- or none.
use Rattle.std.specs.Prelude.{ℕ, cond, List, [], ◌∷◌, length, get_or, eqb, ltb, Ok, Err, Some, None, Option, Result}
use Rattle.basics.specs.Places.{first}
use Rattle.refusal.specs.Tests.{◌then◌, tests_from, Verdict, Refusal}
use Rattle.refusal.specs.Told.{Told, gives, refuses}
use Rattle.rows.specs.Rooms.{frame_test, row_test}
use Rattle.targets.specs.Targets.{target_rooms, records_test, apart, joins_to, fewest_joins}

-- the place of a record, none, or a refusal
abbrev pub NearestTarget : Type 0
NearestTarget = Result (Option ℕ) Refusal

-- 1, 2, 8 for the asked frame, 8 for the records, 9 for the asked frame, then for the records in list order
unfoldable pub nearest_tests : ℕ → ℕ → List ℕ → List ℕ → ℕ → List ℕ → Verdict
nearest_tests n w labels counts asked fs =
    target_rooms n w labels counts fs
    then frame_test n asked 0
    then records_test n fs
    then row_test n w n labels counts asked
    then tests_from (λ i. row_test n w n labels counts (get_or fs i 0)) 0 (length fs)

-- the first record that is as near as any
unfoldable pub nearest_place : ℕ → List ℕ → List ℕ → ℕ → List ℕ → ℕ
nearest_place w labels counts asked fs =
    first (λ i. eqb (joins_to w labels counts fs asked i) (fewest_joins w labels counts fs asked)) 0 (length fs)

-- behind fine tests: that record's place, and none where no record shares a rank with the asked frame
unfoldable pub nearest_by : Verdict → ℕ → ℕ → NearestTarget
nearest_by (Ok _) fewest place = cond (ltb fewest apart) (Ok (Some place)) (Ok None)
nearest_by (Err r) fewest place = Err r

-- the answer for the asked frame and the records' frames
unfoldable pub nearest_of : ℕ → ℕ → List ℕ → List ℕ → ℕ → List ℕ → NearestTarget
nearest_of n w labels counts asked fs =
    nearest_by (nearest_tests n w labels counts asked fs) (fewest_joins w labels counts fs asked)
    (nearest_place w labels counts asked fs)

-- the paper's numbers: whether there is one, 1 or 0, and the record's place
unfoldable pub nearest_told : NearestTarget → Told
nearest_told (Ok (Some place)) = gives (1 ∷ place ∷ [])
nearest_told (Ok None) = gives (0 ∷ 0 ∷ [])
nearest_told (Err r) = refuses r 2
