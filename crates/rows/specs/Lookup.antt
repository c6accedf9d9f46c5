-- The row lookup hands back the used part of that frame's row inside the label room; where the check refuses, it hands back
-- the empty part at the room's front.
use Rattle.std.specs.Prelude.{ℕ, ◌*◌, List, [], ◌∷◌, length, Ok, Err}
use Rattle.refusal.specs.Tests.{if_fine, Verdict}
use Rattle.refusal.specs.Told.{Told, gives, refuses}
use Rattle.rows.specs.Rooms.{row_at, check_row}

-- the entries handed back
unfoldable pub row_of : ℕ → ℕ → List ℕ → List ℕ → ℕ → List ℕ
row_of n w labels counts v = if_fine (check_row n w labels counts v) (row_at w labels counts v) []

-- the place of the label room where they start
unfoldable pub row_start : ℕ → ℕ → List ℕ → List ℕ → ℕ → ℕ
row_start n w labels counts v = if_fine (check_row n w labels counts v) (v * w) 0

-- the paper's numbers: where they start, and how many they are
unfoldable pub part_told : Verdict → ℕ → ℕ → Told
part_told (Ok _) start count = gives (start ∷ count ∷ [])
part_told (Err r) start count = refuses r 2

unfoldable pub row_told : ℕ → ℕ → List ℕ → List ℕ → ℕ → Told
row_told n w labels counts v =
    part_told (check_row n w labels counts v) (row_start n w labels counts v) (length (row_of n w labels counts v))
