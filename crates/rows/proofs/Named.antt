-- Success is 0 and nothing else: number 0 of the tests on rows means fine.
use Rattle.refusal.specs.Tests.{Verdict, fine}
use Rattle.std.specs.Prelude.{Ok, Err}
use Prim.Native.Nat.{ℕ}
use mathlib.Core.Path.{◌≡◌, refl, sym, ◌∙◌}
use mathlib.Core.List.{List}
use Rattle.refusal.specs.Told.{verdict_told}
use Rattle.refusal.proofs.Laws.{numbered_fine}
use Rattle.rows.specs.Lookup.{part_told, row_told}
use Rattle.rows.specs.Rooms.{room_tests, check_row, check_rows}

-- the tests on the two rooms
pub rooms_named : (n w : ℕ) (labels counts : List ℕ) → (verdict_told (room_tests n w labels counts)).number ≡ 0
    → room_tests n w labels counts ≡ fine
rooms_named n w labels counts = numbered_fine _

-- the row check
pub row_named : (n w : ℕ) (labels counts : List ℕ) (v : ℕ) → (verdict_told (check_row n w labels counts v)).number ≡ 0
    → check_row n w labels counts v ≡ fine
row_named n w labels counts v = numbered_fine _

-- the test of all rows
pub rows_named : (n w bound : ℕ) (labels counts : List ℕ) → (verdict_told (check_rows n w bound labels counts)).number ≡ 0
    → check_rows n w bound labels counts ≡ fine
rows_named n w bound labels counts = numbered_fine _

-- and of a row looked up, that its check is fine
part_number : (v : Verdict) (start count : ℕ) → (part_told v start count).number ≡ (verdict_told v).number
unfolding part_told verdict_told
part_number (Ok _) start count = refl
part_number (Err r) start count = refl

pub looked_named : (n w : ℕ) (labels counts : List ℕ) (v : ℕ) → (row_told n w labels counts v).number ≡ 0
    → check_row n w labels counts v ≡ fine
unfolding row_told
looked_named n w labels counts v e = row_named n w labels counts v (sym (part_number _ _ _) ∙ e)
