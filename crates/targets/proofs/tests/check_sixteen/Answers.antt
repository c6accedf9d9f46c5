-- The tests are made in the paper's order; each return is the verdict of the first that fails.
use mathlib.Core.Path.{sym, ◌∙◌}
use Rattle.std.proofs.Common.{rules}
use Rattle.refusal.proofs.Laws.{then_stops, then_goes}
use Rattle.rows.proofs.RoomLaws.{rows_alone}
use Rattle.targets.specs.Sixteen.{sixteen_tests}
use Rattle.targets.proofs.TestLaws.{rooms_let}
use Rattle.targets.proofs.tests.check_sixteen.Goals as goal

pub returns-in_err-check_target_rooms : goal.returns-in_err-check_target_rooms
unfolding sixteen_tests
returns-in_err-check_target_rooms c = then_stops _ c.check_target_rooms.ensures c.in_err-check_target_rooms.was (search rules)

pub check_records-requires : goal.check_records-requires
check_records-requires c = (rooms_let _ _ _ _ _ (sym c.check_target_rooms.ensures ∙ c.in_ok-check_target_rooms.was)).1

pub returns-in_err-check_records : goal.returns-in_err-check_records
unfolding sixteen_tests
returns-in_err-check_records c = then_goes c.check_target_rooms.ensures c.in_ok-check_target_rooms.was
    (then_stops _ c.check_records.ensures c.in_err-check_records.was (search rules))

pub returns : goal.returns
unfolding sixteen_tests
returns c = then_goes c.check_target_rooms.ensures c.in_ok-check_target_rooms.was
    (then_goes c.check_records.ensures c.in_ok-check_records.was
    (c.check_rows.ensures.answer
    ∙ rows_alone _ _ _ _ _ (rooms_let _ _ _ _ _ (sym c.check_target_rooms.ensures ∙ c.in_ok-check_target_rooms.was)).0))
