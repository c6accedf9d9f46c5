-- The tests are made in the paper's order; each return is the verdict of the first that fails.
use mathlib.Core.Path.{sym, ◌∙◌}
use borrow.Author.Tests.{ltb-true}
use Rattle.std.proofs.Common.{rules}
use Rattle.refusal.proofs.Laws.{test_held, then_stops, then_goes}
use Rattle.rows.specs.Rooms.{frame_test}
use Rattle.targets.specs.Nearest.{nearest_tests}
use Rattle.targets.proofs.TestLaws.{rooms_let, frames_let, row_left}
use Rattle.targets.proofs.tests.check_nearest.Goals as goal

pub returns-in_err-check_target_rooms : goal.returns-in_err-check_target_rooms
unfolding nearest_tests
returns-in_err-check_target_rooms c = then_stops _ c.check_target_rooms.ensures c.in_err-check_target_rooms.was (search rules)

pub returns-in_err-test : goal.returns-in_err-test
unfolding nearest_tests frame_test
returns-in_err-test c = then_goes c.check_target_rooms.ensures c.in_ok-check_target_rooms.was
    (then_stops _ c.test.ensures c.in_err-test.was (search rules))

pub check_records-requires : goal.check_records-requires
check_records-requires c = (rooms_let _ _ _ _ _ (sym c.check_target_rooms.ensures ∙ c.in_ok-check_target_rooms.was)).1

pub returns-in_err-check_records : goal.returns-in_err-check_records
unfolding nearest_tests frame_test
returns-in_err-check_records c = then_goes c.check_target_rooms.ensures c.in_ok-check_target_rooms.was
    (then_goes c.test.ensures c.in_ok-test.was
    (then_stops _ c.check_records.ensures c.in_err-check_records.was (search rules)))

pub returns-in_err-check_row : goal.returns-in_err-check_row
unfolding nearest_tests frame_test
returns-in_err-check_row c =
    let rooms = (rooms_let _ _ _ _ _ (sym c.check_target_rooms.ensures ∙ c.in_ok-check_target_rooms.was)).0 in
    let inside = ltb-true _ _ (test_held _ _ _ (sym c.test.ensures ∙ c.in_ok-test.was)) in
    then_goes c.check_target_rooms.ensures c.in_ok-check_target_rooms.was
    (then_goes c.test.ensures c.in_ok-test.was
    (then_goes c.check_records.ensures c.in_ok-check_records.was
    (then_stops _ (c.check_row.ensures.answer ∙ row_left rooms inside) c.in_err-check_row.was (search rules))))

pub check_record_rows-requires : goal.check_record_rows-requires
check_record_rows-requires c =
    let (rooms, few) = rooms_let _ _ _ _ _ (sym c.check_target_rooms.ensures ∙ c.in_ok-check_target_rooms.was) in
    (rooms, frames_let _ _ few (sym c.check_records.ensures ∙ c.in_ok-check_records.was))

pub returns : goal.returns
unfolding nearest_tests frame_test
returns c =
    let rooms = (rooms_let _ _ _ _ _ (sym c.check_target_rooms.ensures ∙ c.in_ok-check_target_rooms.was)).0 in
    let inside = ltb-true _ _ (test_held _ _ _ (sym c.test.ensures ∙ c.in_ok-test.was)) in
    then_goes c.check_target_rooms.ensures c.in_ok-check_target_rooms.was
    (then_goes c.test.ensures c.in_ok-test.was
    (then_goes c.check_records.ensures c.in_ok-check_records.was
    (then_goes (c.check_row.ensures.answer ∙ row_left rooms inside) c.in_ok-check_row.was c.check_record_rows.ensures)))
