-- The row check's tests, in the paper's order.
use Rattle.std.proofs.Common.{rules, ◌≡◌, Err, sym, ◌∙◌}
use Rattle.rows.specs.Rooms.{frame_test}
use Rattle.rows.proofs.PairLaws.{frame_rooms, frame_is, frame_held, check_frame, check_row_alone, or_refused}
use Rattle.rows.proofs.RoomLaws.{fine_rooms}
use Rattle.rows.proofs.asked.row_asked.Goals as goal

pub returns-in_err-check_rooms-clause-row : goal.returns-in_err-check_rooms-clause-row
returns-in_err-check_rooms-clause-row c =
    let e : c.from_residual.result ≡ Err c.in_err-check_rooms.field-0.0 = search rules in
    or_refused _ e (check_frame _ _ _ _ _ (frame_rooms _ _ _ _ _ (sym c.check_rooms.ensures.answer ∙ c.in_err-check_rooms.was)))

pub returns-in_err-test-clause-row : goal.returns-in_err-test-clause-row
unfolding frame_test
returns-in_err-test-clause-row c =
    let e : c.from_residual-in_err-test.result ≡ Err c.in_err-test.field-0.0 = search rules in
    or_refused _ e
    (check_frame _ _ _ _ _
    (frame_is _ _ _ _ _ c.check_rooms.ensures.answer c.in_ok-check_rooms.was c.test.ensures c.in_err-test.was))

pub invariant_of-rows : goal.invariant_of-rows
invariant_of-rows c = record { fit = fine_rooms _ _ _ _ (sym c.check_rooms.ensures.answer ∙ c.in_ok-check_rooms.was) }

pub row-requires : goal.row-requires
unfolding frame_test
row-requires c = frame_held c.args.n c.args.v 0 (sym c.test.ensures ∙ c.in_ok-test.was)

pub returns-clause-row : goal.returns-clause-row
unfolding frame_test
returns-clause-row c =
    rw (check_row_alone c.args.n c.args.w c.args.labels.now c.args.counts.now c.args.v
    (frame_is _ _ _ _ _ c.check_rooms.ensures.answer c.in_ok-check_rooms.was c.test.ensures c.in_ok-test.was))
    c.row.ensures.row
