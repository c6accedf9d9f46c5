-- The pair question's tests, in the paper's order; each return is the verdict of the first that fails.
use Rattle.std.proofs.Common.{rules, ◌≡◌, Err, sym, ◌∙◌}
use Rattle.refusal.proofs.Laws.{after_fine, after_refused}
use Rattle.rows.specs.Rooms.{frame_test}
use Rattle.rows.proofs.PairLaws.{frame_rooms, frame_is, frame_held, pair_first, pair_other, pair_rows, both_refused}
use Rattle.rows.proofs.RoomLaws.{fine_rooms}
use Rattle.rows.proofs.asked.rows_asked.Goals as goal

pub returns-in_err-check_rooms : goal.returns-in_err-check_rooms
returns-in_err-check_rooms c =
    let e : c.from_residual.result ≡ Err c.in_err-check_rooms.field-0.0 = search rules in
    both_refused _ _ e (pair_first _ _ _ _ _ _ (frame_rooms _ _ _ _ _ (sym c.check_rooms.ensures.answer ∙ c.in_err-check_rooms.was)))

pub returns-in_err-test : goal.returns-in_err-test
unfolding frame_test
returns-in_err-test c =
    let e : c.from_residual-in_err-test.result ≡ Err c.in_err-test.field-0.0 = search rules in
    both_refused _ _ e
    (pair_first _ _ _ _ _ _
    (frame_is _ _ _ _ _ c.check_rooms.ensures.answer c.in_ok-check_rooms.was c.test.ensures c.in_err-test.was))

pub returns-in_err-test-2 : goal.returns-in_err-test-2
unfolding frame_test
returns-in_err-test-2 c =
    let e : c.from_residual-in_err-test-2.result ≡ Err c.in_err-test-2.field-0.0 = search rules in
    both_refused _ _ e
    (pair_other _ _ _ _ _ _
    (frame_is _ _ _ _ _ c.check_rooms.ensures.answer c.in_ok-check_rooms.was c.test.ensures c.in_ok-test.was)
    (sym c.test-2.ensures ∙ c.in_err-test-2.was))

pub invariant_of-rows : goal.invariant_of-rows
invariant_of-rows c = record { fit = fine_rooms _ _ _ _ (sym c.check_rooms.ensures.answer ∙ c.in_ok-check_rooms.was) }

pub row-requires : goal.row-requires
unfolding frame_test
row-requires c = frame_held c.args.n c.args.s 0 (sym c.test.ensures ∙ c.in_ok-test.was)

pub returns-in_err-first : goal.returns-in_err-first
unfolding frame_test
returns-in_err-first c =
    let e : c.from_residual-in_err-first.result ≡ Err c.in_err-first.field-0.0 = search rules in
    both_refused _ _ e
    (pair_rows _ _ _ _ _ _
    (frame_is _ _ _ _ _ c.check_rooms.ensures.answer c.in_ok-check_rooms.was c.test.ensures c.in_ok-test.was)
    (frame_held c.args.n c.args.t 1 (sym c.test-2.ensures ∙ c.in_ok-test-2.was))
    ∙ after_refused _ c.in_err-first.ensures.row)

pub row-requires-2 : goal.row-requires-2
unfolding frame_test
row-requires-2 c = frame_held c.args.n c.args.t 1 (sym c.test-2.ensures ∙ c.in_ok-test-2.was)

pub returns-in_err-second : goal.returns-in_err-second
unfolding frame_test
returns-in_err-second c =
    let e : c.from_residual-in_err-second.result ≡ Err c.in_err-second.field-0.0 = search rules in
    both_refused _ _ e
    (pair_rows _ _ _ _ _ _
    (frame_is _ _ _ _ _ c.check_rooms.ensures.answer c.in_ok-check_rooms.was c.test.ensures c.in_ok-test.was)
    (frame_held c.args.n c.args.t 1 (sym c.test-2.ensures ∙ c.in_ok-test-2.was))
    ∙ after_fine _ c.in_ok-first.ensures.row.0
    ∙ c.in_err-second.ensures.row)

pub returns : goal.returns
unfolding frame_test
returns c = (
  pair_rows _ _ _ _ _ _
      (frame_is _ _ _ _ _ c.check_rooms.ensures.answer c.in_ok-check_rooms.was c.test.ensures c.in_ok-test.was)
      (frame_held c.args.n c.args.t 1 (sym c.test-2.ensures ∙ c.in_ok-test-2.was))
      ∙ after_fine _ c.in_ok-first.ensures.row.0
      ∙ c.in_ok-second.ensures.row.0,
  c.in_ok-first.ensures.row.1,
  c.in_ok-second.ensures.row.1,
  c.in_ok-first.ensures.row.2,
  c.in_ok-second.ensures.row.2,
)
