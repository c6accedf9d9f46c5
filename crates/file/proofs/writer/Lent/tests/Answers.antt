-- The tests, each after those before it have passed.
use mathlib.Core.Path.{◌∙◌}
use Rattle.std.proofs.Common.{rules}
use Rattle.refusal.proofs.Laws.{then_stops, then_goes}
use Rattle.links.proofs.Order.{order_alone}
use Rattle.rows.proofs.RoomLaws.{rows_alone}
use Rattle.file.specs.Writer.{write_tests}
use Rattle.file.proofs.Fit.{sizes_in, rooms_in}
use Rattle.file.proofs.Steps.{held}
use Rattle.file.proofs.IndexLaws.{fit_lengths}
use Rattle.file.proofs.writer.Lent.tests.Goals as goal

pub returns-in_err-test : goal.returns-in_err-test
unfolding write_tests
returns-in_err-test c = then_stops _ (rw c.index_sizes.ensures at c.test.ensures) c.in_err-test.was (search rules)

pub lengths_fit-lengths-requires : goal.lengths_fit-lengths-requires
lengths_fit-lengths-requires c =
    let (z, stop) = sizes_in _ _ _ (held _ _ _ (rw c.index_sizes.ensures at c.test.ensures) c.in_ok-test.was) in
    (z.frames, z.width)

pub returns-in_err-test-2 : goal.returns-in_err-test-2
unfolding write_tests
returns-in_err-test-2 c =
    then_goes (rw c.index_sizes.ensures at c.test.ensures) c.in_ok-test.was
    (then_stops _ (rw c.lengths_fit-lengths.ensures at c.test-2.ensures) c.in_err-test-2.was (search rules))

pub returns-in_err-check_order : goal.returns-in_err-check_order
unfolding write_tests
returns-in_err-check_order c =
    let (z, stop) = sizes_in _ _ _ (held _ _ _ (rw c.index_sizes.ensures at c.test.ensures) c.in_ok-test.was) in
    let long = (fit_lengths _ _ _ _ _ (held _ _ _ (rw c.lengths_fit-lengths.ensures at c.test-2.ensures) c.in_ok-test-2.was)).0 in
    then_goes (rw c.index_sizes.ensures at c.test.ensures) c.in_ok-test.was
    (then_goes (rw c.lengths_fit-lengths.ensures at c.test-2.ensures) c.in_ok-test-2.was
    (then_stops _ (c.check_order.ensures.answer ∙ order_alone _ _ z.some_frames z.frames long) c.in_err-check_order.was (search rules)))

pub returns : goal.returns
unfolding write_tests
returns c =
    let s = held _ _ _ (rw c.index_sizes.ensures at c.test.ensures) c.in_ok-test.was in
    let l = held _ _ _ (rw c.lengths_fit-lengths.ensures at c.test-2.ensures) c.in_ok-test-2.was in
    let (z, stop) = sizes_in _ _ _ s in
    let long = (fit_lengths _ _ _ _ _ l).0 in
    then_goes (rw c.index_sizes.ensures at c.test.ensures) c.in_ok-test.was
    (then_goes (rw c.lengths_fit-lengths.ensures at c.test-2.ensures) c.in_ok-test-2.was
    (then_goes (c.check_order.ensures.answer ∙ order_alone _ _ z.some_frames z.frames long) c.in_ok-check_order.was
    (c.check_rows.ensures.answer ∙ rows_alone _ _ _ _ _ (rooms_in _ _ _ _ _ _ s l))))
