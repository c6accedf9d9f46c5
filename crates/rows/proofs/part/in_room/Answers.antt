-- The tests together are `in_room`.
use Rattle.std.proofs.Common.{arith, sym, ◌∙◌, ◌-◌, ◌*◌, length}
use borrow.Author.Tests.{le-leb, lt-leb, leb-true}
use Rattle.basics.proofs.Laws.{cases, same_truth}
use Rattle.rows.proofs.Laws.{in_room_lem, not_in_room, room_held}
use Rattle.rows.proofs.part.in_room.Goals as goal

pub returns-then-v-ge-MOST_FRAMES : goal.returns-then-v-ge-MOST_FRAMES
returns-then-v-ge-MOST_FRAMES c =
    sym (not_in_room _ _ _ _ (λ h k l. cases c.then-v-ge-MOST_FRAMES.either (λ p. omega arith) (λ p. omega arith)))

pub returns-then-start-labels : goal.returns-then-start-labels
returns-then-start-labels c =
    let labels = c.args.labels.now in
    let left = length labels - c.args.v * c.args.w in
    same_truth _ _
    (λ e. in_room_lem c.args.w labels c.args.v c.args.count (omega arith) (omega arith)
    (omega (arith, leb-true c.args.count left e)))
    (λ e. le-leb c.args.count left (omega (arith, (room_held c.args.w labels c.args.v c.args.count e).2)))

pub returns-else-start-labels : goal.returns-else-start-labels
returns-else-start-labels c =
    lt-leb _ _ c.if-start-labels.false ∙ sym (not_in_room c.args.w c.args.labels.now c.args.v c.args.count (λ h k l. omega arith))
