-- The goals that the search leaves.
use Rattle.std.proofs.Common.{arith, rules, ◌≡◌, ℕ, map, sum}
use Rattle.rows.proofs.RoomLaws.{total_sum, total_over, sum_same, sum_most}
use Rattle.rows.proofs.rooms.total.Goals as goal

pub returns-then-counts-gt-MOST_FRAMES : goal.returns-then-counts-gt-MOST_FRAMES
returns-then-counts-gt-MOST_FRAMES c =
    let over = total_over c.args.counts.now c.if-counts-gt-MOST_FRAMES.true in
    omega arith

pub returns : goal.returns
returns c =
    let counts = c.args.counts.now in
    let e : c.sum.result ≡ sum (map (λ (count : ℕ). count) counts) = search rules in
    let whole = total_sum counts c.if-counts-gt-MOST_FRAMES.false in
    let most = sum_most counts (λ i. omega (arith, c.type_inv.counts i)) in
    omega (arith, sum_same counts)
