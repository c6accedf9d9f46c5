-- The goals that the search leaves.
use Rattle.std.proofs.Common.{arith, ◌≡◌, ◌∙◌, length, inl, inr}
use mathlib.Core.Logic.{◌⊎◌}
use Rattle.rows.proofs.MeetingLaws.{best_of, merged_start, merged_turn, merged_end}
use Rattle.rows.proofs.merge.merge.Goals.{then-loop-i-test+else-j-b, else-loop-i-test}
use Rattle.rows.proofs.merge.merge.Goals as goal

pub loop-i-init : goal.loop-i-init
loop-i-init c = (omega arith, omega arith, merged_start _ _)

pub loop-i-preserved : goal.loop-i-preserved
loop-i-preserved c = (
  omega arith,
  omega arith,
  rw c.lesser-least.ensures (merged_turn c.loop-i.invariant.2 c.requires.0 c.requires.1 c.loop-i-test.true c.if-j-b.true c.of-turn.ensures.turn),
)

pub returns : goal.returns
unfolding best_of
returns c =
    let over : (c.loop-i.i ≡ length c.args.a.now) ⊎ (c.loop-i.j ≡ length c.args.b.now) = elim c.loop-i-test.branch [
      | then-loop-i-test+else-j-b w ↦ inr (omega (arith, w.if-j-b.false))
      | else-loop-i-test w ↦ inl (omega (arith, w.loop-i-test.false))
    ] in
    c.then_some.ensures ∙ merged_end c.loop-i.invariant.2 over
