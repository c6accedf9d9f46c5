-- The goals that the search leaves.
use mathlib.Core.Path.{sym, ◌∙◌}
use native.Mathlib.Omega.{arith}
use Rattle.links.proofs.Order.{passed_first, passed_stop, passed_twice, passed_on, passed_end, rank_out}
use Rattle.links.proofs.once.each_once.Goals as goal

pub loop-r-init : goal.loop-r-init
loop-r-init c = passed_first _ _

pub returns-then-n-v : goal.returns-then-n-v
returns-then-n-v c = c.refused.ensures ∙ sym (passed_stop c.loop-r.invariant (omega (arith, c.requires.1)) (rank_out _ _ _ (omega arith)))

pub returns-then-seen-v : goal.returns-then-seen-v
returns-then-seen-v c = c.refused-then-seen-v.ensures
    ∙ sym (passed_twice c.loop-r.invariant (omega arith) (omega arith) c.if-n-v.false c.if-seen-v.true)

pub loop-r-preserved : goal.loop-r-preserved
loop-r-preserved c = passed_on c.loop-r.invariant (omega arith) (omega arith) c.if-n-v.false c.if-seen-v.false

pub returns : goal.returns
returns c = sym (passed_end c.loop-r.invariant (omega (arith, c.requires.1)))
