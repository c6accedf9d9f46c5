-- The goals that the search leaves.
use mathlib.Core.Path.{sym}
use native.Mathlib.Omega.{arith}
use Rattle.entry.specs.Entry.{joins_of}
use Rattle.walk.proofs.DropWithin.{near_hit, near_none}
use Rattle.walk.proofs.ground.near.Goals as goal

pub overflow_add-joins_of : goal.overflow_add-joins_of
unfolding joins_of
overflow_add-joins_of c = omega (arith, c.joins_of.ensures, c.type_inv.noted c.rank_of.result)

pub returns-then-joins_of-noted : goal.returns-then-joins_of-noted
returns-then-joins_of-noted c = sym (near_hit c.args.noted.now c.args.row.now c.args.level c.loop-e-test.true c.rank_of.ensures c.joins_of.ensures c.if-joins_of-noted.true)

pub returns : goal.returns
returns c = sym (near_none _ _ _ (λ i h. c.loop-e.invariant i (omega arith)))
