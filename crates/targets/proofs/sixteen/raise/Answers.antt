-- Joins below `apart` raise the count at their place, others none. A count is at most 4,096, so that one more does not wrap.
use native.Mathlib.Omega.{arith}
use Rattle.targets.proofs.SixteenLaws.{raised, not_raised}
use Rattle.targets.proofs.sixteen.raise.Goals as goal

pub overflow_add-sixteen : goal.overflow_add-sixteen
overflow_add-sixteen c = omega (arith, c.min-i.ensures, c.requires.low c.min-i.result (omega (arith, c.min-i.ensures)))

pub returns-then-joins : goal.returns-then-joins
returns-then-joins c = raised c.args.sixteen.now c.args.joins c.if-joins.true c.min-i.ensures

pub returns-else-joins : goal.returns-else-joins
returns-else-joins c = not_raised c.args.sixteen.now c.args.joins c.if-joins.false
