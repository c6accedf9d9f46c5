-- The goals that the search leaves.
use Prim.Native.Nat.{ℕ}
use mathlib.Core.Path.{ap}
use native.Mathlib.Omega.{arith}
use lib.ListN.{get_or}
use Rattle.entry.proofs.Laws.{joins_small}
use Rattle.targets.proofs.ByRank.{reach_most, reach_on, reach_over}
use Rattle.targets.proofs.by_rank.reach.Goals as goal

pub loop-e-init : goal.loop-e-init
loop-e-init c = (omega arith, omega (arith, reach_most c.args.noted.now c.args.row.now))

pub overflow_add-sum : goal.overflow_add-sum
overflow_add-sum c = omega (
  arith,
  c.joins_of.ensures,
  joins_small (get_or c.args.row.now c.loop-e.e-index 0),
  c.type_inv.noted c.rank_of.result,
)

pub loop-e-preserved : goal.loop-e-preserved
loop-e-preserved c = let there = ap (λ (r : ℕ). get_or c.args.noted.now r 0) c.rank_of.ensures in
    let on = reach_on c.args.noted.now c.args.row.now c.loop-e.e-index c.loop-e-test.true in (
      omega (arith, c.min-found.ensures, c.loop-e.invariant.0),
      omega (arith, c.min-found.ensures, there, c.joins_of.ensures, c.loop-e.invariant.1),
    )

pub returns : goal.returns
returns c = omega (
  arith,
  reach_over c.args.noted.now c.args.row.now c.loop-e.e-index c.loop-e-test.false,
  c.loop-e.invariant.0,
  c.loop-e.invariant.1,
)

pub overflow_cast-sum : goal.overflow_cast-sum
overflow_cast-sum c = omega (arith, c.joins_of.ensures, joins_small (get_or c.args.row.now c.loop-e.e-index 0))
