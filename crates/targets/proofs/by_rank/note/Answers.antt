-- The goals that the search leaves.
use mathlib.Core.Path.{refl, ◌∙◌}
use native.Mathlib.Omega.{arith}
use lib.ListN.{get_or, drop_of_length-le}
use Rattle.entry.proofs.Laws.{joins_small}
use Rattle.targets.specs.Inner.{noted_in}
use Rattle.targets.proofs.ByRank.{note_turn, note_less, note_kept}
use Rattle.targets.proofs.by_rank.note.Goals as goal
use Rattle.targets.proofs.by_rank.note.Goals.{then-joins-noted, else-joins-noted}

pub loop-e-init : goal.loop-e-init
loop-e-init c = (refl, refl)

pub overflow_cast-joins : goal.overflow_cast-joins
overflow_cast-joins c = omega (arith, c.joins_of-joins.ensures, joins_small (get_or c.args.row.now c.loop-e.e-index 0))

pub offset_bounds-noted-rank : goal.offset_bounds-noted-rank
offset_bounds-noted-rank c = omega
    (arith, c.rank_of-rank.ensures, c.well_formed.1.0.1, c.requires.low c.loop-e.e-index c.loop-e-test.true, c.loop-e.invariant.0)

pub bounds-noted-rank : goal.bounds-noted-rank
bounds-noted-rank c = omega (
  arith,
  c.rank_of-rank.ensures,
  c.requires.low c.loop-e.e-index c.loop-e-test.true,
  c.loop-e.invariant.0,
)

pub offset_bounds-noted-rank-then-joins-noted : goal.offset_bounds-noted-rank-then-joins-noted
offset_bounds-noted-rank-then-joins-noted c = omega
    (arith, c.rank_of-rank.ensures, c.well_formed.1.0.1, c.requires.low c.loop-e.e-index c.loop-e-test.true, c.loop-e.invariant.0)

pub bounds-noted-rank-then-joins-noted : goal.bounds-noted-rank-then-joins-noted
bounds-noted-rank-then-joins-noted c = omega (
  arith,
  c.rank_of-rank.ensures,
  c.requires.low c.loop-e.e-index c.loop-e-test.true,
  c.loop-e.invariant.0,
)

pub loop-e-preserved : goal.loop-e-preserved
loop-e-preserved c = let on = note_turn c.args.row.now c.loop-e.noted c.loop-e.e-index c.loop-e-test.true c.loop-e.invariant.0 c.loop-e.invariant.1 in
    elim c.if-joins-noted.branch [
      | then-joins-noted w ↦ on (w.noted-is
          ∙ note_less c.loop-e.noted _ c.rank_of-rank.ensures c.joins_of-joins.ensures w.if-joins-noted.true)
      | else-joins-noted w ↦ on (w.noted-is
          ∙ note_kept c.loop-e.noted _ c.rank_of-rank.ensures c.joins_of-joins.ensures w.if-joins-noted.false)
    ]

pub returns : goal.returns
unfolding noted_in
returns c = rw (drop_of_length-le _ c.loop-e-test.false) at c.loop-e.invariant.1
