-- The goals that the search leaves.
use mathlib.Core.Path.{sym, ap, subst, ◌∙◌}
use native.Mathlib.Omega.{arith}
use Rattle.targets.specs.Inner.{RanksIn, reach_of, reach_to}
use Rattle.targets.proofs.ByRank.{part_known}
use Rattle.targets.proofs.NearestLaws.{fewest_none, fewest_less, fewest_kept, reached_record, reached_none}
use Rattle.targets.proofs.nearest.first_reached.Goals as goal
use Rattle.targets.proofs.nearest.first_reached.Goals.{then-joins-fewest, else-joins-fewest}

pub loop-i-init : goal.loop-i-init
loop-i-init c = fewest_none _ _

pub offset_bounds-counts-frame : goal.offset_bounds-counts-frame
offset_bounds-counts-frame c = omega (arith, (c.requires.rows c.loop-i.i c.loop-i-test.true).row.counted)

pub bounds-counts-frame : goal.bounds-counts-frame
bounds-counts-frame c = (c.requires.rows c.loop-i.i c.loop-i-test.true).row.counted

pub reach-joins-requires : goal.reach-joins-requires
reach-joins-requires c =
    let known = c.requires.rows _ c.loop-i-test.true in
    (subst (RanksIn _) (sym (c.row_part-row.ensures.entries ∙ part_known known)) known.ranks, c.requires.low)

pub loop-i-preserved : goal.loop-i-preserved
unfolding reach_to
loop-i-preserved c =
    let e = (c.reach-joins.ensures ∙ ap (reach_of _) (c.row_part-row.ensures.entries ∙ part_known (c.requires.rows _ c.loop-i-test.true))) in
    elim c.if-joins-fewest.branch [
      | then-joins-fewest w ↦ fewest_less c.loop-i.invariant (omega (arith, w.if-joins-fewest.true, e))
          (w.fewest-is ∙ e) w.place-is
      | else-joins-fewest w ↦ fewest_kept c.loop-i.invariant
          (omega (arith, w.if-joins-fewest.false, e)) w.fewest-is w.place-is
    ]

pub returns-then-fewest : goal.returns-then-fewest
returns-then-fewest c = reached_record _ _ _ _ _ (omega arith) c.loop-i.invariant c.if-fewest.true

pub returns : goal.returns
returns c = reached_none _ _ _ _ _ (omega arith) c.loop-i.invariant c.if-fewest.false
