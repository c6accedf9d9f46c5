-- The goals that the search leaves.
use mathlib.Core.Path.{◌≡◌, refl, sym, ap, ◌∙◌}
use native.Mathlib.Omega.{arith}
use lib.ListN.{length}
use Rattle.targets.specs.Inner.{reached_counts}
use Rattle.targets.proofs.SixteenLaws.{none_reached, raise_in, reached_turn, ranks_part}
use Rattle.targets.proofs.sixteen.count_all.Goals as goal

pub loop-v-init : goal.loop-v-init
loop-v-init c = c.requires.1 ∙ none_reached c.args.w c.args.labels.now c.args.counts.now c.args.noted.now

pub reach-joins-requires : goal.reach-joins-requires
reach-joins-requires c = (
  ranks_part c.args.noted.now
      (c.requires.0.rows c.loop-v.v c.loop-v-test.true) refl c.row_part-row.ensures.entries,
  c.requires.0.low,
)

pub raise-requires : goal.raise-requires
raise-requires c = raise_in c.args.w c.args.labels.now c.args.counts.now c.args.noted.now c.loop-v.v
    (omega (arith, c.requires.0.few)) c.loop-v.invariant

pub loop-v-preserved : goal.loop-v-preserved
loop-v-preserved c =
    reached_turn c.args.w c.args.labels.now c.args.counts.now c.args.noted.now c.loop-v.v
    (c.requires.0.rows c.loop-v.v c.loop-v-test.true) c.loop-v.invariant c.row_part-row.ensures.entries
    c.reach-joins.ensures c.raise.ensures

pub shape_of-sixteen : goal.shape_of-sixteen
shape_of-sixteen c = (raise_in c.args.w c.args.labels.now c.args.counts.now c.args.noted.now c.loop-v.v
    (omega (arith, c.requires.0.few)) c.loop-v.invariant
    ).long
    ∙ sym (ap length c.requires.1)

pub returns : goal.returns
returns c = let e : c.loop-v.v ≡ length c.args.counts.now = omega (arith, c.loop-v-test.false) in
    c.loop-v.invariant ∙ ap (reached_counts c.args.w c.args.labels.now c.args.counts.now c.args.noted.now) e
