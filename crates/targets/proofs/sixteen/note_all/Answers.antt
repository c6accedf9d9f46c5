-- The goals that the search leaves.
use mathlib.Core.Path.{refl, sym, ◌∙◌}
use native.Mathlib.Omega.{arith}
use lib.ListN.{get_or}
use Rattle.targets.proofs.SixteenLaws.{rows_turn, rows_over, ranks_part}
use Rattle.targets.proofs.sixteen.note_all.Goals as goal

pub loop-named-init : goal.loop-named-init
loop-named-init c = (refl, refl)

pub overflow_cast-frame : goal.overflow_cast-frame
overflow_cast-frame c = omega (arith, c.type_inv.frames c.loop-named.named-index)

pub offset_bounds-counts-frame : goal.offset_bounds-counts-frame
offset_bounds-counts-frame c = omega (arith, (c.requires.rows c.loop-named.named-index c.loop-named-test.true).row.counted, c.well_formed.1.1.0.1)

pub bounds-counts-frame : goal.bounds-counts-frame
bounds-counts-frame c = (c.requires.rows c.loop-named.named-index c.loop-named-test.true).row.counted

pub overflow_cast-counts : goal.overflow_cast-counts
overflow_cast-counts c = omega (arith, c.type_inv.counts (get_or c.args.frames.now c.loop-named.named-index 0))

pub note-requires : goal.note-requires
note-requires c = ranks_part c.loop-named.noted
    (c.requires.rows c.loop-named.named-index c.loop-named-test.true) c.loop-named.invariant.0 c.row_part.ensures.entries

pub loop-named-preserved : goal.loop-named-preserved
loop-named-preserved c = rows_turn c.args.w c.args.labels.now c.args.counts.now c.args.frames.now c.loop-named.noted c.loop-named.named-index c.loop-named-test.true
    (c.requires.rows c.loop-named.named-index c.loop-named-test.true) c.loop-named.invariant.0 c.loop-named.invariant.1 c.row_part.ensures.entries c.note.ensures

pub shape_of-noted : goal.shape_of-noted
shape_of-noted c = c.loop-named.invariant.0

pub returns : goal.returns
returns c = sym
    (rows_over c.args.w c.args.labels.now c.args.counts.now c.args.frames.now c.loop-named.noted c.loop-named.named-index c.loop-named-test.false)
    ∙ c.loop-named.invariant.1
