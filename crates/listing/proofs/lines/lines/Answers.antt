-- The goals that the search leaves.
use Prim.Native.Nat.{ℕ}
use native.Mathlib.Omega.{arith}
use mathlib.Core.Path.{◌≡◌, sym, ap, subst, ◌∙◌}
use mathlib.Core.List.{List}
use lib.ListN.{length}
use Rattle.entry.specs.Inner.{RanksIn}
use Rattle.listing.specs.Lines.{texts, line_text}
use Rattle.listing.proofs.TextLaws.{put_none, put_as}
use Rattle.listing.proofs.LineLaws.{put_text, shown_row, shown_few, shown_ranks}
use Rattle.listing.proofs.lines.lines.Goals as goal

pub loop-v-init : goal.loop-v-init
unfolding texts
loop-v-init c = (put_none _ _, omega arith)

pub row_part-row-requires : goal.row_part-row-requires
row_part-row-requires c = tt

pub line-end-requires : goal.line-end-requires
line-end-requires c =
    let inside = c.loop-v-test.true in
    let same = (c.row_part-row.ensures.entries ∙ shown_row c.requires.shown _ c.loop-v-test.true) in (
      omega (
        arith,
        ap length same,
        shown_few c.requires.shown c.loop-v.v inside,
        c.loop-v.invariant.0.long,
        c.loop-v.invariant.1,
        c.requires.counts_in_bounds,
      ),
      subst (λ (row : List ℕ). RanksIn row c.args.order.now) (sym same) (shown_ranks c.requires.shown c.loop-v.v inside),
    )

pub loop-v-preserved : goal.loop-v-preserved
loop-v-preserved c =
    let same = (c.row_part-row.ensures.entries ∙ shown_row c.requires.shown _ c.loop-v-test.true) in (
      put_text _ c.loop-v.v c.loop-v.invariant.0
          (put_as (ap (line_text c.args.order.now c.loop-v.v) same) c.line-end.ensures.put),
      omega (arith, ap length same, shown_few c.requires.shown c.loop-v.v (c.loop-v-test.true), c.line-end.ensures.near, c.loop-v.invariant.1),
    )

pub shape_of-out : goal.shape_of-out
shape_of-out c = c.loop-v.invariant.0.long

pub returns : goal.returns
returns c = let all : c.loop-v.v ≡ length c.args.counts.now = omega arith in
    record { put = put_as (ap (texts _) all) c.loop-v.invariant.0; near = omega arith }
