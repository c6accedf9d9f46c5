-- The goals that the search leaves.
use native.Mathlib.Omega.{arith}
use mathlib.Core.Path.{◌≡◌, ap}
use lib.ListN.{length}
use Rattle.listing.specs.Lines.{texts}
use Rattle.listing.proofs.TextLaws.{put_none, put_as}
use Rattle.listing.proofs.LineLaws.{put_text}
use Rattle.listing.proofs.lines.entries.Goals as goal

pub loop-e-init : goal.loop-e-init
unfolding texts
loop-e-init c = (put_none _ _, omega arith)

pub entry-end-requires : goal.entry-end-requires
entry-end-requires c = (omega (arith, c.loop-e.invariant.0.long, c.requires.0), c.requires.1 c.loop-e.e-index (omega arith))

pub loop-e-preserved : goal.loop-e-preserved
loop-e-preserved c = (
  put_text _ c.loop-e.e-index c.loop-e.invariant.0 c.entry-end.ensures.put,
  omega (arith, c.entry-end.ensures.near, c.loop-e.invariant.1),
)

pub shape_of-out : goal.shape_of-out
shape_of-out c = c.loop-e.invariant.0.long

pub returns : goal.returns
returns c = let all : c.loop-e.e-index ≡ length c.args.row.now = omega arith in
    record { put = put_as (ap (texts _) all) c.loop-e.invariant.0; near = omega arith }
