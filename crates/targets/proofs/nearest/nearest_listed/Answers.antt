-- More records than sixteen are refused by their number; of up to sixteen the frames are cut from the sixteen.
use mathlib.Core.Path.{◌≡◌, sym, ap, ◌∙◌}
use native.Mathlib.Omega.{arith}
use lib.ListN.{length}
use Rattle.std.specs.Prelude.{Err}
use Rattle.targets.specs.Nearest.{nearest_of, NearestTarget}
use Rattle.targets.proofs.Listed.{nearest_many}
use Rattle.targets.proofs.TestLaws.{frames_cut, length_in}
use Rattle.targets.proofs.nearest.nearest_listed.Goals as goal

pub returns-then-count-gt-MOST_TARGETS : goal.returns-then-count-gt-MOST_TARGETS
returns-then-count-gt-MOST_TARGETS c = ap {B = NearestTarget} (λ r. Err r) c.at.ensures ∙ sym (nearest_many _ _ _ _ _ _
    (omega (arith, length_in c.args.listed, c.if-count-gt-MOST_TARGETS.true)))

pub slice_bounds-nearest_of-end : goal.slice_bounds-nearest_of-end
slice_bounds-nearest_of-end c =
    omega (arith, (c.well_formed.1.1.1.1.1.0.1.1.1.0.1.0.1))

pub returns : goal.returns
returns c = c.nearest_of.ensures ∙ ap (nearest_of _ _ _ _ _)
    (frames_cut _ (let long : length c.args.listed.frames ≡ 16 = c.well_formed.1.1.1.1.1.0.1.1.1.0.1.0.1 in omega
    (arith, long)))
