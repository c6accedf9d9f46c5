-- More records than sixteen are refused by their number; else the first so many frames are the records'.
use mathlib.Core.Path.{◌≡◌, sym, ap, ◌∙◌}
use native.Mathlib.Omega.{arith}
use lib.ListN.{length}
use Rattle.std.specs.Prelude.{Err}
use Rattle.targets.specs.Sixteen.{sixteen_of, SixteenCounts}
use Rattle.targets.proofs.Listed.{sixteen_many}
use Rattle.targets.proofs.TestLaws.{frames_cut, length_in}
use Rattle.targets.proofs.sixteen.sixteen_listed.Goals as goal

pub returns-then-count-gt-MOST_TARGETS : goal.returns-then-count-gt-MOST_TARGETS
returns-then-count-gt-MOST_TARGETS c = ap {B = SixteenCounts} (λ r. Err r) c.at.ensures
    ∙ sym (sixteen_many _ _ _ _ _ (omega (arith, length_in c.args.listed, c.if-count-gt-MOST_TARGETS.true)))

pub slice_bounds-sixteen_of-end : goal.slice_bounds-sixteen_of-end
slice_bounds-sixteen_of-end c =
    omega (arith, (c.well_formed.1.1.1.1.0.1.1.1.0.1.0.1))

pub returns : goal.returns
returns c = c.sixteen_of.ensures ∙ ap (sixteen_of _ _ _ _) (frames_cut _
    (let long : length c.args.listed.frames ≡ 16 = c.well_formed.1.1.1.1.0.1.1.1.0.1.0.1 in omega (arith, long)))
