-- The range is the definition's.
use Rattle.refusal.specs.Sizes.{frames_fit}
use Rattle.refusal.proofs.sizes.frames_fit.Goals as goal

pub returns : goal.returns
unfolding frames_fit
returns c = c.is_within.ensures
