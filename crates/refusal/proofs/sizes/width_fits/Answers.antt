-- The range is the definition's.
use Rattle.refusal.specs.Sizes.{width_fits}
use Rattle.refusal.proofs.sizes.width_fits.Goals as goal

pub returns : goal.returns
unfolding width_fits
returns c = c.is_within.ensures
