-- The range is the definition's.
use Rattle.std.proofs.Common.{refl}
use Rattle.refusal.specs.Sizes.{places_fit}
use Rattle.refusal.proofs.sizes.places_fit.Goals as goal

pub returns : goal.returns
unfolding places_fit
returns c = refl
