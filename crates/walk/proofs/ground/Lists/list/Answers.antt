-- The part of the places is the list by definition.
use mathlib.Core.Path.{refl}
use Rattle.walk.specs.Inner.{list_at}
use Rattle.walk.proofs.ground.Lists.list.Goals as goal

pub returns : goal.returns
unfolding list_at
returns c = refl
