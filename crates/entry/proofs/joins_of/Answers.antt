-- The definition itself.
use Rattle.std.proofs.Common.{refl}
use Rattle.entry.specs.Entry.{joins_of}
use Rattle.entry.proofs.joins_of.Goals as goal

pub returns : goal.returns
unfolding joins_of
returns c = refl
