-- The definition itself.
use Rattle.std.proofs.Common.{refl}
use Rattle.entry.specs.Entry.{rank_of}
use Rattle.entry.proofs.rank_of.Goals as goal

pub returns : goal.returns
unfolding rank_of
returns c = refl
