-- Two numbers below 65,536 make one of 32 bits, so that nothing wraps; the value is the definition itself.
use Rattle.std.proofs.Common.{refl}
use Rattle.entry.specs.Entry.{entry_of}
use Rattle.entry.proofs.entry_of.Goals as goal

pub returns : goal.returns
unfolding entry_of
returns c = refl
