-- `entry_from` stores what the entry's layout makes of the two fields.
use Prim.Native.Nat.{◌+◌, ◌*◌}
use mathlib.Core.Path.{ap₂, ◌∙◌}
use native.Mathlib.Omega.{arith}
use Rattle.entry.specs.Entry.{entry_of}
use Rattle.file.specs.Reader.{entry_at}
use Rattle.fields.proofs.Bits.{pair_parts}
use Rattle.file.proofs.store.entry_from.Goals as goal

pub returns : goal.returns
unfolding entry_at
returns c = let (rank, joins) = pair_parts _ (8 * c.args.at + c.args.past) (omega (arith, c.requires.1)) c.four_from-both.ensures in
    c.entry_of.ensures ∙ ap₂ entry_of rank joins
