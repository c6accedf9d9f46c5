-- `entry` stores what the entry's layout makes of the two fields.
use mathlib.Core.Path.{ap₂, ◌∙◌}
use native.Mathlib.Omega.{arith}
use Rattle.entry.specs.Entry.{entry_of}
use Rattle.fields.specs.Bits.{byte_len}
use Rattle.file.specs.Reader.{entry_at}
use Rattle.fields.proofs.Bits.{pair_parts}
use Rattle.file.proofs.store.entry.Goals as goal

pub returns : goal.returns
unfolding entry_at byte_len
returns c = let (rank, joins) = pair_parts _ c.args.p (omega (arith, c.requires.1)) c.both-both.ensures in
    c.entry_of.ensures ∙ ap₂ entry_of rank joins
