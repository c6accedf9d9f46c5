-- The goals that the search leaves.
use native.Mathlib.Omega.{arith}
use Rattle.fields.specs.Bits.{byte_len}
use Rattle.file.proofs.Stores.{before_all}
use Rattle.file.proofs.store.entries_singly.Goals as goal

pub entry-requires : goal.entry-requires
unfolding byte_len
entry-requires c = (omega (arith, c.requires.near, c.requires.most), omega (arith, c.requires.there))

pub returns : goal.returns
returns c = before_all c.loop-i.invariant (omega arith) c.loop-i.auto.places
