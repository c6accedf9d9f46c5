-- The goals that the search leaves.
use Prim.Native.Nat.{◌+◌, ◌*◌}
use native.Mathlib.Omega.{arith}
use Rattle.fields.specs.Bits.{byte_len}
use Rattle.file.specs.Reader.{frame_at, order_read}
use Rattle.file.proofs.Stores.{before_more, before_all}
use Rattle.fields.proofs.Bits.{field_lt}
use Rattle.file.proofs.store.order.Goals as goal

pub in_four-requires : goal.in_four-requires
unfolding byte_len
in_four-requires c = (record { narrow = omega arith; near = omega (arith, c.requires.most) }, omega (arith, c.requires.there), omega (arith, c.requires.there))

pub overflow_cast-place : goal.overflow_cast-place
overflow_cast-place c = omega (arith, c.in_four.ensures, field_lt c.args.bytes.now (32 + 12 * c.loop-r.r) 12)

pub loop-r-preserved : goal.loop-r-preserved
unfolding frame_at
loop-r-preserved c = before_more c.loop-r.invariant (omega arith) c.in_four.ensures

pub returns : goal.returns
unfolding order_read
returns c = before_all c.loop-r.invariant (omega arith) c.loop-r.auto.order
