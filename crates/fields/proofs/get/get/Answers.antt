-- The goals that the search leaves.
use native.Mathlib.Omega.{arith}
use Rattle.std.proofs.lemmas.Nat.{one_shl, and_mask}
use Rattle.fields.specs.Bits.{byte_len}
use Rattle.fields.proofs.Gather.{gather_more, gather_done}
use Rattle.fields.proofs.get.get.Goals as goal

pub loop-i-preserved : goal.loop-i-preserved
unfolding byte_len
loop-i-preserved c = gather_more (λ i. omega (arith, c.type_inv.bytes i)) c.requires.1 c.loop-i-test.true c.loop-i.invariant

pub returns : goal.returns
returns c =
    rw (one_shl c.args.width 64 (omega (arith, c.requires.0.narrow)), and_mask)
    (gather_done _ _ _ c.requires.1 c.loop-i.invariant c.loop-i-test.false)
