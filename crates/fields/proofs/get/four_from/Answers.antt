-- The four bytes are the last bits of the bytes up to there; the field is cut out of them.
use native.Mathlib.Omega.{arith}
use Rattle.std.proofs.lemmas.Nat.{one_shl, and_mask}
use Rattle.fields.proofs.Gather.{four_bytes}
use Rattle.fields.proofs.get.four_from.Goals as goal

pub returns : goal.returns
returns c =
    rw (one_shl c.args.width 64 (omega (arith, c.requires.0)), and_mask, c.from_be_bytes-sum.ensures)
    (four_bytes _ c.args.at c.args.past c.args.width (λ i. omega (arith, c.type_inv.bytes i)) c.requires.0 c.requires.1)
