-- The goals that the search leaves.
use Prim.Native.Nat.{ℕ}
use mathlib.Core.Path.{subst}
use native.Mathlib.Omega.{arith}
use Rattle.fields.specs.Bits.{byte_len}
use Rattle.fields.proofs.Bits.{pair_parts}
use Rattle.file.specs.Inner.{Rises}
use Rattle.file.proofs.Fields.{entry_legal, rises_none, rises_more}
use Rattle.file.proofs.Steps.{short_fine}
use Rattle.file.proofs.check.rising.Goals as goal

pub loop-i-init : goal.loop-i-init
loop-i-init c = rises_none _ _ _ _

pub loop-i-preserved : goal.loop-i-preserved
unfolding byte_len
loop-i-preserved c = let (rank, joins) = pair_parts _ _ (omega arith) c.four_from-both.ensures in
    rises_more _ _ _ _ c.loop-i.invariant c.loop-i-test.true (omega arith) rank (omega (arith, c.if-rank-low.false))
    (λ k high. entry_legal _ _ _ _ _ (short_fine _ _ _ (omega arith)) (omega (arith, c.if-rank-low.false)) (omega (arith, high))
    (short_fine _ _ _ (omega arith)) (omega (arith, c.if-n-both.false)))

pub returns : goal.returns
returns c =
    subst (λ (i : ℕ). Rises c.args.bytes.now c.args.n c.args.p c.args.count i c.loop-i.low)
    (omega (arith, c.loop-i.invariant.within)) c.loop-i.invariant
