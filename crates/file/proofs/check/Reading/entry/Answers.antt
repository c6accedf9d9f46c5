-- `entry`: a legal entry whose bytes are there goes on with its rank, every other one is tested field by field.
use native.Mathlib.Omega.{arith}
use Rattle.fields.specs.Bits.{byte_len}
use Rattle.fields.proofs.Bits.{pair_parts}
use Rattle.file.proofs.Fields.{entry_legal}
use Rattle.file.proofs.Steps.{short_fine, step_fine}
use Rattle.file.proofs.check.Reading.entry.Goals as goal

pub returns-then-joins-self : goal.returns-then-joins-self
unfolding byte_len
returns-then-joins-self c = let (rank, joins) = pair_parts _ c.args.p (omega arith) c.four-both.ensures in
    step_fine (entry_legal _ _ _ _ _ (short_fine _ _ _ (omega arith)) (omega (arith, c.if-low-rank.true))
    (omega (arith, c.if-rank-self.true)) (short_fine _ _ _ (omega arith)) (omega (arith, c.if-joins-self.true))) rank
