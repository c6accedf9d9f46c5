-- Where there is a record i it is the one that is read; where there is none the definition gives 0.
use Rattle.std.proofs.Common.{refl, sym, ap}
use Rattle.std.proofs.Math.ListN.{get_or-eq_default}
use Rattle.targets.specs.Inner.{no_target, frame_at}
use Rattle.targets.specs.declared.record.Target.{Target}
use Rattle.targets.proofs.record.frame_or.Goals as goal

pub returns-then-i-targets : goal.returns-then-i-targets
unfolding frame_at
returns-then-i-targets c = refl

pub returns : goal.returns
unfolding frame_at
returns c = sym (ap (λ (t : Target). t.frame) (get_or-eq_default c.args.targets.now no_target c.if-i-targets.false))
