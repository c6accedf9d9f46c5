-- The counts are those of the frames below v. The loop takes one frame a turn, and ends behind the last.
use mathlib.Core.Path.{◌≡◌}
use Rattle.targets.specs.Inner.{reached_counts}
use Rattle.targets.proofs.sixteen.count_all.Given as goal

abbrev pub invariant-loop-v : goal.invariant-loop-v
invariant-loop-v l = l.sixteen ≡ reached_counts l.w l.labels l.counts l.noted l.v
