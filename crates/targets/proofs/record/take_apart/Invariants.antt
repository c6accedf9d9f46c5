-- The frames of the records before i are taken, and there is room for sixteen. The records left fall.
use Rattle.std.proofs.Common.{ℕ, ◌≡◌, ◌<◌, length, get_or}
use Rattle.targets.specs.Inner.{frame_at}
use Rattle.targets.proofs.record.take_apart.Given as goal

abbrev pub invariant-loop-i : goal.invariant-loop-i
invariant-loop-i l = record {
  count : l.listed.count ≡ length l.targets;
  long : length l.listed.frames ≡ 16;
  taken : (k : ℕ) → k < l.i → get_or l.listed.frames k 0 ≡ frame_at l.targets k;
}
