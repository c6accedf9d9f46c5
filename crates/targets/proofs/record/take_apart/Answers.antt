-- After sixteen turns the frames are the definition's table.
use Rattle.std.proofs.Common.{ap₂, arith}
use Rattle.basics.proofs.Laws.{is_table}
use Rattle.targets.specs.Inner.{frame_at, listed_with, listed_of}
use Rattle.targets.proofs.record.take_apart.Goals as goal

pub returns : goal.returns
unfolding listed_of
returns c =
    let all = c.loop-i.invariant in
    ap₂ listed_with all.count
    (is_table 0 c.loop-i.listed.frames 16 (frame_at c.args.targets.now) all.long (λ k h. all.taken k (omega arith)))
