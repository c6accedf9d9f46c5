-- The records taken apart have the frames that the definition asks for.
use Rattle.std.proofs.Common.{ap, ◌∙◌}
use Rattle.targets.specs.Inner.{frames_in}
use Rattle.targets.specs.Nearest.{nearest_of, nearest_told}
use Rattle.targets.specs.declared.record.Listed.{Listed}
use Rattle.targets.proofs.Listed.{nearest_listed}
use Rattle.targets.proofs.nearest.nearest.Goals as goal

pub returns : goal.returns
returns c =
    let same = c.nearest_listed.ensures
    ∙ ap (λ (l : Listed). nearest_of c.args.n c.args.w c.args.labels.now c.args.counts.now c.args.asked
    (frames_in l)) c.take_apart.ensures
    ∙ nearest_listed _ _ _ _ _ _ in
    (same, ap nearest_told same)
