-- The records taken apart have the frames that the definition asks for.
use Rattle.std.proofs.Common.{ap, ◌∙◌}
use Rattle.targets.specs.Inner.{frames_in}
use Rattle.targets.specs.Nearest.{nearest_of, nearest_told}
use Rattle.targets.specs.declared.record.Listed.{Listed}
use Rattle.targets.proofs.Listed.{nearest_listed}
use Rattle.capi.proofs.target_calls.seam_nearest.Goals as goal

pub returns : goal.returns
returns c =
    c.tell_nearest.ensures
    ∙ ap nearest_told
    (ap (λ (l : Listed). nearest_of c.args.n c.args.w c.args.labels.now c.args.counts.now c.args.asked
    (frames_in l)) c.take_apart.ensures
    ∙ nearest_listed _ _ _ _ _ _)
