-- The records taken apart have the frames that the definition asks for.
use Rattle.std.proofs.Common.{ap, ◌∙◌}
use Rattle.targets.specs.Inner.{frames_in}
use Rattle.targets.specs.Sixteen.{sixteen_of, sixteen_told}
use Rattle.targets.specs.declared.record.Listed.{Listed}
use Rattle.targets.proofs.Listed.{sixteen_listed}
use Rattle.targets.proofs.sixteen.sixteen.Goals as goal

pub returns : goal.returns
returns c =
    let same = c.sixteen_listed.ensures
    ∙ ap (λ (l : Listed). sixteen_of c.args.n c.args.w c.args.labels.now c.args.counts.now (frames_in l)) c.take_apart.ensures
    ∙ sixteen_listed _ _ _ _ _ in
    (same, ap sixteen_told same)
