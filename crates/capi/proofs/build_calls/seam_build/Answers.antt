-- What is told of the answer, with the answer and the rooms that the build promises.
use mathlib.Core.Path.{ap, ◌∙◌}
use Rattle.capi.specs.Outs.{build_outs}
use Rattle.capi.proofs.OutLaws.{with_rooms}
use Rattle.capi.proofs.TellLaws.{built_tells}
use Rattle.capi.proofs.build_calls.seam_build.Goals as goal

pub returns : goal.returns
unfolding build_outs
returns c = with_rooms _ (built_tells _ c.unwrap_or.ensures c.told.ensures) ∙ ap build_outs c.build-built.ensures
