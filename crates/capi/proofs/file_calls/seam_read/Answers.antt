-- What is told of the answer, with the answer and the rooms that the reader promises.
use mathlib.Core.Path.{ap, ◌∙◌}
use Rattle.capi.specs.Outs.{read_outs}
use Rattle.capi.proofs.OutLaws.{with_rooms}
use Rattle.capi.proofs.file_calls.seam_read.Goals as goal

pub returns : goal.returns
unfolding read_outs
returns c = with_rooms _ c.opened.ensures
    ∙ ap read_outs c.read.ensures.given
