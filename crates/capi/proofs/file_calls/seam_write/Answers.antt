-- What is told of the answer, with the answer and the room that the writer promises.
use mathlib.Core.Path.{ap, ◌∙◌}
use Rattle.capi.specs.Outs.{write_outs}
use Rattle.capi.proofs.OutLaws.{with_rooms}
use Rattle.capi.proofs.TellLaws.{written_tells}
use Rattle.capi.proofs.file_calls.seam_write.Goals as goal

pub returns : goal.returns
unfolding write_outs
returns c = with_rooms _ (written_tells _ c.unwrap_or.ensures c.told.ensures) ∙ ap write_outs c.write-written.ensures
