-- What is told of the answer, with the answer that the header promises.
use mathlib.Core.Path.{ap, ◌∙◌}
use Rattle.file.specs.Reader.{opened_told}
use Rattle.capi.proofs.file_calls.seam_header.Goals as goal

pub returns : goal.returns
returns c = c.opened.ensures ∙ ap opened_told c.header.ensures.given
