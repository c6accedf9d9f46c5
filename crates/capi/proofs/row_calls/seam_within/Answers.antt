-- What is told of the answer, with the numbers that the question promises.
use mathlib.Core.Path.{ap, ◌∙◌}
use mir.Val.{bool_byte}
use Rattle.capi.proofs.TellLaws.{within_tells}
use Rattle.capi.proofs.row_calls.seam_within.Goals as goal

pub returns : goal.returns
returns c = within_tells _ (c.from.ensures ∙ ap bool_byte c.unwrap_or.ensures) c.told.ensures ∙ c.within-answer.ensures.numbers
