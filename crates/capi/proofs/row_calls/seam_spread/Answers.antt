-- What is told of the answer, with the numbers that the spread question promises.
use mathlib.Core.Path.{◌∙◌}
use Rattle.capi.proofs.TellLaws.{spread_tells}
use Rattle.capi.proofs.row_calls.seam_spread.Goals as goal

pub returns : goal.returns
returns c = spread_tells _ c.unwrap_or.ensures c.told.ensures ∙ c.spread-answer.ensures.numbers
