-- What is told of the verdict, with the verdict that the test promises.
use mathlib.Core.Path.{ap, ◌∙◌}
use Rattle.refusal.specs.Told.{verdict_told}
use Rattle.capi.proofs.TellLaws.{verdict_tells}
use Rattle.capi.proofs.link_calls.seam_check_order.Goals as goal

pub returns : goal.returns
returns c = verdict_tells _ c.told.ensures ∙ ap verdict_told c.check_order.ensures.answer
