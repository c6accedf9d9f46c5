-- What is told of the verdict, with the verdict and the room that the order promises.
use mathlib.Core.Path.{ap, ◌∙◌}
use Rattle.capi.specs.Outs.{order_outs}
use Rattle.capi.proofs.OutLaws.{with_rooms}
use Rattle.capi.proofs.TellLaws.{verdict_tells}
use Rattle.capi.proofs.link_calls.seam_order_by_degree.Goals as goal

pub returns : goal.returns
unfolding order_outs
returns c = with_rooms _ (verdict_tells _ c.told.ensures) ∙ ap order_outs c.order_by_degree.ensures.answer
