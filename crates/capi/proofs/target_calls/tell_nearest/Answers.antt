-- What is told of the answer, with the answer that the question promises.
use mathlib.Core.Path.{ap, ◌∙◌}
use mir.Val.{bool_byte}
use Rattle.std.specs.Prelude.{is_some}
use Rattle.std.specs.Option.{unwrap_or}
use Rattle.targets.specs.Nearest.{nearest_told}
use Rattle.capi.proofs.TellLaws.{nearest_tells}
use Rattle.capi.proofs.target_calls.tell_nearest.Goals as goal

pub returns : goal.returns
returns c =
    nearest_tells _ (c.from.ensures ∙ ap bool_byte (c.is_some.ensures ∙ ap is_some c.unwrap_or-record.ensures))
    (c.unwrap_or.ensures ∙ ap (λ s. unwrap_or s 0) c.unwrap_or-record.ensures) c.told.ensures
    ∙ ap nearest_told c.nearest_listed-answer.ensures
