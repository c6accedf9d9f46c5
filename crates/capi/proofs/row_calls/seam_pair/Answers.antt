-- What is told of the answer, with the numbers that the pair question promises.
use mathlib.Core.Path.{ap, ◌∙◌}
use mir.Val.{bool_byte}
use Rattle.std.specs.Prelude.{is_some}
use Rattle.std.specs.Option.{unwrap_or}
use Rattle.capi.proofs.TellLaws.{pair_tells}
use Rattle.capi.proofs.row_calls.seam_pair.Goals as goal

pub returns : goal.returns
returns c =
    pair_tells _ (c.from.ensures ∙ ap bool_byte (c.is_some.ensures ∙ ap is_some c.unwrap_or-sum.ensures))
    (c.unwrap_or.ensures ∙ ap (λ s. unwrap_or s 0) c.unwrap_or-sum.ensures) c.told.ensures
    ∙ c.pair-answer.ensures.numbers
