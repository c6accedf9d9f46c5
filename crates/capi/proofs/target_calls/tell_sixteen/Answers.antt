-- What is told of the answer, with the answer that the question promises.
use mathlib.Core.Path.{ap, ◌∙◌}
use Rattle.targets.specs.Sixteen.{sixteen_told}
use Rattle.capi.proofs.TellLaws.{sixteen_tells}
use Rattle.capi.proofs.target_calls.tell_sixteen.Goals as goal

pub returns : goal.returns
returns c = sixteen_tells _ c.unwrap_or.ensures c.told.ensures ∙ ap sixteen_told c.sixteen_listed-answer.ensures
