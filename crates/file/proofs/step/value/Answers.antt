-- `value` makes the one test of its field: that the bytes reach to its end.
use mathlib.Core.Path.{sym, ◌∙◌}
use Rattle.std.proofs.Common.{rules}
use Rattle.fields.specs.Bits.{byte_len}
use Rattle.file.specs.Reader.{short_test}
use Rattle.file.proofs.Steps.{step_refuses, step_fine, short_there}
use Rattle.file.proofs.step.value.Goals as goal

pub returns-in_err-test : goal.returns-in_err-test
unfolding short_test byte_len
returns-in_err-test c = step_refuses _ (sym c.test.ensures ∙ c.in_err-test.was) (search rules)

pub get-requires : goal.get-requires
unfolding short_test byte_len
get-requires c = (c.requires, short_there _ _ _ (sym c.test.ensures ∙ c.in_ok-test.was))

pub returns : goal.returns
unfolding short_test byte_len
returns c = step_fine (sym c.test.ensures ∙ c.in_ok-test.was) c.get.ensures
