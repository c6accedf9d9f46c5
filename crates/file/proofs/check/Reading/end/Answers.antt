-- `end` makes its two tests in their order: the fill bits, then that no byte is left.
use native.Mathlib.Omega.{arith}
use Rattle.std.proofs.Common.{rules}
use Rattle.fields.specs.Bits.{byte_len, pad_len}
use Rattle.refusal.proofs.Laws.{then_stops, then_goes}
use Rattle.file.specs.Reader.{end_test}
use Rattle.file.proofs.check.Reading.end.Goals as goal

pub get-fill-requires : goal.get-fill-requires
unfolding byte_len
get-fill-requires c = (search rules, omega (arith, c.requires.1))

pub returns-in_err-test : goal.returns-in_err-test
unfolding byte_len pad_len end_test
returns-in_err-test c = then_stops _ (rw c.get-fill.ensures at c.test.ensures) c.in_err-test.was (search rules)

pub returns : goal.returns
unfolding byte_len pad_len end_test
returns c = then_goes (rw c.get-fill.ensures at c.test.ensures) c.in_ok-test.was c.test-2.ensures
