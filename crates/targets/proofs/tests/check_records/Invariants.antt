-- The loop's invariant: the tests from record i on give what all of them give. A frame of n or more is refused with its
-- record's place plus one.
use Prim.Native.Nat.{◌-◌}
use mathlib.Core.Path.{◌≡◌}
use lib.ListN.{length}
use Rattle.refusal.specs.Tests.{tests_from}
use Rattle.targets.specs.Targets.{records_test}
use Rattle.targets.proofs.TestLaws.{record_test}
use Rattle.targets.proofs.tests.check_records.Given as goal

abbrev pub invariant-loop-i : goal.invariant-loop-i
invariant-loop-i l = tests_from (record_test l.n l.frames) l.i (length l.frames - l.i) ≡ records_test l.n l.frames
