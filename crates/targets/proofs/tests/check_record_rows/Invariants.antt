-- The loop's invariant: the tests of the rows from this record on give what all of them give. Behind fitting rooms and frames a
-- row check is the row's test alone.
use Prim.Native.Nat.{◌-◌}
use mathlib.Core.Path.{◌≡◌}
use lib.ListN.{length}
use Rattle.refusal.specs.Tests.{tests_from}
use Rattle.targets.proofs.TestLaws.{record_row}
use Rattle.targets.proofs.tests.check_record_rows.Given as goal

abbrev pub invariant-loop-frame : goal.invariant-loop-frame
invariant-loop-frame l = tests_from (record_row l.n l.w l.labels l.counts l.frames) l.frame-index (length l.frames - l.frame-index)
    ≡ tests_from (record_row l.n l.w l.labels l.counts l.frames) 0 (length l.frames)
