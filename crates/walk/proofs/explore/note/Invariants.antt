-- What is left of the row, noted on top of the table as it stands, is the whole row noted on the lent table.
use mathlib.Core.Path.{◌≡◌}
use lib.ListN.{length, drop}
use Rattle.walk.specs.Inner.{noted_by}
use Rattle.entry.specs.Entry.{joins_of}
use Rattle.walk.proofs.explore.note.Given as goal

abbrev pub invariant-loop-e : goal.invariant-loop-e
invariant-loop-e l = (length l.noted ≡ length l.initial.noted) × (noted_by joins_of (drop l.e-index l.row) l.noted ≡ noted_by joins_of l.row l.initial.noted)
