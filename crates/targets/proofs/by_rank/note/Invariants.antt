-- What is left of the row, noted on top of the table as it stands, is the whole row noted on the lent table. The loop
-- takes one entry a turn, and ends at the row's end.
use mathlib.Core.Path.{◌≡◌}
use lib.ListN.{length, drop}
use Rattle.targets.specs.Inner.{noted_in}
use Rattle.targets.proofs.by_rank.note.Given as goal

abbrev pub invariant-loop-e : goal.invariant-loop-e
invariant-loop-e l = (length l.noted ≡ length l.initial.noted) × (noted_in (drop l.e-index l.row) l.noted ≡ noted_in l.row l.initial.noted)
