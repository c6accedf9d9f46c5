-- The rows of the frames that are left, noted on top of the table as it stands, are the rows of all noted on the lent table.
-- The loop takes one frame a turn, and ends behind the last. Noting keeps the table's length, so that every row stays known.
use mathlib.Core.Path.{◌≡◌}
use lib.ListN.{length, drop}
use Rattle.targets.specs.Inner.{noted_rows}
use Rattle.targets.proofs.sixteen.note_all.Given as goal

abbrev pub invariant-loop-named : goal.invariant-loop-named
invariant-loop-named l = (length l.noted ≡ length l.initial.noted)
    × (noted_rows l.w l.labels l.counts (drop l.named-index l.frames) l.noted ≡ noted_rows l.w l.labels l.counts l.frames l.initial.noted)
