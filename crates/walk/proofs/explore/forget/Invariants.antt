-- What is left of the row, forgotten on top of the table as it stands, is the whole row forgotten on the lent table.
use mathlib.Core.Path.{◌≡◌}
use lib.ListN.{length, drop}
use Rattle.walk.specs.Inner.{noted_by}
use Rattle.walk.proofs.explore.forget.Given as goal

abbrev pub invariant-loop-e : goal.invariant-loop-e
invariant-loop-e l = (length l.noted ≡ length l.initial.noted) × (noted_by (λ _. 65536) (drop l.e-index l.row) l.noted ≡ noted_by (λ _. 65536) l.row l.initial.noted)
