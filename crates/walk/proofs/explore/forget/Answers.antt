-- The goals that the search leaves.
use mathlib.Core.Path.{refl}
use lib.ListN.{drop_of_length-le}
use Rattle.walk.specs.Inner.{noted_by}
use Rattle.walk.proofs.DropNotes.{note_turn}
use Rattle.walk.proofs.explore.forget.Goals as goal

pub loop-e-preserved : goal.loop-e-preserved
loop-e-preserved c = note_turn (λ _. 65536) _ _ _ c.loop-e-test.true c.loop-e.invariant c.rank_of.ensures refl

pub returns : goal.returns
unfolding noted_by
returns c = rw (drop_of_length-le _ c.loop-e-test.false) at c.loop-e.invariant.1
