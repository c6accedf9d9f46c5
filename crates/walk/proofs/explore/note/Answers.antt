-- The goals that the search leaves.
use native.Mathlib.Omega.{arith}
use lib.ListN.{drop_of_length-le}
use Rattle.entry.specs.Entry.{joins_of}
use Rattle.walk.specs.Inner.{noted_by}
use Rattle.walk.proofs.DropNotes.{note_turn}
use Rattle.walk.proofs.explore.note.Goals as goal

pub overflow_cast-noted : goal.overflow_cast-noted
unfolding joins_of
overflow_cast-noted c = omega (arith, c.joins_of.ensures)

pub loop-e-preserved : goal.loop-e-preserved
loop-e-preserved c = note_turn joins_of _ _ _ c.loop-e-test.true c.loop-e.invariant c.rank_of.ensures c.joins_of.ensures

pub returns : goal.returns
unfolding noted_by
returns c = rw (drop_of_length-le _ c.loop-e-test.false) at c.loop-e.invariant.1
