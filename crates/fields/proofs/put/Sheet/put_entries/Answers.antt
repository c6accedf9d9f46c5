-- The goals that the search leaves.
use Rattle.fields.proofs.Pen.{place_ready, place_step, places_end}
use Rattle.fields.proofs.put.Sheet.put_entries.Goals as goal

pub put_entry-requires : goal.put_entry-requires
put_entry-requires c = place_ready _ c.loop-e.invariant c.loop-e-test.true

pub loop-e-preserved : goal.loop-e-preserved
loop-e-preserved c = place_step _ c.loop-e.invariant c.loop-e-test.true c.put_entry.ensures

pub returns : goal.returns
returns c = places_end _ c.loop-e.invariant c.loop-e-test.false
