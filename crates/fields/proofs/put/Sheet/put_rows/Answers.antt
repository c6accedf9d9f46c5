-- The goals that the search leaves.
use Rattle.fields.proofs.Pen.{place_ready, place_step, places_end}
use Rattle.fields.proofs.put.Sheet.put_rows.Goals as goal

pub put_row-requires : goal.put_row-requires
put_row-requires c = (place_ready _ c.loop-v.invariant c.loop-v-test.true, c.requires.1 c.loop-v.v c.loop-v-test.true)

pub loop-v-preserved : goal.loop-v-preserved
loop-v-preserved c = place_step _ c.loop-v.invariant c.loop-v-test.true c.put_row.ensures

pub returns : goal.returns
returns c = places_end _ c.loop-v.invariant c.loop-v-test.false
