-- The goals that the search leaves.
use native.Mathlib.Omega.{arith}
use Rattle.fields.proofs.Pen.{place_ready, place_step, places_end}
use Rattle.fields.proofs.put.Sheet.put_order.Goals as goal

pub put-requires : goal.put-requires
put-requires c = (place_ready _ c.loop-frame.invariant c.loop-frame-test.true, omega arith)

pub loop-frame-preserved : goal.loop-frame-preserved
loop-frame-preserved c = place_step _ c.loop-frame.invariant c.loop-frame-test.true c.put.ensures

pub returns : goal.returns
returns c = places_end _ c.loop-frame.invariant c.loop-frame-test.false
