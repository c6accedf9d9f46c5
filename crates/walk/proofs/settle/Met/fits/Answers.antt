-- The goals that the search leaves.
use mathlib.Core.Path.{sym, ◌∙◌}
use native.Mathlib.Omega.{arith}
use Rattle.walk.proofs.RoomMarks.{fits_done, fits_not}
use Rattle.walk.proofs.settle.Met.fits.Goals as goal

pub returns-then-lacks_room : goal.returns-then-lacks_room
returns-then-lacks_room c = sym (fits_not c.args.w c.args.counts.now c.args.self.now.listed c.loop-v.v-index c.loop-v-test.true (sym c.lacks_room.ensures ∙ c.if-lacks_room.true))

pub returns : goal.returns
returns c = sym (fits_done c.args.w c.args.counts.now c.args.self.now.listed (λ j h. c.loop-v.invariant j (omega arith)))
