-- No frame passed lacks room; the list holds every met frame, so at its end no frame lacks room.
use Prim.Native.Nat.{ℕ, ◌<◌}
use mathlib.Core.Path.{◌≡◌}
use mathlib.Core.Bool.{false}
use lib.ListN.{get_or}
use Rattle.walk.specs.Inner.{lacks_room}
use Rattle.walk.proofs.settle.Met.fits.Given as goal

abbrev pub invariant-loop-v : goal.invariant-loop-v
invariant-loop-v l = (i : ℕ) → i < l.v-index → lacks_room l.w (get_or l.counts (get_or l.self.frames.now i 0) 0) (get_or l.self.marks.now (get_or l.self.frames.now i 0) 0) ≡ false
