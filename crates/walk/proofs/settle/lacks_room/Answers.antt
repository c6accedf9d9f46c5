-- A mark above 0 says kept if it is below that of a dropped frame.
use Prim.Native.Nat.{ℕ, ◌<◌}
use mathlib.Core.Path.{◌≡◌, refl, sym, ◌∙◌}
use mathlib.Core.Bool.{◌&&◌, and-true, and-false}
use borrow.Author.Tests.{le-leb, lt-leb, lt-ltb}
use lib.Dec.{leb, ltb}
use Rattle.walk.specs.Inner.{lacks_room, is_kept}
use Rattle.walk.proofs.settle.lacks_room.Goals as goal

by_mark : (w count mark : ℕ) → 0 < mark → lacks_room w count mark ≡ ltb mark 65536 && leb w count
unfolding lacks_room is_kept
by_mark w count mark h = rw (lt-ltb 0 mark h) refl

pub returns-then-w-count : goal.returns-then-w-count
returns-then-w-count c = sym (by_mark c.args.w c.args.count c.args.mark c.requires ∙ rw (le-leb c.args.w c.args.count c.if-w-count.true) (and-true _))

pub returns-else-w-count : goal.returns-else-w-count
returns-else-w-count c = let none = lt-leb c.args.w c.args.count c.if-w-count.false in
    none ∙ sym (by_mark c.args.w c.args.count c.args.mark c.requires ∙ rw none (and-false _))
