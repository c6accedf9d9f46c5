-- The lines before frame v are put, each in at most 1,365 bytes. A turn puts the line of frame v, whose row is sound: its
-- ranks have their frames in the order.
use Prim.Native.Nat.{◌+◌, ◌*◌, ◌≤◌}
use Rattle.listing.specs.Inner.{PutText}
use Rattle.listing.specs.Lines.{WIDTH, lines_text}
use Rattle.listing.proofs.lines.lines.Given as goal

abbrev pub invariant-loop-v : goal.invariant-loop-v
invariant-loop-v l = PutText l.initial.out l.at (lines_text l.v WIDTH l.order l.labels l.counts) l.out l.end
    × (l.end ≤ l.at + 1365 * l.v)
