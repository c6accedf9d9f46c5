-- The entries before place i are put, each in at most 42 bytes. A turn puts entry i behind them.
use Prim.Native.Nat.{◌+◌, ◌*◌, ◌≤◌}
use lib.ListN.{get_or}
use Rattle.listing.specs.Inner.{PutText}
use Rattle.listing.specs.Lines.{texts, entry_text}
use Rattle.listing.proofs.lines.entries.Given as goal

abbrev pub invariant-loop-e : goal.invariant-loop-e
invariant-loop-e l = PutText l.initial.out l.at (texts (λ j. entry_text l.order (get_or l.row j 0)) l.e-index) l.out l.end × (l.end ≤ l.at + 42 * l.e-index)
