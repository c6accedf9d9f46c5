-- The loop of `order`: the places before rank r hold their frames.
use Rattle.file.specs.Reader.{frame_at}
use Rattle.file.proofs.Stores.{Before}
use Rattle.file.proofs.store.order.Given as goal

abbrev pub invariant-loop-r : goal.invariant-loop-r
invariant-loop-r l = Before (frame_at l.bytes) l.order l.r
