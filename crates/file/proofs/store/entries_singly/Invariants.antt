-- The loop of `entries_singly`: the places before place i hold their entries.
use Prim.Native.Nat.{◌+◌, ◌*◌}
use Rattle.file.specs.Reader.{entry_at}
use Rattle.file.proofs.Stores.{Before}
use Rattle.file.proofs.store.entries_singly.Given as goal

abbrev pub invariant-loop-i : goal.invariant-loop-i
invariant-loop-i l = Before (λ i. entry_at l.bytes (l.p + 24 * i)) l.places l.i
