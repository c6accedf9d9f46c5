-- The goals that the search leaves.
use Prim.Native.Nat.{ℕ}
use mathlib.Core.Path.{ap, ◌∙◌}
use native.Mathlib.Omega.{arith}
use Rattle.file.specs.Reader.{entry_at}
use Rattle.file.proofs.Stores.{before_more, before_all}
use Rattle.file.proofs.store.entries.Goals as goal

pub loop-i-preserved : goal.loop-i-preserved
loop-i-preserved c =
    before_more c.loop-i.invariant (omega arith) (c.entry_from.ensures ∙ ap (λ (p : ℕ). entry_at c.args.bytes.now p) (omega arith))

pub returns : goal.returns
returns c = before_all c.loop-i.invariant (omega arith) c.loop-i.auto.places
