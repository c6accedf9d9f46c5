-- Bit p lies p % 8 bits into byte p / 8.
use Prim.Native.Nat.{ℕ}
use mathlib.Core.Path.{ap, ◌∙◌}
use native.Mathlib.Omega.{arith}
use Rattle.fields.specs.Bits.{field_at}
use Rattle.fields.proofs.get.four.Goals as goal

pub returns : goal.returns
returns c = c.four_from.ensures ∙ ap (λ (p : ℕ). field_at c.args.bytes.now p 24) (omega arith)
