-- Bit p lies p - 8 * last bits behind the front of the fourth byte from the end.
use Prim.Native.Nat.{ℕ}
use mathlib.Core.Path.{ap, ◌∙◌}
use native.Mathlib.Omega.{arith}
use Rattle.fields.specs.Bits.{field_at}
use Rattle.fields.proofs.get.in_four.Goals as goal

pub returns : goal.returns
returns c = c.four_from-2.ensures ∙ ap (λ (p : ℕ). field_at c.args.bytes.now p c.args.width) (omega arith)
