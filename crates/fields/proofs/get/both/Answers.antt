-- `both`: where four bytes are there they give the 24 bits, else the two fields do.
use Prim.Native.Nat.{ℕ, ◌+◌, ◌*◌, ◌≤◌}
use mathlib.Core.Path.{◌≡◌, refl, sym, ap₂, ◌∙◌}
use mathlib.Core.List.{List}
use native.Mathlib.Omega.{arith}
use lib.ListN.{length}
use lib.Pow.{split}
use Rattle.fields.specs.Bits.{field_at, byte_len}
use Rattle.fields.proofs.Bits.{pair_parts}
use Rattle.fields.proofs.get.both.Goals as goal

-- the two fields as one number
joined : (s : List ℕ) (p : ℕ) → p + 24 ≤ 8 * length s → field_at s p 12 * 4096 + field_at s (p + 12) 12 ≡ field_at s p 24
joined s p h =
    let (rank, joins) = pair_parts s p h refl in
    sym (ap₂ (λ (x y : ℕ). x * 4096 + y) rank joins) ∙ split (field_at s p 24) 12

pub returns : goal.returns
unfolding byte_len
returns c = rw (c.get-rank.ensures, c.get-joins.ensures) (joined _ c.args.p (omega (arith, c.requires.1)))
