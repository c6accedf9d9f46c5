-- The goals that the search leaves.
use Prim.Native.Nat.{ℕ, ◌+◌, ◌-◌, ◌*◌, ◌%◌, ◌^◌, ◌≤◌, ◌<◌}
use mathlib.Core.Path.{◌≡◌, refl, sym, subst}
use mathlib.Core.List.{[], ◌∷◌}
use native.Mathlib.Omega.{arith}
use native.Mathlib.Nat.{lt_of_lt_of_le}
use lib.Pow.{pow_mono, shl_exact}
use Rattle.std.proofs.lemmas.Nat.{one_shl, and_mask}
use Rattle.fields.specs.declared.put.Sheet.{Sheet}
use Rattle.fields.specs.Bits.{bit_len, num, field}
use Rattle.fields.specs.Inner.{Ready}
use Rattle.fields.proofs.Byte.{byte_step, whole_lt, byte_none, byte_end}
use Rattle.fields.proofs.put.Sheet.put.Goals as goal

-- a field is its width long, and alone its value
alone : (value width : ℕ) → bit_len (field value width ∷ []) ≡ width
unfolding bit_len
alone value width = omega arith

module _ {p : Sheet} {value width : ℕ} (r : Ready p (field value width ∷ [])) (narrow : width ≤ 16) where
  is_whole : p.pen.acc * 2 ^ width % 2 ^ 64 + value ≡ p.pen.acc * 2 ^ width + num 0 (field value width ∷ [])
  unfolding num
  is_whole = omega (arith, shl_exact p.pen.nb width 64 p.below (omega (arith, p.small)))

  whole-fits : p.pen.acc * 2 ^ width % 2 ^ 64 + value < 2 ^ 64
  whole-fits =
      subst (λ (y : ℕ). y < 2 ^ 64) (sym is_whole)
      (lt_of_lt_of_le (whole_lt r width (alone value width)) (pow_mono {i = p.pen.nb + width} {j = 64} (omega (arith, p.small))))

pub overflow_add-whole : goal.overflow_add-whole
overflow_add-whole c = record { fits = whole-fits c.requires.0 c.requires.1 }

pub loop-nb-init : goal.loop-nb-init
loop-nb-init c = record {
  same = refl;
  few = omega (arith, c.requires.1, c.args.self.now.small);
  left = byte_none c.requires.0 _ (alone _ _) (is_whole c.requires.0 c.requires.1);
}

pub loop-nb-preserved : goal.loop-nb-preserved
loop-nb-preserved c = record {
  same = cc;
  few = omega (arith, c.loop-nb.invariant.few);
  left = byte_step c.loop-nb.invariant.left (c.loop-nb.nb - 8) (omega (arith, c.loop-nb-test.true)) _ refl;
}

pub returns : goal.returns
returns c = byte_end c.requires.0 _ (alone _ _) c.loop-nb.invariant.same c.loop-nb.invariant.left
    (rw (one_shl c.loop-nb.nb 64 (omega arith)) (and_mask _ c.loop-nb.nb))
