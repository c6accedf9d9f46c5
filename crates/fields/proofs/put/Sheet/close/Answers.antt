-- The last byte: the bits held, moved up to the byte's front.
use Prim.Native.Nat.{ℕ, suc, ◌+◌, ◌-◌, ◌*◌, ◌/◌, ◌%◌, ◌^◌, ◌≤◌, ◌<◌}
use mathlib.Core.Path.{◌≡◌, refl, sym, ap, ap₂, subst, ◌∙◌}
use mathlib.Core.List.{List, []}
use native.Mathlib.Omega.{arith}
use lib.ListN.{length, set, take, length-set}
use lib.Seq.{take-suc-set}
use lib.Arith.{lt-one}
use lib.Pow.{pow-add, shl_exact, shl_lt}
use Rattle.fields.specs.Bits.{val, bit_len, byte_len, pad_len}
use Rattle.fields.specs.Inner.{pen_bits, pen_num, Ready, Closed}
use Rattle.fields.specs.declared.put.Sheet.{Sheet}
use Rattle.fields.proofs.Bits.{val_snoc, horner}
use Rattle.fields.proofs.put.Sheet.close.Goals as goal

module _ (p : Sheet) where
  moved : p.pen.acc * 2 ^ (8 - p.pen.nb) % 2 ^ 64 ≡ p.pen.acc * 2 ^ (8 - p.pen.nb)
  moved = shl_exact p.pen.nb (8 - p.pen.nb) 64 p.below (omega (arith, p.small))

  moved-lt : p.pen.acc * 2 ^ (8 - p.pen.nb) % 2 ^ 64 < 256
  moved-lt =
      let whole : p.pen.nb + (8 - p.pen.nb) ≡ 8 = omega (arith, p.small) in
      subst (λ (x : ℕ). x < 256) (sym moved)
      (subst (λ (k : ℕ). p.pen.acc * 2 ^ (8 - p.pen.nb) < 2 ^ k) whole (shl_lt p.pen.nb (8 - p.pen.nb) p.below))

module _ {p : Sheet} (r : Ready p []) where
  -- with no bits held nothing is to be stored
  even : p.pen.nb ≤ 0 → Closed p p
  unfolding byte_len pad_len pen_num
  even h =
      let zero_bits : p.pen.nb ≡ 0 = omega arith in
      let none : p.pen.acc ≡ 0 = lt-one (subst (λ (k : ℕ). p.pen.acc < 2 ^ k) zero_bits p.below) in
      let bytes : (pen_bits p.pen + 7) / 8 ≡ p.pen.at = omega arith in
      let pad : 8 * ((pen_bits p.pen + 7) / 8) - pen_bits p.pen ≡ 0 = omega arith in
      record {
        same = refl;
        long = refl;
        whole =
            ap (λ (k : ℕ). val (take k p.out.now)) bytes
            ∙ sym (ap₂ (λ (k x : ℕ). (val (take p.pen.at p.out.now) * 2 ^ k + x) * 2 ^
            (8 * ((pen_bits p.pen + 7) / 8) - pen_bits p.pen)) zero_bits none
            ∙ ap (λ (k : ℕ). (val (take p.pen.at p.out.now) * 1 + 0) * 2 ^ k) pad ∙ omega arith);
      }

  odd : 0 < p.pen.nb → {p1 : Sheet} → p1.out.ghost_name ≡ p.out.ghost_name → p1.out.now ≡ set p.out.now p.pen.at (p.pen.acc * 2 ^ (8 - p.pen.nb) % 2 ^ 64) → Closed p p1
  unfolding byte_len pad_len pen_num bit_len
  odd h {p1} same e =
      let o : List ℕ = p.out.now in
      let F : ℕ = val (take p.pen.at p.out.now) in
      let last : ℕ = p.pen.acc * 2 ^ (8 - p.pen.nb) % 2 ^ 64 in
      let small : p.pen.nb < 8 = p.small in
      let bytes : (pen_bits p.pen + 7) / 8 ≡ suc p.pen.at = omega arith in
      let pad : 8 * ((pen_bits p.pen + 7) / 8) - pen_bits p.pen ≡ 8 - p.pen.nb = omega arith in
      let parts : 8 ≡ p.pen.nb + (8 - p.pen.nb) = omega arith in
      let power : 2 ^ 8 ≡ 2 ^ p.pen.nb * 2 ^ (8 - p.pen.nb) = ap (λ (k : ℕ). 2 ^ k) parts ∙ pow-add 2 p.pen.nb (8 - p.pen.nb) in
      let inside : p.pen.at < length p.out.now = omega (arith, r.space) in
      record {
        same = same;
        long = ap length e ∙ length-set o p.pen.at last;
        whole =
            ap (λ (s : List ℕ). val (take (byte_len (pen_bits p.pen)) s)) e
            ∙ ap (λ (k : ℕ). val (take k (set o p.pen.at last))) bytes ∙ ap val (take-suc-set o p.pen.at last inside)
            ∙ val_snoc (take p.pen.at p.out.now) last
            ∙ ap₂ (λ (x y : ℕ). F * x + y) power (moved p)
            ∙ omega (arith, horner F p.pen.acc 0 (2 ^ p.pen.nb) (2 ^ (8 - p.pen.nb)))
            ∙ ap (λ (k : ℕ). (F * 2 ^ p.pen.nb + p.pen.acc) * 2 ^ k) (sym pad);
      }

pub overflow_cast-self : goal.overflow_cast-self
overflow_cast-self c = record { fits = moved-lt c.args.self.now }

pub returns-then-self-gt0 : goal.returns-then-self-gt0
returns-then-self-gt0 c = odd c.requires (omega (arith, c.if-self-gt0.true)) refl refl

pub returns-else-self-gt0 : goal.returns-else-self-gt0
returns-else-self-gt0 c = even c.requires c.if-self-gt0.false
