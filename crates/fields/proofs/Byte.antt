-- A number put byte by byte, from the top: the bytes stored and the bits left of it make the number that was to be put.
use Prim.Native.Nat.{ℕ, ◌+◌, ◌*◌, ◌/◌, ◌%◌, ◌^◌, ◌≤◌, ◌<◌}
use mathlib.Core.Path.{◌≡◌, refl, sym, ap, ap₂, subst, ◌∙◌}
use mathlib.Core.List.{List}
use native.Mathlib.Omega.{arith}
use native.Mathlib.Nat.{mod-eq_of_lt}
use native.Mathlib.Numerals.{add-one}
use lib.ListN.{length, set, take, drop, length-set}
use lib.Seq.{take-suc-set, drop-set-lt}
use lib.Pow.{pow-add, mod-pow-add}
use lib.Arith.{digits_lt}
use Rattle.basics.proofs.Laws.{drop_later}
use Rattle.fields.specs.declared.put.Sheet.{Sheet}
use Rattle.fields.specs.Bits.{Field, val, bit_len, num}
use Rattle.fields.specs.Inner.{Legal, pen_bits, pen_num, Ready, Put}
use Rattle.fields.proofs.Bits.{val_snoc, horner, num_split, num_lt}

-- the first b bits of the room, with the last nb bits of `whole`, are the number x; beyond the bytes stored it is o₀
pub record BytesLeft (o₀ : List ℕ) (x b whole : ℕ) (o : List ℕ) (at nb : ℕ) : Type 0 where
  pub bits : 8 * at + nb ≡ b
  pub inside : b ≤ 8 * length o
  pub number : val (take at o) * 2 ^ nb + whole % 2 ^ nb ≡ x
  pub long : length o ≡ length o₀
  pub rest : drop at o ≡ drop at o₀

module _ {o₀ : List ℕ} {x b whole : ℕ} {o : List ℕ} {at nb : ℕ} (s : BytesLeft o₀ x b whole o at nb) (j : ℕ) (e : nb ≡ 8 + j) where
  -- the next byte has a place
  pub byte_room : at < length o
  byte_room = omega (arith, s.bits, s.inside)

  -- it is stored
  pub byte_step : (next : ℕ) → next ≡ at + 1 → BytesLeft o₀ x b whole (set o at (whole / 2 ^ j % 256)) next j
  byte_step next n =
      let q : ℕ = whole / 2 ^ j % 256 in
      let F : ℕ = val (take at o) in
      let front : val (take next (set o at q)) ≡ F * 2 ^ 8 + q =
      ap (λ (k : ℕ). val (take k (set o at q))) (n ∙ add-one at) ∙ ap val (take-suc-set o at q byte_room) ∙ val_snoc (take at o) q in
      let power : 2 ^ nb ≡ 2 ^ 8 * 2 ^ j = ap (λ (k : ℕ). 2 ^ k) e ∙ pow-add 2 8 j in
      let cut : q * 2 ^ j + whole % 2 ^ j ≡ whole % 2 ^ nb = sym (ap (λ (k : ℕ). whole % 2 ^ k) e ∙ mod-pow-add whole 8 j) in
      record {
        bits = omega (arith, s.bits);
        inside = simp length-set s.inside;
        number =
            ap (λ (y : ℕ). y * 2 ^ j + whole % 2 ^ j) front ∙ horner F q (whole % 2 ^ j) (2 ^ 8) (2 ^ j)
            ∙ ap₂ (λ (y z : ℕ). F * y + z) (sym power) cut ∙ s.number;
        long = length-set o at q ∙ s.long;
        rest =
            drop-set-lt next o at q (omega arith) ∙ drop_later o o₀ at next (omega arith) s.rest;
      }

-- fields as one number, behind the bits that the pen holds
module _ {p : Sheet} {fs : List Field} (r : Ready p fs) (L : ℕ) (l : bit_len fs ≡ L) where
  pub whole_lt : p.pen.acc * 2 ^ L + num 0 fs < 2 ^ (p.pen.nb + L)
  whole_lt =
      subst (λ (y : ℕ). p.pen.acc * 2 ^ L + num 0 fs < y) (sym (pow-add 2 p.pen.nb L))
      (digits_lt p.below (subst (λ (k : ℕ). num 0 fs < 2 ^ k) l (num_lt fs r.legal)))

  -- no byte is stored yet
  pub byte_none : {whole : ℕ} → whole ≡ p.pen.acc * 2 ^ L + num 0 fs →
      BytesLeft p.out.now (num (pen_num p.out.now p.pen) fs) (pen_bits p.pen + L) whole p.out.now p.pen.at (p.pen.nb + L)
  unfolding pen_num
  byte_none {whole} e =
      let F : ℕ = val (take p.pen.at p.out.now) in
      let N : ℕ = num 0 fs in
      let w : whole % 2 ^ (p.pen.nb + L) ≡ p.pen.acc * 2 ^ L + N = ap (λ (y : ℕ). y % 2 ^ (p.pen.nb + L)) e ∙ mod-eq_of_lt whole_lt in
      record {
        bits = omega arith;
        inside = omega (arith, r.space);
        number =
            ap₂ (λ (y z : ℕ). F * y + z) (pow-add 2 p.pen.nb L) w
            ∙ sym (num_split (pen_num p.out.now p.pen) fs
            ∙ ap (λ (k : ℕ). (F * 2 ^ p.pen.nb + p.pen.acc) * 2 ^ k + N) l
            ∙ horner F p.pen.acc N (2 ^ p.pen.nb) (2 ^ L));
        long = refl;
        rest = refl;
      }

  -- fewer than eight bits are left
  pub byte_end : {whole : ℕ} {p1 : Sheet} → p1.out.ghost_name ≡ p.out.ghost_name → BytesLeft p.out.now (num (pen_num p.out.now p.pen) fs) (pen_bits p.pen + L) whole p1.out.now p1.pen.at p1.pen.nb →
      p1.pen.acc ≡ whole % 2 ^ p1.pen.nb → Put p fs p1
  unfolding pen_num bit_len num Legal
  byte_end {whole} {p1} same s e =
      record {
        ready = record { space = omega (arith, s.bits, s.inside); legal = tt };
        same = same;
        bits = omega (arith, s.bits);
        number = ap (λ (y : ℕ). val (take p1.pen.at p1.out.now) * 2 ^ p1.pen.nb + y) e ∙ s.number;
        long = s.long;
        keep = s.rest;
      }
