-- One entry: its two fields are one number of 24 bits, so three bytes are stored, and the bits that wait are its last ones.
use Prim.Native.Nat.{ℕ, ◌+◌, ◌-◌, ◌*◌, ◌/◌, ◌%◌, ◌^◌, ◌<◌}
use mathlib.Core.Path.{◌≡◌, refl, sym, ap, ◌∙◌}
use mathlib.Core.List.{List}
use native.Mathlib.Omega.{arith}
use native.Mathlib.Nat.{lt_of_lt_of_le}
use lib.ListN.{get_or, set}
use lib.Bits.{bit_and}
use lib.Pow.{pow_mono, low, mod-mod-pow, shr-shr}
use Rattle.std.specs.Int.{w32, to_be_bytes}
use Rattle.std.proofs.lemmas.Nat.{one_shl, and_mask}
use Rattle.entry.specs.Entry.{rank_of, joins_of}
use Rattle.fields.specs.declared.put.Sheet.{Sheet}
use Rattle.fields.specs.Inner.{Legal, pen_bits, pen_num, Ready}
use Rattle.fields.specs.Bits.{num}
use Rattle.fields.specs.Layout.{entry_fields}
use Rattle.fields.proofs.LayoutLaws.{pair_bits}
use Rattle.fields.proofs.Byte.{BytesLeft, byte_step, byte_none, byte_end}
use Rattle.fields.proofs.put.Sheet.put_entry.Goals as goal

-- rank and joins as one number, and behind the bits held
abbrev both_of : ℕ → ℕ → ℕ
both_of rank joins = rank * 2 ^ 12 % 2 ^ 64 + joins

abbrev whole_of : ℕ → ℕ → ℕ → ℕ
whole_of acc rank joins = acc * 2 ^ 24 % 2 ^ 64 + both_of rank joins

module _ (e : ℕ) {p : Sheet} {rank joins : ℕ} (r : Ready p (entry_fields e)) (its-rank : rank ≡ rank_of e) (its-joins : joins ≡ joins_of e) where
  both-lt : both_of rank joins < 2 ^ 24
  unfolding Legal
  both-lt = omega (arith, r.legal.0, r.legal.1.0)

  whole_is : whole_of p.pen.acc rank joins ≡ p.pen.acc * 2 ^ 24 + both_of rank joins
  whole_is =
      let held : p.pen.acc < 128 = lt_of_lt_of_le p.below (pow_mono {i = p.pen.nb} {j = 7} (omega (arith, p.small))) in
      omega arith

  both_is : both_of rank joins ≡ num 0 (entry_fields e)
  unfolding num Legal
  both_is = omega (arith, r.legal.0)

  three : {bytes : List ℕ} → bytes ≡ to_be_bytes w32 (whole_of p.pen.acc rank joins / 2 ^ p.pen.nb) →
      BytesLeft p.out.now (num (pen_num p.out.now p.pen) (entry_fields e)) (pen_bits p.pen + 24) (whole_of p.pen.acc rank joins)
      (set (set (set p.out.now p.pen.at (get_or bytes 1 0)) (p.pen.at + 1) (get_or bytes 2 0)) (p.pen.at + 2) (get_or bytes 3 0)) (p.pen.at + 3) p.pen.nb
  three e-bytes =
      let whole : ℕ = whole_of p.pen.acc rank joins in
      let none = byte_none r 24 (pair_bits e) (whole_is ∙ ap (λ (y : ℕ). p.pen.acc * 2 ^ 24 + y) both_is) in
      let one = byte_step none (p.pen.nb + 16) (omega arith) _ refl in
      let two = byte_step one (p.pen.nb + 8) (omega arith) (p.pen.at + 2) (omega arith) in
      rw (e-bytes, shr-shr whole p.pen.nb 16, shr-shr whole p.pen.nb 8) (byte_step two p.pen.nb (omega arith) (p.pen.at + 3) (omega arith))

  -- the last bits are those of the entry alone
  last : bit_and (both_of rank joins) (1 * 2 ^ p.pen.nb % 2 ^ 64 - 1) ≡ whole_of p.pen.acc rank joins % 2 ^ p.pen.nb
  last =
      let y : ℕ = p.pen.acc * 2 ^ 24 + both_of rank joins in
      let wide : 24 - p.pen.nb + p.pen.nb ≡ 24 = omega (arith, p.small) in
      let cut : y % 2 ^ p.pen.nb ≡ both_of rank joins % 2 ^ p.pen.nb =
      sym (mod-mod-pow y (24 - p.pen.nb) p.pen.nb) ∙ ap (λ (j : ℕ). y % 2 ^ j % 2 ^ p.pen.nb) wide ∙ ap (λ (x : ℕ). x % 2 ^ p.pen.nb) (low p.pen.acc 24 both-lt) in
      rw (one_shl p.pen.nb 64 (omega (arith, p.small)), and_mask) (sym (ap (λ (x : ℕ). x % 2 ^ p.pen.nb) whole_is ∙ cut))

pub returns : goal.returns
returns c =
    byte_end c.requires 24 (pair_bits _) refl (three _ c.requires c.rank_of-rank.ensures c.joins_of-joins.ensures c.to_be_bytes.ensures)
    (last _ c.requires c.rank_of-rank.ensures c.joins_of-joins.ensures)
