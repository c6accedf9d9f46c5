-- A field gathered byte by byte: what has been gathered are the last bits of the first bytes; the field is cut out of it.
use Prim.Native.Nat.{ℕ, ◌+◌, ◌-◌, ◌*◌, ◌/◌, ◌%◌, ◌^◌, ◌≤◌, ◌<◌}
use mathlib.Core.Path.{◌≡◌, refl, sym, ap, ap₂, ◌∙◌}
use mathlib.Core.List.{List}
use native.Mathlib.Omega.{arith}
use native.Mathlib.Nat.{mod-one}
use lib.ListN.{length, get_or}
use Rattle.fields.specs.Bits.{up_to, field_at, byte_len, Bytes}
use Rattle.fields.proofs.Bits.{gather_step, gathered}

-- what the bytes from bit p's byte up to byte `at` give
pub record Gathered (s : List ℕ) (p end at sum : ℕ) : Type 0 where
  pub low : p / 8 ≤ at
  pub high : at ≤ end
  pub is : sum ≡ up_to s (8 * at) % 2 ^ (8 * (at - p / 8))

pub gather_more : {s : List ℕ} {p end at sum : ℕ} → Bytes s → end ≤ length s → at < end → Gathered s p end at sum
    → Gathered s p end (at + 1) (sum * 256 + get_or s at 0)
gather_more {s} {p} {end} {at} {sum} b l h g =
    let m : ℕ = 8 * (at - p / 8) in
    let f : m + 8 ≡ 8 * (at + 1 - p / 8) = omega (arith, g.low) in
    record {
      low = omega (arith, g.low);
      high = omega arith;
      is =
          gather_step s at (at + 1) m sum b refl (omega arith) g.is ∙ ap (λ (j : ℕ). up_to s (8 * (at + 1)) % 2 ^ j) f;
    }

pub gather_done : (s : List ℕ) (p w : ℕ) {at sum : ℕ} → byte_len (p + w) ≤ length s → Gathered s p ((p + w + 7) / 8) at sum → (p + w + 7) / 8 ≤ at
    → sum / 2 ^ (8 * ((p + w + 7) / 8) - (p + w)) % 2 ^ w ≡ field_at s p w
unfolding byte_len
gather_done s p w {at} {sum} there g h =
    let end : ℕ = (p + w + 7) / 8 in
    let e : at ≡ end = omega (arith, g.high) in
    let m : ℕ = 8 * (end - p / 8) in
    let f : sum ≡ up_to s (8 * end) % 2 ^ m = g.is ∙ ap (λ (k : ℕ). up_to s (8 * k) % 2 ^ (8 * (k - p / 8))) e in
    ap (λ (x : ℕ). x / 2 ^ (8 * end - (p + w)) % 2 ^ w) f
    ∙ gathered s end m p w there (omega arith) (omega arith)

-- a field out of four bytes
pub four_bytes : (s : List ℕ) (a past w : ℕ) → Bytes s → past + w ≤ 32 → a + 4 ≤ length s
    → (get_or s a 0 * 16777216 + get_or s (a + 1) 0 * 65536 + get_or s (a + 2) 0 * 256 + get_or s (a + 3) 0)
    / 2 ^ (32 - past - w) % 2 ^ w ≡ field_at s (8 * a + past) w
four_bytes s a past w b l h =
    let x : ℕ = get_or s a 0 * 16777216 + get_or s (a + 1) 0 * 65536 + get_or s (a + 2) 0 * 256 + get_or s (a + 3) 0 in
    let one : 0 * 256 + get_or s a 0 ≡ up_to s (8 * (a + 1)) % 2 ^ 8 =
    gather_step s a (a + 1) 0 0 b (omega arith) (omega arith) (sym (mod-one (up_to s (8 * a)))) in
    let two : (0 * 256 + get_or s a 0) * 256 + get_or s (a + 1) 0 ≡ up_to s (8 * (a + 2)) % 2 ^ 16 =
    gather_step s (a + 1) (a + 2) 8 _ b (omega arith) (omega arith) one in
    let three : ((0 * 256 + get_or s a 0) * 256 + get_or s (a + 1) 0) * 256 + get_or s (a + 2) 0 ≡ up_to s (8 * (a + 3)) % 2 ^ 24 =
    gather_step s (a + 2) (a + 3) 16 _ b (omega arith) (omega arith) two in
    let four : (((0 * 256 + get_or s a 0) * 256 + get_or s (a + 1) 0) * 256 + get_or s (a + 2) 0) * 256 + get_or s (a + 3) 0
    ≡ up_to s (8 * (a + 4)) % 2 ^ 32 = gather_step s (a + 3) (a + 4) 24 _ b (omega arith) (omega arith) three in
    let all : x ≡ up_to s (8 * (a + 4)) % 2 ^ 32 = omega arith in
    let rest : 32 - past - w ≡ 8 * (a + 4) - (8 * a + past + w) = omega arith in
    ap₂ (λ (y t : ℕ). y / 2 ^ t % 2 ^ w) all rest ∙ gathered s (a + 4) 32 (8 * a + past) w h (omega arith) (omega arith)
