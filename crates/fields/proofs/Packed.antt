-- Packed fields read back as themselves, and a byte string that reads as these fields, with zero fill, is the fields
-- packed: the bridge between the writer's bytes and the reader's fields.
use Prim.Native.Nat.{ℕ, ◌+◌, ◌-◌, ◌*◌, ◌/◌, ◌%◌, ◌^◌, ◌≤◌, ◌<◌}
use mathlib.Core.Path.{◌≡◌, sym, ap, ap₂, subst, ◌∙◌}
use mathlib.Core.List.{List, [], ◌∷◌, ◌++◌}
use native.Mathlib.Omega.{arith}
use native.Mathlib.Nat.{add_assoc, add-zero, zero-add, mod-eq_of_lt}
use lib.ListN.{length}
use lib.Pow.{pow_pos, shl_lt, shl-shr, high, low}
use Rattle.fields.specs.Bits.{val, up_to, field_at, Field, bit_len, num, bytes_of, byte_len, pad_len, packed, Bytes}
use Rattle.fields.specs.Inner.{Legal, Reads}
use Rattle.fields.proofs.Bits.{up_to_field, up_to_cut, up_to_zero, up_to_all, num_split, num_lt, bytes_of_length, bytes_of_val, val_bytes}

-- ---- lengths

pub pad_len_lem : (p : ℕ) → p + pad_len p ≡ 8 * byte_len p
unfolding byte_len pad_len
pad_len_lem p = omega arith

pub packed_length : (fs : List Field) → length (packed fs) ≡ byte_len (bit_len fs)
unfolding packed
packed_length fs = bytes_of_length (byte_len (bit_len fs)) (num 0 fs * 2 ^ pad_len (bit_len fs))

-- ---- one way: from the number to the fields

-- each field is read where the number has it, whatever stands before
pub num_reads : (s : List ℕ) (p a : ℕ) (fs : List Field) → Legal fs → p + bit_len fs ≤ 8 * length s →
    up_to s (p + bit_len fs) ≡ num a fs → Reads s p fs
unfolding Legal Reads bit_len num field_at
num_reads s p a [] h l e = tt
num_reads s p a (f ∷ fs) h l e =
    let w : ℕ = f.width in
    let b : ℕ = a * 2 ^ w + f.value in
    let g : up_to s (p + w + bit_len fs) ≡ num b fs = ap (up_to s) (add_assoc p w (bit_len fs)) ∙ e in
    let front : up_to s (p + w) ≡ b =
    up_to_cut s (p + w) (bit_len fs) (omega arith) ∙ ap (λ (x : ℕ). x / 2 ^ bit_len fs) (g ∙ num_split b fs) ∙ high b (bit_len fs) (num_lt fs h.1) in
    (ap (λ (x : ℕ). x % 2 ^ w) front ∙ low a w h.0, num_reads s (p + w) b fs h.1 (omega arith) g)

-- the number that the packed bytes are
pub packed_val : (fs : List Field) → Legal fs → val (packed fs) ≡ num 0 fs * 2 ^ pad_len (bit_len fs)
unfolding packed
packed_val fs h =
    let p : ℕ = bit_len fs in
    let m : ℕ = byte_len p in
    let x : ℕ = num 0 fs * 2 ^ pad_len p in
    let small : x < 2 ^ (8 * m) = subst (λ (k : ℕ). x < 2 ^ k) (pad_len_lem p) (shl_lt p (pad_len p) (num_lt fs h)) in
    bytes_of_val m x ∙ mod-eq_of_lt small

pub packed_up_to : (fs : List Field) → Legal fs → up_to (packed fs) (bit_len fs) ≡ num 0 fs
unfolding up_to
packed_up_to fs h =
    let p : ℕ = bit_len fs in
    let e : 8 * length (packed fs) - p ≡ pad_len p = omega (arith, packed_length fs, pad_len_lem p) in
    ap₂ (λ (x k : ℕ). x / 2 ^ k) (packed_val fs h) e ∙ shl-shr (num 0 fs) (pad_len p)

-- packed fields read back
pub reads_packed : (fs : List Field) → Legal fs → Reads (packed fs) 0 fs
reads_packed fs h =
    num_reads (packed fs) 0 0 fs h (omega (arith, packed_length fs, pad_len_lem (bit_len fs))) (ap (up_to (packed fs)) (zero-add (bit_len fs)) ∙ packed_up_to fs h)

-- the fill bits are 0
pub packed_fill : (fs : List Field) → Legal fs → field_at (packed fs) (bit_len fs) (pad_len (bit_len fs)) ≡ 0
unfolding field_at
packed_fill fs h =
    let p : ℕ = bit_len fs in
    let d : ℕ = pad_len p in
    let e : up_to (packed fs) (p + d) ≡ num 0 fs * 2 ^ d =
    ap (up_to (packed fs)) (omega (arith, packed_length fs, pad_len_lem p)) ∙ up_to_all (packed fs) ∙ packed_val fs h in
    ap (λ (x : ℕ). x % 2 ^ d) (e ∙ sym (add-zero (num 0 fs * 2 ^ d))) ∙ low (num 0 fs) d (pow_pos d)

-- ---- the other way: from the fields to the bytes

-- what reads as these fields has their number
pub reads_num : (s : List ℕ) (p : ℕ) (fs : List Field) → p + bit_len fs ≤ 8 * length s → Reads s p fs →
    up_to s (p + bit_len fs) ≡ num (up_to s p) fs
unfolding Reads bit_len num
reads_num s p [] l r = ap (up_to s) (add-zero p)
reads_num s p (f ∷ fs) l r =
    let w : ℕ = f.width in
    let e : up_to s (p + w) ≡ up_to s p * 2 ^ w + f.value =
    up_to_field s p w (omega arith) ∙ ap (λ (x : ℕ). up_to s p * 2 ^ w + x) r.0 in
    ap (up_to s) (sym (add_assoc p w (bit_len fs))) ∙ reads_num s (p + w) fs (omega arith) r.1 ∙ ap (λ (x : ℕ). num x fs) e

-- a byte string that reads as these fields, zero bits filling its last byte, is these fields packed
pub packed_reads : (s : List ℕ) (fs : List Field) → Bytes s → Reads s 0 fs → length s ≡ byte_len (bit_len fs) →
    field_at s (bit_len fs) (pad_len (bit_len fs)) ≡ 0 → packed fs ≡ s
unfolding packed
packed_reads s fs b r l z =
    let p : ℕ = bit_len fs in
    let d : ℕ = pad_len p in
    let all : p + d ≡ 8 * length s = omega (arith, pad_len_lem p) in
    let front : up_to s p ≡ num 0 fs =
    ap (up_to s) (sym (zero-add p)) ∙ reads_num s 0 fs (omega arith) r ∙ ap (λ (x : ℕ). num x fs) (up_to_zero s b) in
    let whole : val s ≡ num 0 fs * 2 ^ d =
    sym (up_to_all s) ∙ ap (up_to s) (sym all) ∙ up_to_field s p d (omega arith)
    ∙ ap₂ (λ (x y : ℕ). x * 2 ^ d + y) front z ∙ add-zero (num 0 fs * 2 ^ d) in
    ap₂ bytes_of (sym l) (sym whole) ∙ val_bytes s b

-- ---- lists of fields, one after the other

pub reads_append : (s : List ℕ) (p : ℕ) (fs gs : List Field) → Reads s p fs → Reads s (p + bit_len fs) gs → Reads s p (fs ++ gs)
unfolding Reads bit_len
reads_append s p [] gs a b = subst (λ (k : ℕ). Reads s k gs) (add-zero p) b
reads_append s p (f ∷ fs) gs a b =
    (a.0, reads_append s (p + f.width) fs gs a.1 (subst (λ (k : ℕ). Reads s k gs) (sym (add_assoc p f.width (bit_len fs))) b))

pub reads_front : (s : List ℕ) (p : ℕ) (fs gs : List Field) → Reads s p (fs ++ gs) → Reads s p fs
unfolding Reads
reads_front s p [] gs r = tt
reads_front s p (f ∷ fs) gs r = (r.0, reads_front s (p + f.width) fs gs r.1)

pub reads_back : (s : List ℕ) (p : ℕ) (fs gs : List Field) → Reads s p (fs ++ gs) → Reads s (p + bit_len fs) gs
unfolding Reads bit_len
reads_back s p [] gs r = subst (λ (k : ℕ). Reads s k gs) (sym (add-zero p)) r
reads_back s p (f ∷ fs) gs r =
    subst (λ (k : ℕ). Reads s k gs) (add_assoc p f.width (bit_len fs)) (reads_back s (p + f.width) fs gs r.1)

pub legal_append : (fs gs : List Field) → Legal fs → Legal gs → Legal (fs ++ gs)
unfolding Legal
legal_append [] gs a b = b
legal_append (f ∷ fs) gs a b = (a.0, legal_append fs gs a.1 b)
