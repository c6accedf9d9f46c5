-- Bits of a byte string, most significant first, as one big number: no lists of bits.
use Rattle.std.specs.Prelude.{ℕ, zero, suc, ◌+◌, ◌-◌, ◌*◌, ◌/◌, ◌%◌, ◌^◌, ◌<◌, List, [], ◌∷◌, length, get_or}

-- the number that a byte string is
unfoldable pub val : List ℕ → ℕ
val [] = 0
val (b ∷ bs) = b * 2 ^ (8 * length bs) + val bs

-- a string of bytes: every element is below 256
abbrev pub Bytes : List ℕ → Type 0
Bytes s = (i : ℕ) → get_or s i 0 < 256

-- its first p bits
unfoldable pub up_to : List ℕ → ℕ → ℕ
up_to s p = val s / 2 ^ (8 * length s - p)

-- the field of w bits from bit p on
unfoldable pub field_at : List ℕ → ℕ → ℕ → ℕ
field_at s p w = up_to s (p + w) % 2 ^ w

-- a field: its value and its width in bits
pub record Field : Type 0 where
  pub value : ℕ
  pub width : ℕ

abbrev pub field : ℕ → ℕ → Field
field value width = record { value = value; width = width }

-- the bits that fields take
unfoldable pub bit_len : List Field → ℕ
bit_len [] = 0
bit_len (f ∷ fs) = f.width + bit_len fs

-- fields put behind the number a, one after the other
unfoldable pub num : ℕ → List Field → ℕ
num a [] = a
num a (f ∷ fs) = num (a * 2 ^ f.width + f.value) fs

-- the lowest m bytes of x, most significant first
unfoldable pub bytes_of : ℕ → ℕ → List ℕ
bytes_of zero x = []
bytes_of (suc m) x = x / 2 ^ (8 * m) % 256 ∷ bytes_of m x

-- the bytes that p bits take, and the zero bits that fill the last of them
unfoldable pub byte_len : ℕ → ℕ
byte_len p = (p + 7) / 8

unfoldable pub pad_len : ℕ → ℕ
pad_len p = 8 * byte_len p - p

-- fields packed into bytes
unfoldable pub packed : List Field → List ℕ
packed fs = bytes_of (byte_len (bit_len fs)) (num 0 fs * 2 ^ pad_len (bit_len fs))
