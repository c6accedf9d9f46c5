-- What taking a field out of bytes asks, and what the field writer does to the output room: one relation for every writing
-- function.
use Rattle.std.specs.Prelude.{ℕ, ◌+◌, ◌*◌, ◌^◌, ◌≤◌, ◌<◌, ◌≡◌, List, [], ◌∷◌, length, take, drop}
use Rattle.fields.specs.Bits.{Field, val, field_at, bit_len, num, byte_len, pad_len}
use Rattle.fields.specs.declared.put.Pen.{Pen}
use Rattle.fields.specs.declared.put.Sheet.{Sheet}

-- ---- fields

-- every value fits its width
unfoldable pub Legal : List Field → Type 0
Legal [] = Unit {0}
Legal (f ∷ fs) = (f.value < 2 ^ f.width) × Legal fs

-- from bit p on the byte string holds these fields
unfoldable pub Reads : List ℕ → ℕ → List Field → Type 0
Reads s p [] = Unit {0}
Reads s p (f ∷ fs) = (field_at s p f.width ≡ f.value) × Reads s (p + f.width) fs

-- ---- a field taken out

-- a field of a file: at most 16 bits, and far from the bits that a number cannot count
pub record Near (p width : ℕ) : Type 0 where
  pub narrow : width ≤ 16
  pub near : p ≤ 2 ^ 32

-- ---- fields put

-- the bits written so far, as a count and as a number
abbrev pub pen_bits : Pen → ℕ
pen_bits p = 8 * p.at + p.nb

unfoldable pub pen_num : List ℕ → Pen → ℕ
pen_num o p = val (take p.at o) * 2 ^ p.nb + p.acc

-- the room has place for these fields
pub record Ready (p : Sheet) (fs : List Field) : Type 0 where
  pub space : pen_bits p.pen + bit_len fs ≤ 8 * length p.out.now
  pub legal : Legal fs

-- from p₀ on, where `all` was to be put, the writer has come to p, in the same room, and has `rest` left: what is written,
-- followed by `rest`, is the whole; from the first byte that is not finished on, the room is as it was
pub record Left (p₀ : Sheet) (all : List Field) (p : Sheet) (rest : List Field) : Type 0 where
  pub ready : Ready p rest
  pub same : p.out.ghost_name ≡ p₀.out.ghost_name
  pub bits : pen_bits p.pen + bit_len rest ≡ pen_bits p₀.pen + bit_len all
  pub number : num (pen_num p.out.now p.pen) rest ≡ num (pen_num p₀.out.now p₀.pen) all
  pub long : length p.out.now ≡ length p₀.out.now
  pub keep : drop p.pen.at p.out.now ≡ drop p.pen.at p₀.out.now

-- these fields were put: nothing of them is left
abbrev pub Put : Sheet → List Field → Sheet → Type 0
Put p fs p1 = Left p fs p1 []

-- the last byte is filled up with zero bits
pub record Closed (p p1 : Sheet) : Type 0 where
  pub same : p1.out.ghost_name ≡ p.out.ghost_name
  pub long : length p1.out.now ≡ length p.out.now
  pub whole : val (take (byte_len (pen_bits p.pen)) p1.out.now) ≡ pen_num p.out.now p.pen * 2 ^ pad_len (pen_bits p.pen)
