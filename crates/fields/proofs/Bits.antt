-- The laws of bits as one big number: bytes and fields read off a byte string, fields put together, bytes made of a number.
use Prim.Native.Nat.{ℕ, zero, suc, ◌+◌, ◌-◌, ◌*◌, ◌/◌, ◌%◌, ◌^◌, ◌≤◌, ◌<◌}
use mathlib.Core.Path.{◌≡◌, refl, sym, ap, ap₂, subst, ◌∙◌}
use mathlib.Core.List.{List, [], ◌∷◌, ◌++◌}
use native.Mathlib.Omega.{arith}
use native.Mathlib.Nat.{mod-one, div-eq_of_lt, zero-add, mul-zero, add_assoc, add-mul, mul_assoc, mul_comm, mod-lt, mod-eq_of_lt, sub-zero, sub_self, div-one, le_refl}
use lib.ListN.{length, get_or, take, drop, length-append, take-append-drop}
use lib.Seq.{length-take-le, take-suc, get_or-drop}
use lib.Pow.{pow_pos, pow-add, split, high, low, field, shr-shr, mod-mod-pow, mod-pow-add}
use lib.Arith.{digits_lt}
use Rattle.fields.specs.Bits.{val, up_to, field_at, Field, bit_len, num, bytes_of, Bytes}
use Rattle.fields.specs.Inner.{Legal}

-- ---- the number that a byte string is

pub val_append : (xs ys : List ℕ) → val (xs ++ ys) ≡ val xs * 2 ^ (8 * length ys) + val ys
unfolding val
val_append [] ys = sym (ap (λ k. k + val ys) (mul_comm 0 (2 ^ (8 * length ys)) ∙ mul-zero (2 ^ (8 * length ys))) ∙ zero-add (val ys))
val_append (x ∷ xs) ys =
    let P : ℕ = 2 ^ (8 * length xs) in
    let Q : ℕ = 2 ^ (8 * length ys) in
    let e : 2 ^ (8 * length (xs ++ ys)) ≡ P * Q =
    ap (λ (k : ℕ). 2 ^ (8 * k)) (length-append xs ys) ∙ ap (λ (k : ℕ). 2 ^ k) (omega arith) ∙ pow-add 2 (8 * length xs) (8 * length ys) in
    ap₂ (λ (a b : ℕ). x * a + b) e (val_append xs ys) ∙ omega (arith, mul_assoc x P Q)

-- one byte behind the others
pub val_snoc : (xs : List ℕ) (b : ℕ) → val (xs ++ (b ∷ [])) ≡ val xs * 256 + b
unfolding val
val_snoc xs b = val_append xs (b ∷ []) ∙ omega arith

-- a digit behind two others
pub horner : (a b c P Q : ℕ) → (a * P + b) * Q + c ≡ a * (P * Q) + (b * Q + c)
horner a b c P Q = omega (arith, mul_assoc a P Q, add-mul (a * P) b Q)

pub bytes_tail : (b : ℕ) (bs : List ℕ) → Bytes (b ∷ bs) → Bytes bs
bytes_tail b bs h i = h (suc i)

pub bytes_drop : (k : ℕ) (s : List ℕ) → Bytes s → Bytes (drop k s)
bytes_drop k s h i = subst (λ (x : ℕ). x < 256) (sym (get_or-drop k s i 0)) (h (k + i))

pub val_lt : (s : List ℕ) → Bytes s → val s < 2 ^ (8 * length s)
unfolding val
val_lt [] h = omega arith
val_lt (b ∷ bs) h =
    subst (λ (x : ℕ). b * 2 ^ (8 * length bs) + val bs < x)
    (sym (ap (λ (k : ℕ). 2 ^ k) (omega arith) ∙ pow-add 2 8 (8 * length bs)))
    (digits_lt (h 0) (val_lt bs (bytes_tail b bs h)))

-- ---- bytes and fields read off it

-- the first p bits, cut out of the first q
pub up_to_cut : (s : List ℕ) (p w : ℕ) → p + w ≤ 8 * length s → up_to s p ≡ up_to s (p + w) / 2 ^ w
unfolding up_to
up_to_cut s p w h = sym (shr-shr (val s) (8 * length s - (p + w)) w ∙ ap (λ (k : ℕ). val s / 2 ^ k) (omega arith))

-- w bits more are w bits behind the others
pub up_to_field : (s : List ℕ) (p w : ℕ) → p + w ≤ 8 * length s → up_to s (p + w) ≡ up_to s p * 2 ^ w + field_at s p w
unfolding field_at
up_to_field s p w h = sym (ap (λ (x : ℕ). x * 2 ^ w + up_to s (p + w) % 2 ^ w) (up_to_cut s p w h) ∙ split (up_to s (p + w)) w)

-- nothing stands before the first bit
pub up_to_zero : (s : List ℕ) → Bytes s → up_to s 0 ≡ 0
unfolding up_to
up_to_zero s h = ap (λ (k : ℕ). val s / 2 ^ k) (sub-zero (8 * length s)) ∙ div-eq_of_lt (val_lt s h)

-- all bits are the number itself
pub up_to_all : (s : List ℕ) → up_to s (8 * length s) ≡ val s
unfolding up_to
up_to_all s = ap (λ (k : ℕ). val s / 2 ^ k) (sub_self (8 * length s)) ∙ div-one (val s)

-- the first bits of a string do not hang on what follows
pub up_to_append : (xs ys : List ℕ) → Bytes ys → up_to (xs ++ ys) (8 * length xs) ≡ val xs
unfolding up_to
up_to_append xs ys h =
    ap₂ (λ (a k : ℕ). a / 2 ^ k) (val_append xs ys) (ap (λ (k : ℕ). 8 * k - 8 * length xs) (length-append xs ys) ∙ omega arith)
    ∙ high (val xs) (8 * length ys) (val_lt ys h)

-- the first i bytes, as a number
pub up_to_take : (s : List ℕ) (i : ℕ) → Bytes s → i ≤ length s → up_to s (8 * i) ≡ val (take i s)
up_to_take s i b h =
    let e : up_to s (8 * i) ≡ up_to (take i s ++ drop i s) (8 * length (take i s)) =
    ap₂ (λ (t : List ℕ) (k : ℕ). up_to t (8 * k)) (sym (take-append-drop i s)) (sym (length-take-le i s h)) in
    e ∙ up_to_append (take i s) (drop i s) (bytes_drop i s b)

-- one byte more
pub up_to_byte : (s : List ℕ) (i : ℕ) → Bytes s → i < length s → up_to s (8 * i + 8) ≡ up_to s (8 * i) * 256 + get_or s i 0
up_to_byte s i b h =
    let e : up_to s (8 * i + 8) ≡ up_to s (8 * suc i) = ap (up_to s) (omega arith) in
    e ∙ up_to_take s (suc i) b h ∙ ap val (take-suc s i 0 h) ∙ val_snoc (take i s) (get_or s i 0)
    ∙ ap (λ (x : ℕ). x * 256 + get_or s i 0) (sym (up_to_take s i b (omega arith)))

-- a field of w bits that ends t bits before the end of the last k
pub window : (x k t w : ℕ) → t + w ≤ k → x % 2 ^ k / 2 ^ t % 2 ^ w ≡ x / 2 ^ t % 2 ^ w
window x k t w h =
    let a : x % 2 ^ k ≡ x % 2 ^ (k - t + t) = ap (λ (j : ℕ). x % 2 ^ j) (omega arith) in
    let b : x / 2 ^ t % 2 ^ (k - t) ≡ x / 2 ^ t % 2 ^ (k - t - w + w) = ap (λ (j : ℕ). x / 2 ^ t % 2 ^ j) (omega arith) in
    ap (λ (y : ℕ). y / 2 ^ t % 2 ^ w) a ∙ ap (λ (y : ℕ). y % 2 ^ w) (field x (k - t) t ∙ b) ∙ mod-mod-pow (x / 2 ^ t) (k - t - w) w

-- the last m bits of the first i bytes, and one byte more behind them
pub gather_step : (s : List ℕ) (i j m x : ℕ) → Bytes s → j ≡ i + 1 → i < length s → x ≡ up_to s (8 * i) % 2 ^ m →
    x * 256 + get_or s i 0 ≡ up_to s (8 * j) % 2 ^ (m + 8)
gather_step s i j m x b n h e =
    let y : ℕ = up_to s (8 * i) in
    let next : up_to s (8 * j) ≡ y * 2 ^ 8 + get_or s i 0 = ap (up_to s) (omega arith) ∙ up_to_byte s i b h in
    ap (λ (z : ℕ). z * 256 + get_or s i 0) e
    ∙ sym (ap (λ (z : ℕ). z % 2 ^ (m + 8)) next ∙ mod-pow-add (y * 2 ^ 8 + get_or s i 0) m 8
    ∙ ap₂ (λ (z t : ℕ). z % 2 ^ m * 2 ^ 8 + t) (high y 8 (b i)) (low y 8 (b i)))

-- the field of w bits from p on stands in the last m bits of the first i bytes
pub gathered : (s : List ℕ) (i m p w : ℕ) → i ≤ length s → p + w ≤ 8 * i → 8 * i ≤ p + m →
    up_to s (8 * i) % 2 ^ m / 2 ^ (8 * i - (p + w)) % 2 ^ w ≡ field_at s p w
unfolding field_at
gathered s i m p w h k l =
    let t : ℕ = 8 * i - (p + w) in
    let e : up_to s (p + w) ≡ up_to s (p + w + t) / 2 ^ t = up_to_cut s (p + w) t (omega arith) in
    let f : up_to s (p + w + t) ≡ up_to s (8 * i) = ap (up_to s) (omega arith) in
    window (up_to s (8 * i)) m t w (omega arith) ∙ ap (λ (y : ℕ). y % 2 ^ w) (sym (e ∙ ap (λ (y : ℕ). y / 2 ^ t) f))

pub field_lt : (s : List ℕ) (p w : ℕ) → field_at s p w < 2 ^ w
unfolding field_at
field_lt s p w = mod-lt (up_to s (p + w)) (pow_pos w)

-- two fields of 12 bits, read as one
pair_rank : (s : List ℕ) (p : ℕ) → p + 24 ≤ 8 * length s → field_at s p 24 / 4096 ≡ field_at s p 12
unfolding field_at
pair_rank s p h =
    field (up_to s (p + 24)) 12 12
    ∙ ap (λ (x : ℕ). x % 2 ^ 12) (sym (up_to_cut s (p + 12) 12 (omega arith) ∙ ap (λ (k : ℕ). up_to s k / 2 ^ 12) (omega arith)))

pair_joins : (s : List ℕ) (p : ℕ) → field_at s p 24 % 4096 ≡ field_at s (p + 12) 12
unfolding field_at
pair_joins s p = mod-mod-pow (up_to s (p + 24)) 12 12 ∙ ap (λ (k : ℕ). up_to s k % 2 ^ 12) (omega arith)

pub pair_parts : (s : List ℕ) (p : ℕ) {both : ℕ} → p + 24 ≤ 8 * length s → both ≡ field_at s p 24
    → (both / 4096 ≡ field_at s p 12) × (both % 4096 ≡ field_at s (p + 12) 12)
pair_parts s p h e = (ap (λ (x : ℕ). x / 4096) e ∙ pair_rank s p h, ap (λ (x : ℕ). x % 4096) e ∙ pair_joins s p)

-- ---- fields put together

pub num_append : (a : ℕ) (fs gs : List Field) → num a (fs ++ gs) ≡ num (num a fs) gs
unfolding num
num_append a [] gs = refl
num_append a (f ∷ fs) gs = num_append (a * 2 ^ f.width + f.value) fs gs

pub bit_len_append : (fs gs : List Field) → bit_len (fs ++ gs) ≡ bit_len fs + bit_len gs
unfolding bit_len
bit_len_append [] gs = sym (zero-add (bit_len gs))
bit_len_append (f ∷ fs) gs = ap (λ (k : ℕ). f.width + k) (bit_len_append fs gs) ∙ sym (add_assoc f.width (bit_len fs) (bit_len gs))

-- the number before the fields stands before their bits
pub num_split : (a : ℕ) (fs : List Field) → num a fs ≡ a * 2 ^ bit_len fs + num 0 fs
unfolding num bit_len
num_split a [] = omega arith
num_split a (f ∷ fs) =
    let P : ℕ = 2 ^ f.width in
    let Q : ℕ = 2 ^ bit_len fs in
    let e : 2 ^ (f.width + bit_len fs) ≡ P * Q = pow-add 2 f.width (bit_len fs) in
    num_split (a * P + f.value) fs
    ∙ sym (ap₂ (λ (x y : ℕ). a * x + y) e (num_split (0 * P + f.value) fs) ∙ omega (arith, mul_assoc a P Q))

pub num_lt : (fs : List Field) → Legal fs → num 0 fs < 2 ^ bit_len fs
unfolding num bit_len Legal
num_lt [] h = omega arith
num_lt (f ∷ fs) h =
    let P : ℕ = 2 ^ f.width in
    let Q : ℕ = 2 ^ bit_len fs in
    let e : num (0 * P + f.value) fs ≡ f.value * Q + num 0 fs =
    num_split (0 * P + f.value) fs ∙ omega arith in
    subst (λ (x : ℕ). x < 2 ^ (f.width + bit_len fs)) (sym e)
    (subst (λ (x : ℕ). f.value * Q + num 0 fs < x) (sym (pow-add 2 f.width (bit_len fs))) (digits_lt h.0 (num_lt fs h.1)))

-- ---- bytes made of a number

pub bytes_of_length : (m x : ℕ) → length (bytes_of m x) ≡ m
unfolding bytes_of
bytes_of_length zero x = refl
bytes_of_length (suc m) x = ap suc (bytes_of_length m x)

pub bytes_of_val : (m x : ℕ) → val (bytes_of m x) ≡ x % 2 ^ (8 * m)
unfolding bytes_of val
bytes_of_val zero x = sym (mod-one x)
bytes_of_val (suc m) x =
    let e : x % 2 ^ (8 * suc m) ≡ x % 2 ^ (8 + 8 * m) = ap (λ (k : ℕ). x % 2 ^ k) (omega arith) in
    ap₂ (λ (k y : ℕ). x / 2 ^ (8 * m) % 256 * 2 ^ (8 * k) + y) (bytes_of_length m x) (bytes_of_val m x)
    ∙ sym (e ∙ mod-pow-add x 8 (8 * m))

-- the bytes hang on the lowest bits alone
pub bytes_of_mod : (m k x y : ℕ) → m ≤ k → x % 2 ^ (8 * k) ≡ y % 2 ^ (8 * k) → bytes_of m x ≡ bytes_of m y
unfolding bytes_of
bytes_of_mod zero k x y h e = refl
bytes_of_mod (suc m) k x y h e =
    let f : x / 2 ^ (8 * m) % 2 ^ 8 ≡ y / 2 ^ (8 * m) % 2 ^ 8 =
    sym (window x (8 * k) (8 * m) 8 (omega arith)) ∙ ap (λ (z : ℕ). z / 2 ^ (8 * m) % 2 ^ 8) e ∙ window y (8 * k) (8 * m) 8 (omega arith) in
    ap₂ (λ (a : ℕ) (l : List ℕ). a ∷ l) f (bytes_of_mod m k x y (omega arith) e)

-- the bytes of the number that a byte string is
pub val_bytes : (s : List ℕ) → Bytes s → bytes_of (length s) (val s) ≡ s
unfolding bytes_of val
val_bytes [] h = refl
val_bytes (b ∷ bs) h =
    let l : ℕ = length bs in
    let v : val bs < 2 ^ (8 * l) = val_lt bs (bytes_tail b bs h) in
    let e : (b * 2 ^ (8 * l) + val bs) % 2 ^ (8 * l) ≡ val bs % 2 ^ (8 * l) = low b (8 * l) v ∙ sym (mod-eq_of_lt v) in
    ap₂ (λ (x : ℕ) (t : List ℕ). x ∷ t)
    (ap (λ (x : ℕ). x % 256) (high b (8 * l) v) ∙ mod-eq_of_lt (h 0))
    (bytes_of_mod l l (b * 2 ^ (8 * l) + val bs) (val bs) (le_refl l) e ∙ val_bytes bs (bytes_tail b bs h))
