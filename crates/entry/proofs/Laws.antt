-- The laws of an entry, and of lists of entries.
use Prim.Native.Nat.{ℕ, suc, ◌<◌}
use mathlib.Core.Path.{◌≡◌, refl, sym, ap, ◌∙◌}
use mathlib.Core.List.{List, [], ◌∷◌, ◌++◌, map-append}
use native.Mathlib.Omega.{arith}
use lib.ListN.{length, get_or, length-map, get_or-map}
use Rattle.theory.specs.Rows.{Row, In}
use Rattle.theory.proofs.Rule.{rank_at, joins_at, in_place}
use Rattle.entry.specs.Entry.{rank_of, joins_of, entry_of, decode, encode}

-- ---- the entry

pub rank_entry : (rank joins : ℕ) → rank < 65536 → rank_of (entry_of rank joins) ≡ rank
unfolding rank_of entry_of
rank_entry rank joins h = omega arith

pub joins_entry : (rank joins : ℕ) → joins < 65536 → joins_of (entry_of rank joins) ≡ joins
unfolding joins_of entry_of
joins_entry rank joins h = omega arith

pub entry_of_parts : (e : ℕ) → e < 4294967296 → entry_of (rank_of e) (joins_of e) ≡ e
unfolding rank_of joins_of entry_of
entry_of_parts e h = omega arith

pub rank_small : (e : ℕ) → e < 4294967296 → rank_of e < 65536
unfolding rank_of
rank_small e h = omega arith

pub joins_small : (e : ℕ) → joins_of e < 65536
unfolding joins_of
joins_small e = omega arith

-- ---- lists of entries

-- a row comes back whose ranks and joins each fit their half of an entry
pub decode_encode : (row : Row) → ((i : ℕ) → i < length row → (rank_at row i < 65536) × (joins_at row i < 65536))
    → decode (encode row) ≡ row
unfolding decode encode
decode_encode [] fits = refl
decode_encode (p ∷ ps) fits =
    let (a, b) = fits 0 (omega arith) in
    λ i. (rank_entry p.0 p.1 a i, joins_entry p.0 p.1 b i) ∷ decode_encode ps (λ j h. fits (suc j) (omega arith)) i

pub encode_append : (x y : Row) → encode (x ++ y) ≡ encode x ++ encode y
unfolding encode
encode_append = map-append _

pub decode_append : (a b : List ℕ) → decode (a ++ b) ≡ decode a ++ decode b
unfolding decode
decode_append = map-append _

pub length_encode : (row : Row) → length (encode row) ≡ length row
unfolding encode
length_encode row = length-map row _

pub length_decode : (a : List ℕ) → length (decode a) ≡ length a
unfolding decode
length_decode a = length-map a _

pub get_d_decode : (a : List ℕ) (i : ℕ) → i < length a → get_or (decode a) i (0, 0) ≡ (rank_of (get_or a i 0), joins_of (get_or a i 0))
unfolding decode rank_of joins_of
get_d_decode a i h = get_or-map _ a i 0

-- the entries of a row whose ranks and joins are known
pub decoded : (row : List ℕ) {x : Row} → decode row ≡ x → (i : ℕ) → i < length row
    → (rank_of (get_or row i 0) ≡ rank_at x i) × (joins_of (get_or row i 0) ≡ joins_at x i)
decoded row same i h =
    let entry = sym (get_d_decode row i h) ∙ ap (λ (x : Row). get_or x i (0, 0)) same in
    (ap (λ (z : ℕ × ℕ). z.0) entry, ap (λ (z : ℕ × ℕ). z.1) entry)

-- what a decoded row holds stands in the row
pub in_decoded : (row : List ℕ) (r m : ℕ) → In r m (decode row)
    → (i : ℕ) × (i < length row) × (rank_of (get_or row i 0) ≡ r) × (joins_of (get_or row i 0) ≡ m)
in_decoded row r m mem =
    let (i, l, q, j) = in_place (decode row) mem in
    let inside : i < length row = omega (arith, length_decode row) in
    let (rank, joins) = decoded row refl i inside in
    (i, inside, rank ∙ q, joins ∙ j)
