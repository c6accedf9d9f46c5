-- The field lists of the layout: how many bits they take, and when every value fits its width.
use Prim.Native.Nat.{ℕ, zero, suc, ◌+◌, ◌-◌, ◌*◌, ◌≤◌, ◌<◌}
use mathlib.Core.Path.{◌≡◌, refl, sym, ap, subst, ◌∙◌}
use mathlib.Core.List.{List, [], ◌++◌}
use native.Mathlib.Omega.{arith}
use native.Mathlib.Nat.{add-zero, zero-add}
use native.Mathlib.Numerals.{add-one}
use native.Mathlib.Decide.{ℕ_discrete}
use lib.ListN.{length, get_or, drop}
use lib.Seq.{drop-cons}
use Rattle.basics.specs.Places.{sum}
use Rattle.basics.proofs.Laws.{by_cases, less_one, sum_over}
use Rattle.rows.specs.Rooms.{row_at}
use Rattle.fields.specs.Bits.{Field, bit_len}
use Rattle.fields.specs.Inner.{Legal, Reads}
use Rattle.fields.specs.Layout.{fields_from, header_fields, frame_fields, order_fields, entry_fields, row_fields, rows_fields, file_fields}
use Rattle.fields.proofs.Bits.{bit_len_append}
use Rattle.fields.proofs.Packed.{legal_append, reads_append, reads_front, reads_back}

-- ---- the fields of one place after another

module _ (one : ℕ → List Field) where
  -- up to an end, as a loop goes
  pub fields_next : (v end : ℕ) → v < end → fields_from one v (end - v) ≡ one v ++ fields_from one (v + 1) (end - (v + 1))
  unfolding fields_from
  fields_next v end h =
      ap (fields_from one v) (less_one h) ∙ ap (λ (u : ℕ). one v ++ fields_from one u (end - (v + 1))) (sym (add-one v))

  pub fields_end : (v end : ℕ) → end ≤ v → fields_from one v (end - v) ≡ []
  unfolding fields_from
  fields_end v end h = let none : end - v ≡ 0 = omega arith in ap (fields_from one v) none

  pub fields_legal : (v left : ℕ) → ((u : ℕ) → u < v + left → Legal (one u)) → Legal (fields_from one v left)
  unfolding Legal fields_from
  fields_legal v zero h = tt
  fields_legal v (suc left) h =
      legal_append (one v) (fields_from one (suc v) left) (h v (omega arith)) (fields_legal (suc v) left (λ u l. h u (omega arith)))

  -- place u has its fields from `bit u` on
  module _ (bit : ℕ → ℕ) (n : ℕ) where
    -- those from v on end at `bit n`
    pub fields_take : ((u : ℕ) → u < n → bit u + bit_len (one u) ≡ bit (suc u)) → (v left : ℕ) → v + left ≡ n
        → bit v + bit_len (fields_from one v left) ≡ bit n
    unfolding fields_from bit_len
    fields_take next v zero e = let all : v ≡ n = omega arith in add-zero (bit v) ∙ ap bit all
    fields_take next v (suc left) e =
        omega (
          arith,
          bit_len_append (one v) (fields_from one (suc v) left),
          next v (omega arith),
          fields_take next (suc v) left (omega arith),
        )

    -- where all are read each is, and the other way; where a place ends may hang on what is read at it
    pub fields_found : (s : List ℕ) → ((u : ℕ) → u < n → Reads s (bit u) (one u) → bit u + bit_len (one u) ≡ bit (suc u))
        → (v left : ℕ) → v + left ≡ n → Reads s (bit v) (fields_from one v left) → (u : ℕ) → v ≤ u → u < n → Reads s (bit u) (one u)
    unfolding fields_from
    fields_found s next v zero e r u a b = absurd (omega arith)
    fields_found s next v (suc left) e r u a b =
        let here : Reads s (bit v) (one v) = reads_front s (bit v) (one v) (fields_from one (suc v) left) r in
        let rest : Reads s (bit v + bit_len (one v)) (fields_from one (suc v) left) = reads_back s (bit v) (one v) _ r in
        by_cases (ℕ_discrete v u)
        (λ (q : v ≡ u). subst (λ (x : ℕ). Reads s (bit x) (one x)) q here)
        (λ q.
        fields_found s next (suc v) left (omega arith)
        (subst (λ (p : ℕ). Reads s p (fields_from one (suc v) left)) (next v (omega arith) here) rest) u (omega arith) b)

    pub fields_reads : (s : List ℕ) → ((u : ℕ) → u < n → bit u + bit_len (one u) ≡ bit (suc u))
        → ((u : ℕ) → u < n → Reads s (bit u) (one u)) → (v left : ℕ) → v + left ≡ n → Reads s (bit v) (fields_from one v left)
    unfolding Reads fields_from
    fields_reads s next each v zero e = tt
    fields_reads s next each v (suc left) e =
        reads_append s (bit v) (one v) (fields_from one (suc v) left) (each v (omega arith))
        (subst (λ (p : ℕ). Reads s p (fields_from one (suc v) left)) (sym (next v (omega arith))) (fields_reads s next each (suc v) left (omega arith)))

-- ---- bits

pub header_bits_lem : (n k : ℕ) → bit_len (header_fields n k) ≡ 32
unfolding bit_len header_fields
header_bits_lem n k = refl

pub pair_bits : (e : ℕ) → bit_len (entry_fields e) ≡ 24
unfolding bit_len
pair_bits e = refl

pub order_bits : (O : List ℕ) → bit_len (order_fields O) ≡ 12 * length O
unfolding bit_len
order_bits O =
    omega (arith, fields_take (λ r. frame_fields (get_or O r 0)) (λ r. 12 * r) (length O) (λ u h. omega arith) 0 (length O) (zero-add _))

pub row_bits : (w : ℕ) (labels counts : List ℕ) (v : ℕ) → length (row_at w labels counts v) ≡ get_or counts v 0 →
    bit_len (row_fields w labels counts v) ≡ 9 + 24 * get_or counts v 0
unfolding bit_len row_fields
row_bits w labels counts v h =
    let row : List ℕ = row_at w labels counts v in
    omega (arith, fields_take (λ i. entry_fields (get_or row i 0)) (λ i. 24 * i) (length row) (λ u l. omega arith) 0 (length row) (zero-add _))

-- the rows from v on
pub rows_bits : (w : ℕ) (labels counts : List ℕ) (v left : ℕ) → v + left ≡ length counts →
    ((u : ℕ) → u < length counts → length (row_at w labels counts u) ≡ get_or counts u 0) →
    bit_len (rows_fields w labels counts v left) ≡ 9 * left + 24 * sum (drop v counts)
unfolding bit_len fields_from sum
rows_bits w labels counts v zero e h =
    omega (arith, sum_over counts v (omega arith))
rows_bits w labels counts v (suc left) e h =
    let in-counts : v < length counts = omega arith in
    let row : bit_len (row_fields w labels counts v) ≡ 9 + 24 * get_or counts v 0 = row_bits w labels counts v (h v in-counts) in
    let rest : bit_len (rows_fields w labels counts (suc v) left) ≡ 9 * left + 24 * sum (drop (suc v) counts) =
    rows_bits w labels counts (suc v) left (omega arith) h in
    let d : sum (drop v counts) ≡ get_or counts v 0 + sum (drop (suc v) counts) = ap sum (drop-cons counts v 0 in-counts) in
    bit_len_append (row_fields w labels counts v) (rows_fields w labels counts (suc v) left) ∙ omega arith

-- the whole layout
pub file_takes : (n w k : ℕ) (O labels counts : List ℕ)
    → bit_len (file_fields n w k O labels counts) ≡ 32 + 12 * length O + bit_len (rows_fields w labels counts 0 n)
unfolding file_fields
file_takes n w k O labels counts =
    let rows : List Field = rows_fields w labels counts 0 n in
    omega (
      arith,
      bit_len_append (header_fields n k) (order_fields O ++ rows),
      header_bits_lem n k,
      bit_len_append (order_fields O) rows,
      order_bits O,
    )

-- rows that stand one behind the other, row v from `bit v` on: the layout ends at `bit n`
module _ (n w k : ℕ) (O labels counts : List ℕ) (bit : ℕ → ℕ) where
  pub file_ends : length O ≡ n → bit 0 ≡ 32 + 12 * n
      → ((u : ℕ) → u < n → bit u + bit_len (row_fields w labels counts u) ≡ bit (suc u))
      → bit_len (file_fields n w k O labels counts) ≡ bit n
  file_ends long first next = omega (arith, file_takes n w k O labels counts, fields_take (row_fields w labels counts) bit n next 0 n (zero-add n))
