-- The fields of a file, found again where the reader looks for them: header, order, counts and entries.
use Prim.Native.Nat.{ℕ, suc, ◌+◌, ◌-◌, ◌*◌, ◌≤◌, ◌<◌}
use mathlib.Core.Path.{◌≡◌, refl, sym, ap, subst}
use mathlib.Core.List.{List, ◌++◌}
use native.Mathlib.Omega.{arith}
use native.Mathlib.Nat.{zero-add}
use lib.ListN.{length, get_or}
use Rattle.entry.specs.Entry.{rank_of, joins_of}
use Rattle.rows.specs.Rooms.{row_at}
use Rattle.fields.specs.Bits.{Field, field_at, bit_len, byte_len, pad_len}
use Rattle.fields.specs.Inner.{Reads}
use Rattle.fields.specs.Layout.{header_fields, frame_fields, order_fields, entry_fields, entries_fields, row_fields, rows_fields, file_fields, file_of}
use Rattle.file.specs.Reader.{frames_of, stop_of, frame_at, bit_behind, row_bit, count_at}
use Rattle.file.specs.Inner.{Fit}
use Rattle.fields.proofs.Packed.{reads_front, reads_back, reads_packed, packed_length, packed_fill}
use Rattle.fields.proofs.LayoutLaws.{fields_take, fields_found, order_bits, file_ends}
use Rattle.file.proofs.IndexLaws.{row_behind}
use Rattle.file.proofs.Fit.{fit_legal, fit_length}

-- a byte string that holds the file of an index
pub record Holds (s : List ℕ) (n w k : ℕ) (O labels counts : List ℕ) : Type 0 where
  pub fits : Fit n w k O labels counts
  pub reads : Reads s 0 (file_fields n w k O labels counts)
  pub long : length s ≡ byte_len (bit_len (file_fields n w k O labels counts))
  pub fill : field_at s (bit_len (file_fields n w k O labels counts)) (pad_len (bit_len (file_fields n w k O labels counts))) ≡ 0

pub file_holds : (n w k : ℕ) (O labels counts : List ℕ) → Fit n w k O labels counts → Holds (file_of n w k O labels counts) n w k O labels counts
unfolding file_of
file_holds n w k O labels counts f =
    let fs : List Field = file_fields n w k O labels counts in
    record {
      fits = f;
      reads = reads_packed fs (fit_legal n w k O labels counts f);
      long = packed_length fs;
      fill = packed_fill fs (fit_legal n w k O labels counts f);
    }

module _ {s : List ℕ} {n w k : ℕ} {O labels counts : List ℕ} (h : Holds s n w k O labels counts) where
  -- ---- the header

  header_part : Reads s 0 (header_fields n k)
  unfolding file_fields
  header_part = reads_front s 0 (header_fields n k) (order_fields O ++ rows_fields w labels counts 0 n) h.reads

  pub version_found : field_at s 0 4 ≡ 1
  unfolding Reads header_fields
  version_found = header_part.0

  pub frames_found : frames_of s ≡ n
  unfolding Reads header_fields frames_of
  frames_found =
      let e : field_at s 4 12 ≡ n - 1 = header_part.1.0 in
      let some : 1 ≤ n = h.fits.rooms.sizes.some_frames in
      omega arith

  pub stop_found : stop_of s ≡ k
  unfolding Reads header_fields stop_of
  stop_found = header_part.1.1.0

  pub spare_found : field_at s 29 3 ≡ 0
  unfolding Reads header_fields
  spare_found = header_part.1.1.1.0

  -- ---- the order

  body_part : Reads s 32 (order_fields O ++ rows_fields w labels counts 0 n)
  unfolding file_fields header_fields bit_len
  body_part = reads_back s 0 (header_fields n k) (order_fields O ++ rows_fields w labels counts 0 n) h.reads

  pub frame_found : (r : ℕ) → r < n → frame_at s r ≡ get_or O r 0
  unfolding Reads bit_len frame_at
  frame_found r b =
      let long : length O ≡ n = h.fits.long in
      (fields_found (λ j. frame_fields (get_or O j 0)) (λ j. 32 + 12 * j) (length O) s (λ u _ _. omega arith) 0 (length O) (zero-add _)
      (reads_front s 32 (order_fields O) (rows_fields w labels counts 0 n) body_part) r (omega arith) (omega arith)).0

  -- ---- the rows

  -- row v, behind those before it
  row_found : (v : ℕ) → v < n → Reads s (row_bit s n v) (row_fields w labels counts v)
  unfolding Reads row_fields row_bit
  row_found v b =
      let long : length O ≡ n = h.fits.long in
      let first : 32 + bit_len (order_fields O) ≡ 32 + 12 * n = omega (arith, order_bits O) in
      let rows = reads_back s 32 (order_fields O) (rows_fields w labels counts 0 n) body_part in
      fields_found (row_fields w labels counts) (row_bit s n) n s
      (λ u l r. row_behind s (row_bit s n u) w labels counts u (fit_length n w k O labels counts h.fits u l) r.0) 0 n (zero-add n)
      (subst (λ (p : ℕ). Reads s p (rows_fields w labels counts 0 n)) first rows) v (omega arith) b

  pub count_found : (v : ℕ) → v < n → count_at s n v ≡ get_or counts v 0
  unfolding Reads row_fields count_at
  count_found v b = (row_found v b).0

  pub entry_found : (v : ℕ) → v < n → (i : ℕ) → i < get_or counts v 0 →
      (field_at s (row_bit s n v + 9 + 24 * i) 12 ≡ rank_of (get_or (row_at w labels counts v) i 0))
      × (field_at s (row_bit s n v + 9 + 24 * i + 12) 12 ≡ joins_of (get_or (row_at w labels counts v) i 0))
  unfolding Reads bit_len row_fields
  entry_found v b i c =
      let long : length (row_at w labels counts v) ≡ get_or counts v 0 = fit_length n w k O labels counts h.fits v b in
      let row : List ℕ = row_at w labels counts v in
      let p : ℕ = row_bit s n v + 9 in
      let first : p ≡ p + 24 * 0 = omega arith in
      let (rank, joins) =
      fields_found (λ j. entry_fields (get_or row j 0)) (λ j. p + 24 * j) (length row) s (λ u _ _. omega arith) 0 (length row) (zero-add _)
      (subst (λ (q : ℕ). Reads s q (entries_fields row)) first (row_found v b).1) i (omega arith) (omega arith) in
      (rank, joins.0)

  -- ---- where they stand: the bits of the rows run on to the end of the layout

  pub next_bit : (v : ℕ) → v < n → row_bit s n (suc v) ≡ row_bit s n v + 9 + 24 * get_or counts v 0
  unfolding row_bit bit_behind count_at
  next_bit v b = ap (λ (c : ℕ). row_bit s n v + 9 + 24 * c) (count_found v b)

  row_takes : (v : ℕ) → v < n → row_bit s n v + bit_len (row_fields w labels counts v) ≡ row_bit s n (suc v)
  unfolding row_bit count_at
  row_takes v b = row_behind s (row_bit s n v) w labels counts v (fit_length n w k O labels counts h.fits v b) (count_found v b)

  -- the last row ends where the layout ends
  pub last_end : row_bit s n n ≡ bit_len (file_fields n w k O labels counts)
  unfolding row_bit
  last_end = sym (file_ends n w k O labels counts (row_bit s n) h.fits.long refl row_takes)

  -- row v and the order end inside the layout
  pub row_end : (v : ℕ) → v < n → row_bit s n v + 9 + 24 * get_or counts v 0 ≤ bit_len (file_fields n w k O labels counts)
  row_end v b =
      omega (arith, next_bit v b, last_end, fields_take (row_fields w labels counts) (row_bit s n) n row_takes (suc v) (n - suc v) (omega arith))

  pub order_fits : 32 + 12 * n ≤ bit_len (file_fields n w k O labels counts)
  unfolding row_bit
  order_fits = omega (arith, last_end, fields_take (row_fields w labels counts) (row_bit s n) n row_takes 0 n (omega arith))
