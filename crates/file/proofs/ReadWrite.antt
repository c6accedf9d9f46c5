-- A file that is read without refusal is exactly the file of the index read: every test that was fine says that the
-- layout's next field is there, so the bytes are the layout's fields packed. So a byte string is refused, or it is the file
-- of one index.
use Rattle.refusal.specs.Tests.{Verdict, fine, Refusal}
use Rattle.std.specs.Prelude.{Ok, Err}
use Prim.Native.Nat.{ℕ, suc, ◌+◌, ◌-◌, ◌*◌, ◌≤◌, ◌<◌}
use mathlib.Core.Path.{◌≡◌, refl, sym, ap, subst, ◌∙◌}
use mathlib.Core.Logic.{◌⊎◌, inl, inr}
use mathlib.Core.List.{List, ◌++◌}
use native.Mathlib.Omega.{arith}
use native.Mathlib.Nat.{zero-add}
use lib.ListN.{length, get_or, take, drop}
use borrow.Author.Tests.{leb-true, eqb-true}
use Rattle.basics.proofs.Laws.{length_table}
use Rattle.refusal.specs.Numbers.{FIELD, LONG}
use Rattle.refusal.proofs.Laws.{test_held, then_fine, vcase}
use Rattle.fields.specs.Bits.{field_at, Field, bit_len, byte_len, pad_len, Bytes}
use Rattle.fields.specs.Inner.{Reads}
use Rattle.fields.specs.Layout.{header_fields, order_fields, entry_fields, entries_fields, row_fields, rows_fields, file_fields, file_of}
use Rattle.file.specs.Index.{stored, SameIndex}
use Rattle.file.specs.Reader.{frames_of, stop_of, frame_at, end_test, read_test, row_bit, count_at, order_read, labels_read, counts_read, ReadOutcome, read_outcome, index_read, filled_in, read_of, opened_told, indexed}
use Rattle.file.specs.Inner.{Fit}
use Rattle.file.specs.Writer.{write_outcome, write_of}
use Rattle.fields.proofs.Packed.{packed_reads, reads_append}
use Rattle.fields.proofs.LayoutLaws.{fields_reads, header_bits_lem, order_bits, file_ends}
use Rattle.file.proofs.IndexLaws.{row_behind}
use Rattle.file.proofs.Heading.{index_is}
use Rattle.file.proofs.Numbered.{answer_is}
use Rattle.file.proofs.Inversion.{bits_there}
use Rattle.file.proofs.Reader.{Readable, readable, count_fits}
use Rattle.file.proofs.Writing.{write_done, done_file}
use Rattle.file.proofs.ReadBack.{Holds, file_holds, frames_found, count_found}
use Rattle.file.proofs.WriteRead.{read_back, same}
use Rattle.file.proofs.ReadFit.{row_read, count_read, frame_is, count_is, row_long, rank_is, joins_is, read_fit}

-- ---- the file of the index read

-- the fields of its row v, of `left` rows from v on, and of the whole
abbrev row_fields_read : List ℕ → ℕ → ℕ → List Field
row_fields_read s w v = row_fields w (labels_read s (frames_of s) w) (counts_read s (frames_of s)) v

abbrev rows_fields_read : List ℕ → ℕ → ℕ → ℕ → List Field
rows_fields_read s w v left = rows_fields w (labels_read s (frames_of s) w) (counts_read s (frames_of s)) v left

abbrev fields_read : List ℕ → ℕ → List Field
fields_read s w = file_fields (frames_of s) w (stop_of s) (order_read s (frames_of s)) (labels_read s (frames_of s) w) (counts_read s (frames_of s))

abbrev pub file_read : List ℕ → ℕ → List ℕ
file_read s w = file_of (frames_of s) w (stop_of s) (order_read s (frames_of s)) (labels_read s (frames_of s) w) (counts_read s (frames_of s))

module _ {s : List ℕ} {w order labels counts : ℕ} (r : Readable s w order labels counts) where
  header_there : Reads s 0 (header_fields (frames_of s) (stop_of s))
  unfolding Reads header_fields frames_of stop_of
  header_there =
      let e : field_at s 4 12 ≡ field_at s 4 12 + 1 - 1 = omega arith in
      (r.head.version, (e, (refl, (r.head.spare, tt))))

  order_there : Reads s 32 (order_fields (order_read s (frames_of s)))
  unfolding Reads bit_len frame_at order_read
  order_there =
      fields_reads _ (λ j. 32 + 12 * j) _ s (λ u h. omega arith)
      (λ j h. (sym (frame_is r j (omega (arith, length_table (frames_of s) (frame_at s)))), tt)) 0 _ (zero-add _)

  row_there : (v : ℕ) → v < frames_of s
      → Reads s (row_bit s (frames_of s) v) (row_fields_read s w v)
  unfolding Reads bit_len row_fields count_at
  row_there v h =
      let p : ℕ = row_bit s (frames_of s) v + 9 in
      let first : p + 24 * 0 ≡ p = omega arith in
      let entries =
      fields_reads (λ i. entry_fields (get_or (row_read s w v) i 0)) (λ i. p + 24 * i) (length (row_read s w v)) s (λ u l. omega arith)
      (λ i c.
      let b : i < count_read s v = omega (arith, row_long r v h) in
      (sym (rank_is r v h i b), (sym (joins_is r v h i b), tt))) 0 _ (zero-add _) in
      (sym (count_is r v h), subst (λ (q : ℕ). Reads s q (entries_fields (row_read s w v))) first entries)

  -- row v takes the bits up to the next row
  row_takes : (v : ℕ) → v < frames_of s
      → row_bit s (frames_of s) v + bit_len (row_fields_read s w v)
      ≡ row_bit s (frames_of s) (suc v)
  unfolding row_bit count_at
  row_takes v h =
      row_behind s _ w (labels_read s (frames_of s) w) (counts_read s (frames_of s)) v (row_long r v h) (sym (count_is r v h))

  body_fields : List Field
  body_fields =
      order_fields (order_read s (frames_of s)) ++ rows_fields_read s w 0 (frames_of s)

  -- the whole layout stands from the first bit on, and ends where the last row ends
  file_there : Reads s 0 (fields_read s w)
  unfolding file_fields row_bit body_fields order_read
  file_there =
      let n : ℕ = frames_of s in
      let rows = rows_fields_read s w 0 n in
      let long : length (order_read s n) ≡ n = length_table n (frame_at s) in
      let next : 32 + bit_len (order_fields (order_read s n)) ≡ 32 + 12 * n = omega (arith, order_bits (order_read s n)) in
      reads_append s 0 (header_fields n (stop_of s)) body_fields header_there
      (subst (λ (p : ℕ). Reads s p body_fields) (sym (ap (λ (x : ℕ). 0 + x) (header_bits_lem n (stop_of s))))
      (reads_append s 32 (order_fields (order_read s n)) rows order_there
      (subst (λ (p : ℕ). Reads s p rows) (sym next) (fields_reads _ (row_bit s n) n s row_takes row_there 0 n (zero-add n)))))

  file_takes : bit_len (fields_read s w) ≡ row_bit s (frames_of s) (frames_of s)
  unfolding row_bit order_read
  file_takes =
      file_ends _ w _ _ _ _ (row_bit s (frames_of s)) (length_table (frames_of s) (frame_at s)) refl row_takes

  -- no byte more, and zero bits in the last one
  end_length : length s ≡ byte_len (row_bit s (frames_of s) (frames_of s))
  unfolding end_test
  end_length =
      let n : ℕ = frames_of s in
      let most : length s ≤ byte_len (row_bit s n n) = leb-true _ _ (test_held _ LONG _ (then_fine _ _ r.ended).1) in
      omega (arith, bits_there s n w (stop_of s) r.rowed r.head.long r.ordered n (omega arith))

  end_fill : field_at s (row_bit s (frames_of s) (frames_of s)) (pad_len (row_bit s (frames_of s) (frames_of s))) ≡ 0
  unfolding end_test
  end_fill = eqb-true _ _ (test_held _ FIELD _ (then_fine _ _ r.ended).0)

  -- the file of the index read is the file
  pub read_file : Bytes s
      → file_read s w ≡ s
  unfolding file_of
  read_file bytes =
      let e = file_takes in
      packed_reads s _ bytes file_there (end_length ∙ sym (ap byte_len e))
      (ap (λ (p : ℕ). field_at s p (pad_len p)) e ∙ end_fill)

-- ---- the round trip: what the reader handed over, handed to the writer

module _ (s : List ℕ) (w : ℕ) (order labels counts : List ℕ) (n k : ℕ) (order₂ labels₂ counts₂ : List ℕ)
    (given : read_outcome (indexed n k) order₂ labels₂ counts₂ ≡ read_of s w order labels counts) where
  read_fine : read_test s w (length order) (length labels) (length counts) ≡ fine
  unfolding read_of
  read_fine = (index_is _ _ _ (ap (λ (x : ReadOutcome). x.answer) given ∙ answer_is _ s w order labels counts)).0

  read_parts : read_outcome (indexed n k) order₂ labels₂ counts₂ ≡ index_read s w
  unfolding read_of filled_in
  read_parts = given ∙ ap (λ (v : Verdict). filled_in v s w order labels counts) read_fine

  -- an index that is read is one that the writer takes
  pub read_takes : Fit n w k order₂ labels₂ counts₂
  unfolding opened_told
  read_takes =
      subst (λ (x : ReadOutcome). Fit (get_or x.told.values 0 0) w (get_or x.told.values 1 0) x.order x.labels x.counts) (sym read_parts)
      (read_fit (readable s w _ _ _ read_fine))

  -- and its file is the file that was read
  pub read_then_write : Bytes s → file_of n w k order₂ labels₂ counts₂ ≡ s
  unfolding opened_told
  read_then_write bytes =
      ap (λ (x : ReadOutcome). file_of (get_or x.told.values 0 0) w (get_or x.told.values 1 0) x.order x.labels x.counts) read_parts
      ∙ read_file (readable s w _ _ _ read_fine) bytes

  -- so the writer fills the very bytes
  pub read_written : Bytes s → (out : List ℕ) (start filled : ℕ) (room : List ℕ)
      → write_outcome (Ok filled) room ≡ write_of n w k order₂ labels₂ counts₂ out start → take filled (drop start room) ≡ s
  read_written bytes out start filled room e =
      done_file n w k order₂ labels₂ counts₂ out start filled room (write_done n w k order₂ labels₂ counts₂ out start filled room e) ∙ read_then_write bytes

  -- and no other index has this file
  pub one_index : (m x j : ℕ) (order₃ labels₃ counts₃ : List ℕ) → Fit m x j order₃ labels₃ counts₃ → file_of m x j order₃ labels₃ counts₃ ≡ s
      → SameIndex (stored m x j order₃ labels₃ counts₃) (stored n w k order₂ labels₂ counts₂)
  unfolding opened_told
  one_index m x j order₃ labels₃ counts₃ f e =
      let r : Readable s w (length order) (length labels) (length counts) = readable s w _ _ _ read_fine in
      let h : Holds s m x j order₃ labels₃ counts₃ = subst (λ (t : List ℕ). Holds t m x j order₃ labels₃ counts₃) e (file_holds m x j order₃ labels₃ counts₃ f) in
      let frames : frames_of s ≡ m = frames_found h in
      let wide : (v : ℕ) → v < m → get_or counts₃ v 0 ≤ w =
      λ v b.
      subst (λ (y : ℕ). y ≤ w) (ap (λ (y : ℕ). count_at s y v) frames ∙ count_found h v b) (count_fits r v (omega arith)) in
      let all : read_outcome (indexed n k) order₂ labels₂ counts₂ ≡ read_outcome (indexed m j) order₃ (labels_read s m w) counts₃ =
      given
      ∙ read_back h w wide r.some r.wide order labels counts (r.orders ∙ frames)
      (r.labelled ∙ ap (λ (y : ℕ). y * w) frames) (r.counted ∙ frames) in
      subst
      (λ (t : ReadOutcome).
      SameIndex (stored m x j order₃ labels₃ counts₃) (stored (get_or t.told.values 0 0) w (get_or t.told.values 1 0) t.order t.labels t.counts))
      (sym all) (same h w wide)

-- a byte string is refused, or it is the file of the index read
pub refused_or_file : (s : List ℕ) → Bytes s → (w : ℕ) (order labels counts : List ℕ)
    → ((r : Refusal) × (read_of s w order labels counts ≡ read_outcome (Err r) order labels counts))
    ⊎ ((file_read s w ≡ s)
    × (read_of s w order labels counts
    ≡ index_read s w))
unfolding read_of filled_in
refused_or_file s bytes w order labels counts =
    vcase (read_test s w (length order) (length labels) (length counts))
    (λ e. inr (read_file (readable s w _ _ _ e) bytes, ap (λ (v : Verdict). filled_in v s w order labels counts) e))
    (λ r e. inl (r, ap (λ (v : Verdict). filled_in v s w order labels counts) e))
