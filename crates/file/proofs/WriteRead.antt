-- A file that was written is read back: every test of the reader is fine, and the rooms then hold the same index, at any
-- width from the largest count up and whatever they held before.
use Rattle.refusal.specs.Tests.{Verdict, fine}
use Rattle.std.specs.Prelude.{Ok}
use Prim.Native.Nat.{ℕ, zero, suc, ◌+◌, ◌*◌, ◌≤◌, ◌<◌}
use mathlib.Core.Path.{◌≡◌, refl, sym, ap, ap₂, subst, ◌∙◌}
use mathlib.Core.Bool.{false}
use mathlib.Core.List.{List}
use native.Mathlib.Omega.{arith}
use native.Mathlib.Numerals.{add-one}
use native.Mathlib.Nat.{le_of_eq}
use lib.ListN.{length, get_or, take, drop}
use lib.Seq.{ext_get_or}
use Rattle.basics.specs.Places.{stands}
use Rattle.basics.proofs.Laws.{stands_not, is_table, length_table}
use Rattle.refusal.specs.Numbers.{ROOM}
use Rattle.refusal.proofs.Laws.{test_fine, after_fine, tests_fine}
use borrow.Author.Tests.{le-leb}
use Rattle.entry.specs.Entry.{rank_of, entry_of}
use Rattle.rows.specs.Rooms.{row_at}
use Rattle.entry.proofs.Laws.{entry_of_parts}
use Rattle.rows.proofs.Laws.{Sound, length_part}
use Rattle.refusal.proofs.SizeLaws.{width_fits_lem}
use Rattle.fields.specs.Bits.{field_at, bit_len, byte_len}
use Rattle.fields.specs.Layout.{file_fields, file_of}
use Rattle.file.specs.Index.{stored, SameIndex}
use Rattle.file.specs.Reader.{short_test, header_test, frame_at, order_field_test, entry_test, low_at, row_fields_test, body_test, read_test, row_bit, count_at, entry_at, label_at, order_read, labels_read, counts_read, ReadOutcome, read_outcome, filled_in, read_of, Opened, indexed}
use Rattle.file.specs.Writer.{write_outcome, write_of}
use Rattle.file.proofs.Fields.{order_legal, entry_legal, row_left, end_fine, body_end}
use Rattle.file.proofs.Fit.{fit_order, fit_count, fit_row, fit_length}
use Rattle.file.proofs.ReadBack.{Holds, file_holds, version_found, frames_found, stop_found, spare_found, frame_found, count_found, entry_found, row_end, last_end, order_fits}
use Rattle.file.proofs.Heading.{header_fine as fine-header}
use Rattle.file.proofs.Steps.{short_fine}
use Rattle.file.proofs.Stores.{entry_read}
use Rattle.file.proofs.IndexLaws.{lengths_fit_lem}
use Rattle.file.proofs.Reader.{body_left}
use Rattle.file.proofs.Writing.{Done, write_done, done_file}

more_bytes : (a b : ℕ) → a ≤ b → byte_len a ≤ byte_len b
unfolding byte_len
more_bytes a b h = omega arith

module _ {s : List ℕ} {n w k : ℕ} {O labels counts : List ℕ} (h : Holds s n w k O labels counts) where
  -- ---- the tests of the file's fields

  -- a field inside the layout is there
  there : (p m : ℕ) → p + m ≤ bit_len (file_fields n w k O labels counts) → short_test s p m ≡ fine
  there p m b = short_fine s p m (subst (λ (l : ℕ). byte_len (p + m) ≤ l) (sym h.long) (more_bytes (p + m) _ b))

  pub header_fine : header_test s ≡ fine
  unfolding byte_len
  header_fine =
      fine-header s (omega (arith, h.long, order_fits h)) (version_found h)
      (omega (arith, stop_found h, frames_found h, h.fits.stop)) (spare_found h)

  -- no frame stands twice
  new : (r : ℕ) → r < n → stands (frame_at s) r (frame_at s r) ≡ false
  new r b =
      stands_not (frame_at s) r (frame_at s r)
      (λ j l e. (fit_order n w k O labels counts h.fits).once j r l b (sym (frame_found h j (omega arith)) ∙ e ∙ frame_found h r b))

  order_fine : (r : ℕ) → r < n → order_field_test s n r ≡ fine
  order_fine r b =
      let inside : frame_at s r < n = subst (λ (v : ℕ). v < n) (sym (frame_found h r b)) ((fit_order n w k O labels counts h.fits).inside r b) in
      order_legal s n r (there (32 + 12 * r) 12 (omega (arith, order_fits h))) inside (new r b)

  -- the ranks of row v rise
  low_fine : (v : ℕ) → v < n → (i : ℕ) → i < get_or counts v 0
      → low_at s (row_bit s n v + 9) i ≤ field_at s (row_bit s n v + 9 + 24 * i) 12
  unfolding low_at
  low_fine v b zero c = omega arith
  low_fine v b (suc i) c =
      let next : i + 1 ≡ suc i = add-one i in
      omega (
        arith,
        (entry_found h v b i (omega arith)).0,
        (entry_found h v b (suc i) c).0,
        ap (λ (j : ℕ). rank_of (get_or (row_at w labels counts v) j 0)) next,
        (fit_row n w k O labels counts h.fits v b).rising i (omega arith),
      )

  -- entry i of row v
  entry_fine : (v : ℕ) → v < n → (i : ℕ) → i < get_or counts v 0
      → entry_test s n k (row_bit s n v + 9 + 24 * i) (low_at s (row_bit s n v + 9) i) ≡ fine
  entry_fine v b i c =
      let p : ℕ = row_bit s n v + 9 + 24 * i in
      let sound : Sound n k (row_at w labels counts v) (get_or counts v 0) = fit_row n w k O labels counts h.fits v b in
      let (rank, joins) = entry_found h v b i c in
      let end : row_bit s n v + 9 + 24 * get_or counts v 0 ≤ bit_len (file_fields n w k O labels counts) = row_end h v b in
      let rank-fine : field_at s p 12 < k = subst (λ (y : ℕ). y < k) (sym rank) (sound.rank i c) in
      let joins-fine : field_at s (p + 12) 12 < n = subst (λ (y : ℕ). y < n) (sym joins) (sound.joins i c) in
      entry_legal s n k p _ (there p 12 (omega arith)) (low_fine v b i c) rank-fine (there (p + 12) 12 (omega arith)) joins-fine

  -- ---- and of the rows, for a width that takes every count
  module _ (x : ℕ) (wide : (v : ℕ) → v < n → get_or counts v 0 ≤ x) where
    row_fine : (v : ℕ) → v < n → row_fields_test s n x k v (row_bit s n v) ≡ fine
    unfolding count_at
    row_fine v b =
        let c : get_or counts v 0 ≤ w = fit_count n w k O labels counts h.fits v b in
        let most : w ≤ 256 = h.fits.rooms.sizes.width in
        let e : get_or counts v 0 ≡ field_at s (row_bit s n v) 9 = sym (count_found h v b) in
        row_left s n x k v (row_bit s n v) (there (row_bit s n v) 9 (omega (arith, row_end h v b))) e (omega arith)
        ∙ after_fine _ (test_fine ROOM v (le-leb _ _ (wide v b)))
        ∙ tests_fine _ (get_or counts v 0) (entry_fine v b)

    body_fine : body_test s n x k ≡ fine
    body_fine =
        body_end s n x k (bit_len (file_fields n w k O labels counts)) (tests_fine _ n order_fine) (tests_fine _ n row_fine) (sym (last_end h))
        ∙ end_fine s (bit_len (file_fields n w k O labels counts)) h.fill (le_of_eq h.long)

    pub read_fine : 1 ≤ x → x ≤ 256 → read_test s x n (n * x) n ≡ fine
    read_fine a b =
        body_left s x n (n * x) n (width_fits_lem x a b) header_fine (sym (frames_found h)) (sym (stop_found h))
        (lengths_fit_lem n x n (n * x) n refl refl refl)
        ∙ body_fine

    -- ---- what the rooms then hold

    pub order_same : order_read s n ≡ O
    unfolding order_read
    order_same = sym (is_table 0 O n (frame_at s) h.fits.long (λ r b. sym (frame_found h r b)))

    pub counts_same : counts_read s n ≡ counts
    unfolding counts_read
    counts_same = sym (is_table 0 counts n (count_at s n) h.fits.rooms.each (λ v b. sym (count_found h v b)))

    -- entry i of row v
    entry_same : (v : ℕ) → v < n → (i : ℕ) → i < get_or counts v 0
        → get_or (row_at x (labels_read s n x) counts v) i 0 ≡ get_or (row_at w labels counts v) i 0
    unfolding row_at entry_at rank_of
    entry_same v b i c =
        let e : ℕ = get_or (row_at w labels counts v) i 0 in
        let sound : Sound n k (row_at w labels counts v) (get_or counts v 0) = fit_row n w k O labels counts h.fits v b in
        let small : rank_of e < k = sound.rank i c in
        let stop : k ≤ n = h.fits.stop in
        let most : n ≤ 4096 = h.fits.rooms.sizes.frames in
        let (rank, joins) = entry_found h v b i c in
        entry_read s n x v (get_or counts v 0) i b (wide v b) c (sym (count_found h v b))
        ∙ ap₂ entry_of rank joins ∙ entry_of_parts e (omega arith)

    pub entries_same : (v : ℕ) → v < n → row_at w labels counts v ≡ row_at x (labels_read s n x) counts v
    unfolding row_at labels_read
    entries_same v b =
        let long = length_part x _ v _ b (wide v b) (length_table (n * x) (label_at s n x)) in
        let old : length (row_at w labels counts v) ≡ get_or counts v 0 = fit_length n w k O labels counts h.fits v b in
        ext_get_or 0 _ _ (old ∙ sym long) (λ i c. sym (entry_same v b i (omega arith)))

    pub read_back : 1 ≤ x → x ≤ 256 → (order₁ labels₁ counts₁ : List ℕ) → length order₁ ≡ n → length labels₁ ≡ n * x → length counts₁ ≡ n →
        read_of s x order₁ labels₁ counts₁ ≡ read_outcome (indexed n k) O (labels_read s n x) counts
    unfolding read_of filled_in
    read_back a b order₁ labels₁ counts₁ p q r =
        let fine : read_test s x (length order₁) (length labels₁) (length counts₁) ≡ fine =
        rw (p, q, r) (read_fine a b) in
        ap (λ (t : Verdict). filled_in t s x order₁ labels₁ counts₁) fine
        ∙ ap₂ (λ (m j : ℕ). read_outcome (indexed m j) (order_read s m) (labels_read s m x) (counts_read s m)) (frames_found h) (stop_found h)
        ∙ ap₂ (λ (o c : List ℕ). read_outcome (indexed n k) o (labels_read s n x) c) order_same counts_same

    pub same : SameIndex (stored n w k O labels counts) (stored n x k O (labels_read s n x) counts)
    same = record { frames = refl; stop = refl; order = refl; counts = refl; entries = entries_same }

-- ---- the round trip: what the writer filled, handed to the reader

-- the reader's outcome over the stretch that the writer filled, whatever the rooms held before
module _ (n w k : ℕ) (O labels counts out : List ℕ) (start bytes : ℕ) (room : List ℕ)
    (written : write_outcome (Ok bytes) room ≡ write_of n w k O labels counts out start) where
  -- with any width from the largest count up
  pub write_read : (x : ℕ) → 1 ≤ x → x ≤ 256 → ((v : ℕ) → v < n → get_or counts v 0 ≤ x) →
      (order₁ labels₁ counts₁ : List ℕ) → length order₁ ≡ n → length labels₁ ≡ n * x → length counts₁ ≡ n →
      (order₂ labels₂ counts₂ : List ℕ) (answer : Opened) →
      read_outcome answer order₂ labels₂ counts₂ ≡ read_of (take bytes (drop start room)) x order₁ labels₁ counts₁ →
      (answer ≡ indexed n k) × SameIndex (stored n w k O labels counts) (stored n x k order₂ labels₂ counts₂)
  write_read x low high wide order₁ labels₁ counts₁ p q r order₂ labels₂ counts₂ answer e =
      let d : Done n w k O labels counts out start bytes room = write_done n w k O labels counts out start bytes room written in
      let s : List ℕ = file_of n w k O labels counts in
      let h : Holds s n w k O labels counts = file_holds n w k O labels counts d.fits in
      let all : read_outcome answer order₂ labels₂ counts₂ ≡ read_outcome (indexed n k) O (labels_read s n x) counts =
      e ∙ ap (λ (l : List ℕ). read_of l x order₁ labels₁ counts₁) (done_file n w k O labels counts out start bytes room d)
      ∙ read_back h x wide low high order₁ labels₁ counts₁ p q r in (
        ap (λ (t : ReadOutcome). t.answer) all,
        subst (λ (t : ReadOutcome). SameIndex (stored n w k O labels counts) (stored n x k t.order t.labels t.counts)) (sym all) (same h x wide),
      )

  -- with the width it was written with
  pub write_read_here : (order₁ labels₁ counts₁ : List ℕ) → length order₁ ≡ n → length labels₁ ≡ n * w → length counts₁ ≡ n →
      (order₂ labels₂ counts₂ : List ℕ) (answer : Opened) →
      read_outcome answer order₂ labels₂ counts₂ ≡ read_of (take bytes (drop start room)) w order₁ labels₁ counts₁ →
      (answer ≡ indexed n k) × SameIndex (stored n w k O labels counts) (stored n w k order₂ labels₂ counts₂)
  write_read_here =
      let d : Done n w k O labels counts out start bytes room = write_done n w k O labels counts out start bytes room written in
      write_read w d.fits.rooms.sizes.some_width d.fits.rooms.sizes.width (fit_count n w k O labels counts d.fits)
