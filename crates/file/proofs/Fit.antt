-- An index that the writer's tests let through: every value fits its field, every row lies in the label room, and the file
-- has as many bytes as the paper says.
use Rattle.refusal.specs.Tests.{fine}
use Prim.Native.Nat.{ℕ, ◌+◌, ◌*◌, ◌≤◌, ◌<◌}
use mathlib.Core.Path.{◌≡◌, ◌∙◌}
use mathlib.Core.Bool.{true}
use mathlib.Core.List.{List}
use native.Mathlib.Omega.{arith}
use borrow.Author.Tests.{le-leb, leb-true}
use lib.ListN.{length, get_or}
use lib.Dec.{leb}
use Rattle.basics.specs.Places.{sum}
use Rattle.basics.proofs.Laws.{both_true, both}
use Rattle.refusal.specs.Numbers.{SIZE, LENGTH}
use Rattle.refusal.specs.Sizes.{sizes_fit}
use Rattle.refusal.specs.Inner.{Sizes}
use Rattle.refusal.proofs.Laws.{test_fine, test_held, then_fine, after_fine}
use Rattle.theory.specs.Links.{Order}
use Rattle.links.proofs.Order.{order_sound}
use Rattle.refusal.proofs.SizeLaws.{sizes_fit_lem, sizes_held}
use Rattle.rows.specs.Inner.{RowLies, Rooms}
use Rattle.rows.specs.Rooms.{row_at, sound_row, check_rows}
use Rattle.rows.proofs.Laws.{Sound, row_sound, sound_row_lem, sound_higher}
use Rattle.rows.proofs.RoomLaws.{row_lies, rows_alone, all_sound, sound_all, length_row}
use Rattle.fields.specs.Bits.{bit_len, byte_len}
use Rattle.fields.specs.Inner.{Legal}
use Rattle.fields.specs.Layout.{header_fields, order_fields, row_fields, rows_fields, file_fields, file_of, file_size}
use Rattle.file.specs.Index.{lengths_fit}
use Rattle.file.specs.Writer.{index_sizes, write_tests}
use Rattle.file.specs.Inner.{Fit}
use Rattle.fields.proofs.Packed.{legal_append, packed_length}
use Rattle.fields.proofs.LayoutLaws.{fields_legal, rows_bits, file_takes}
use Rattle.file.proofs.IndexLaws.{lengths_fit_lem, fit_lengths}

-- what 1 and 2 let through
pub sizes_in : (n w k : ℕ) → index_sizes n w k ≡ true → Sizes n w × (k ≤ n)
unfolding index_sizes
sizes_in n w k e =
    let a : (sizes_fit n w ≡ true) × (leb k n ≡ true) = both_true _ _ e in
    (sizes_held n w a.0, leb-true k n a.1)

pub rooms_in : (n w k : ℕ) (O labels counts : List ℕ) → index_sizes n w k ≡ true
    → lengths_fit n w (length O) (length labels) (length counts) ≡ true → Rooms n w labels counts
rooms_in n w k O labels counts a b =
    let (s, stop) = sizes_in n w k a in
    let (o, places, each) = fit_lengths n w (length O) (length labels) (length counts) b in
    record { sizes = s; places = places; each = each }

module _ (n w k : ℕ) (O labels counts : List ℕ) where
  -- what the tests let through
  pub fit : write_tests n w k O labels counts ≡ fine → Fit n w k O labels counts
  unfolding write_tests
  fit e =
      let (size, rest) = then_fine _ _ e in
      let (lengths, rest2) = then_fine _ _ rest in
      let (once, sound) = then_fine _ _ rest2 in
      let s : index_sizes n w k ≡ true = test_held _ SIZE 0 size in
      let l : lengths_fit n w (length O) (length labels) (length counts) ≡ true = test_held _ LENGTH 0 lengths in
      record {
        rooms = rooms_in n w k O labels counts s l;
        stop = (sizes_in n w k s).1;
        long = (fit_lengths n w (length O) (length labels) (length counts) l).0;
        once = once;
        sound = sound;
      }

  module _ (f : Fit n w k O labels counts) where
    -- the tests let every such index through
    pub fit_fine : write_tests n w k O labels counts ≡ fine
    unfolding write_tests index_sizes
    fit_fine =
        let r = f.rooms in
        after_fine _ (test_fine SIZE 0 (both _ _ (sizes_fit_lem n w r.sizes) (le-leb k n f.stop)))
        ∙ after_fine _ (test_fine LENGTH 0 (lengths_fit_lem n w (length O) (length labels) (length counts) f.long r.places r.each))
        ∙ after_fine _ f.once ∙ f.sound

    pub fit_order : Order n O
    fit_order = order_sound n O f.once f.long

    sound_at : (v : ℕ) → v < n → sound_row n w k labels counts v ≡ true
    sound_at = all_sound n w k labels counts f.sound

    pub fit_count : (v : ℕ) → v < n → get_or counts v 0 ≤ w
    fit_count v h = (row_sound n w k labels counts v (sound_at v h)).0

    pub fit_row : (v : ℕ) → v < n → Sound n k (row_at w labels counts v) (get_or counts v 0)
    fit_row v h = (row_sound n w k labels counts v (sound_at v h)).1

    pub fit_length : (v : ℕ) → v < n → length (row_at w labels counts v) ≡ get_or counts v 0
    fit_length v h = length_row f.rooms v h (fit_count v h)

    -- rows that are sound for the stop are so for n, as the spread question asks
    pub fit_rows : check_rows n w n labels counts ≡ fine
    fit_rows =
        rows_alone n w n labels counts f.rooms
        ∙ sound_all n w n labels counts (λ v h. sound_row_lem n w n labels counts v (fit_count v h) (sound_higher f.stop (fit_row v h)))

    -- every row lies in the label room
    pub fit_lies : (v : ℕ) → v < n → RowLies w labels counts v
    fit_lies v h = row_lies f.rooms v h (fit_count v h)

    -- every value fits its field
    row_legal : (v : ℕ) → v < n → Legal (row_fields w labels counts v)
    unfolding Legal row_fields
    row_legal v h =
        let most : n ≤ 4096 = f.rooms.sizes.frames in
        let c : get_or counts v 0 ≤ w = fit_count v h in
        let wide : w ≤ 256 = f.rooms.sizes.width in
        let s : Sound n k (row_at w labels counts v) (get_or counts v 0) = fit_row v h in
        let l : length (row_at w labels counts v) ≡ get_or counts v 0 = fit_length v h in
        let stop : k ≤ n = f.stop in
        (omega arith, fields_legal _ 0 (length (row_at w labels counts v)) (λ i b. (omega (arith, s.rank i (omega arith)), (omega (arith, s.joins i (omega arith)), tt))))

    pub fit_legal : Legal (file_fields n w k O labels counts)
    unfolding file_fields Legal header_fields
    fit_legal =
        let most : n ≤ 4096 = f.rooms.sizes.frames in
        let some : 1 ≤ n = f.rooms.sizes.some_frames in
        let stop : k ≤ n = f.stop in
        let long : length O ≡ n = f.long in (
          omega arith,
          (
            omega arith,
            (
              omega arith,
              (
                omega arith,
                legal_append (order_fields O) (rows_fields w labels counts 0 n)
                    (fields_legal _ 0 (length O) (λ r h. (omega (arith, fit_order.inside r (omega arith)), tt)))
                    (fields_legal _ 0 n (λ u h. row_legal u (omega arith))),
              ),
            ),
          ),
        )

    -- header 32 bits, 12 for each rank, 9 for each count, 24 for each entry
    pub file_bits : bit_len (file_fields n w k O labels counts) ≡ 32 + 21 * n + 24 * sum counts
    file_bits =
        let each : length counts ≡ n = f.rooms.each in
        let long : length O ≡ n = f.long in
        let r = rows_bits w labels counts 0 n (omega arith) (λ u h. fit_length u (omega arith)) in
        omega (arith, file_takes n w k O labels counts)

    pub file_bytes : length (file_of n w k O labels counts) ≡ file_size n (sum counts)
    unfolding file_of byte_len
    file_bytes = packed_length (file_fields n w k O labels counts) ∙ omega (arith, file_bits)
