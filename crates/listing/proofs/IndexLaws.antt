-- The laws of the way from a file's bytes to its text: what each test that is passed, or refuses, makes of it.
use Rattle.refusal.specs.Tests.{Verdict, fine, Refusal}
use Rattle.std.specs.Prelude.{Ok, Err}
use Rattle.std.specs.Result.{result_unwrap_or}
use Prim.Native.Nat.{ℕ, ◌*◌, ◌≤◌, ◌<◌}
use native.Mathlib.Omega.{arith}
use mathlib.Core.Path.{◌≡◌, refl, sym, ap, subst, ◌∙◌}
use mathlib.Core.Bool.{true}
use mathlib.Core.List.{List}
use lib.ListN.{length, take}
use lib.Seq.{length-take-le}
use borrow.Author.Tests.{le-leb, lt-leb}
use Rattle.refusal.specs.Numbers.{number_of, SIZE}
use Rattle.refusal.proofs.Laws.{test_fine, test_refused, after_fine, after_refused}
use Rattle.rows.specs.Rooms.{sound_row, check_rows}
use Rattle.rows.specs.Spread.{spread_figure, spread_of, SpreadAnswer}
use Rattle.rows.proofs.RoomLaws.{rows_sound}
use Rattle.rows.proofs.SpreadLaws.{spread_sound}
use Rattle.file.specs.Reader.{frames_of, stop_of, header_test, header_of, read_test, read_of, filled_in, read_outcome, ReadOutcome, opened_told, Opened, indexed}
use Rattle.file.proofs.Heading.{index_is, refused_is}
use Rattle.file.proofs.ReadSpread.{read_rows}
use Rattle.listing.specs.Lines.{WIDTH, MOST, refused_text}
use Rattle.listing.specs.Inner.{Cut, Shown}
use Rattle.listing.specs.Listing.{index_text, file_text, read_text, listing_test, listing_of}

-- ---- the index

-- sound rows can be listed
pub shown_by : (n : ℕ) {order labels counts : List ℕ} → check_rows n WIDTH n labels counts ≡ fine
    → Cut order labels counts → Shown order labels counts
shown_by n {order} {labels} {counts} e cut =
    let (rooms, sound) = rows_sound n WIDTH n labels counts e in
    record {
      cut = cut;
      sound =
          λ v inside.
          subst (λ (m : ℕ). sound_row m WIDTH m labels counts v ≡ true) (sym rooms.each) (sound v (omega (arith, rooms.each)));
    }

-- and the spread that was answered is theirs
pub spread_said : (n : ℕ) {spread : ℕ} (labels counts : List ℕ) {a : SpreadAnswer} → check_rows n WIDTH n labels counts ≡ fine
    → a ≡ spread_of n WIDTH labels counts → spread ≡ result_unwrap_or a 0 → spread ≡ spread_figure n WIDTH labels counts
spread_said n labels counts e f g =
    g ∙ ap (λ (x : SpreadAnswer). result_unwrap_or x 0) (f ∙ spread_sound n WIDTH labels counts e)

-- ---- the reader's answer

-- the text by the reader's answer and what it left in the rooms
unfoldable pub opened_text : Opened → List ℕ → List ℕ → List ℕ → List ℕ
opened_text (Ok x) order labels counts = index_text x.n x.k order labels counts
opened_text (Err r) order labels counts = refused_text (number_of r.reason)

filled_text : (v : Verdict) (s order labels counts : List ℕ)
    → let o : ReadOutcome = filled_in v s WIDTH order labels counts in
    opened_text o.answer o.order o.labels o.counts ≡ read_text v s
unfolding filled_in opened_text read_text file_text
filled_text (Ok _) s order labels counts = refl
filled_text (Err r) s order labels counts = refl

-- a refusal's number as text
pub refused_text_lem : {a : Opened} {r : Refusal} {number : ℕ} → number ≡ (opened_told a).number → a ≡ Err r
    → refused_text number ≡ refused_text (number_of r.reason)
unfolding opened_told
refused_text_lem e f = ap refused_text (e ∙ ap (λ (a : Opened). (opened_told a).number) f)

-- the text of an answer that was found
pub read_found : (s order labels counts : List ℕ) {order' labels' counts' : List ℕ} {a found : Opened}
    → read_outcome a order' labels' counts' ≡ read_of s WIDTH order labels counts → a ≡ found
    → opened_text found order' labels' counts'
    ≡ read_text (read_test s WIDTH (length order) (length labels) (length counts)) s
unfolding read_of
read_found s order labels counts {order'} {labels'} {counts'} e f =
    sym (ap (λ (b : Opened). opened_text b order' labels' counts') f)
    ∙ (ap (λ (o : ReadOutcome). opened_text o.answer o.order o.labels o.counts) e
    ∙ filled_text (read_test s WIDTH (length order) (length labels) (length counts)) s order labels counts)

-- the rows of an index that was found are sound
pub rows_found : (s order labels counts : List ℕ) {order' labels' counts' : List ℕ} {a : Opened} {n k : ℕ}
    → read_outcome a order' labels' counts' ≡ read_of s WIDTH order labels counts → a ≡ indexed n k
    → check_rows n WIDTH n labels' counts' ≡ fine
rows_found s order labels counts {order'} {labels'} {counts'} e f =
    read_rows s WIDTH order labels counts _ _ (sym (ap (λ (b : Opened). read_outcome b order' labels' counts') f) ∙ e)

-- ---- the header

-- the text is that of what the tests come to
text_of : (s : List ℕ) {v : Verdict} → listing_test s ≡ v → read_text v s ≡ listing_of s
unfolding listing_of
text_of s e = sym (ap (λ (v : Verdict). read_text v s) e)

-- a refused header
pub header_refused : (s : List ℕ) {a : Opened} {r : Refusal} → a ≡ header_of s → a ≡ Err r
    → refused_text (number_of r.reason) ≡ listing_of s
unfolding header_of listing_test read_text
header_refused s e f = text_of s (after_refused _ (refused_is (header_test s) _ _ (sym f ∙ e)))

module _ (s : List ℕ) {a : Opened} {n k : ℕ} (e : a ≡ header_of s) (f : a ≡ indexed n k) where
  passed : (header_test s ≡ fine) × (frames_of s ≡ n)
  unfolding header_of
  passed =
      let (v, frames, stop) = index_is (header_test s) (frames_of s) (stop_of s) (sym f ∙ e) in
      (v, sym frames)

  -- more than 256 frames
  pub over_frames : MOST < n → refused_text (number_of SIZE) ≡ listing_of s
  unfolding listing_test read_text
  over_frames more =
      text_of s
      (after_fine _ passed.0
      ∙ after_refused _ (test_refused SIZE 0 (lt-leb (frames_of s) MOST (omega (arith, passed.1)))))

  -- at most 256: the reader decides
  pub within_frames : n ≤ MOST → read_text (read_test s WIDTH n (n * WIDTH) n) s ≡ listing_of s
  unfolding listing_test
  within_frames most =
      subst (λ (m : ℕ). read_text (read_test s WIDTH m (m * WIDTH) m) s ≡ listing_of s) passed.1
      (text_of s
      (after_fine _ passed.0
      ∙ after_fine _ (test_fine SIZE 0 (le-leb (frames_of s) MOST (omega (arith, passed.1))))))

-- ---- rooms cut to n frames

module _ (n : ℕ) (order labels counts : List ℕ) (most : n ≤ MOST) (o : length order ≡ MOST) (l : length labels ≡ MOST * WIDTH)
    (t : length counts ≡ MOST) where
  cut_order : length (take n order) ≡ n
  cut_order = length-take-le n order (omega arith)

  cut_labels : length (take (n * WIDTH) labels) ≡ n * WIDTH
  cut_labels = length-take-le (n * WIDTH) labels (omega arith)

  cut_counts : length (take n counts) ≡ n
  cut_counts = length-take-le n counts (omega arith)

  pub cut_rooms : Cut (take n order) (take (n * WIDTH) labels) (take n counts)
  cut_rooms =
      record {
        frames = omega (arith, cut_counts);
        ordered = cut_order ∙ sym cut_counts;
        places = cut_labels ∙ ap (λ (k : ℕ). k * WIDTH) (sym cut_counts);
      }

  pub cut_text : (s : List ℕ)
      → read_text
      (read_test s WIDTH (length (take n order)) (length (take (n * WIDTH) labels)) (length (take n counts)))
      s
      ≡ read_text (read_test s WIDTH n (n * WIDTH) n) s
  cut_text s = rw (cut_order, cut_labels, cut_counts) refl
