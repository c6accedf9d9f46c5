-- What a listing prints: `refused` and the number where a test refuses, and nowhere else; the index with the spread that the
-- spread question answers where none does.
use Rattle.refusal.specs.Tests.{Verdict, fine, Refusal}
use Rattle.std.specs.Prelude.{Ok, Err}
use Prim.Native.Nat.{ℕ}
use native.Mathlib.Omega.{arith}
use mathlib.Core.Path.{◌≡◌, sym, ap, ◌∙◌}
use mathlib.Core.List.{List, ◌++◌}
use lib.ListN.{length, get_or}
use Rattle.basics.specs.Places.{sum}
use Rattle.refusal.specs.Numbers.{number_of}
use Rattle.refusal.proofs.Laws.{then_fine, vcase}
use Rattle.rows.specs.Spread.{spread_figure, spread_of}
use Rattle.file.specs.Reader.{frames_of, stop_of, order_read, labels_read, counts_read}
use Rattle.file.proofs.ReadSpread.{read_spread}
use Rattle.listing.specs.Lines.{WIDTH, head_text, lines_text, refused_text}
use Rattle.listing.specs.Listing.{index_text, file_text, read_text, listing_test, listing_of}

pub listing_refused : (s : List ℕ) (r : Refusal) → listing_test s ≡ Err r → listing_of s ≡ refused_text (number_of r.reason)
unfolding listing_of read_text
listing_refused s r e = ap (λ (v : Verdict). read_text v s) e

-- the first line with a spread, and the lines of the frames
abbrev printed : List ℕ → ℕ → ℕ → List ℕ
printed s n spread =
    head_text n (stop_of s) (sum (counts_read s n)) spread
    ++ lines_text (length (counts_read s n)) WIDTH (order_read s n) (labels_read s n WIDTH) (counts_read s n)

pub listing_index : (s : List ℕ) → listing_test s ≡ fine
    → (spread : ℕ)
    × (spread_of (frames_of s) WIDTH (labels_read s (frames_of s) WIDTH) (counts_read s (frames_of s)) ≡ Ok spread)
    × (listing_of s ≡ printed s (frames_of s) spread)
unfolding listing_test listing_of read_text file_text index_text
listing_index s e =
    let (head, rest) = then_fine _ _ e in
    let (frames, read) = then_fine _ _ rest in (
      spread_figure (frames_of s) WIDTH (labels_read s (frames_of s) WIDTH) (counts_read s (frames_of s)),
      read_spread s WIDTH _ _ _ read,
      ap (λ (v : Verdict). read_text v s) e,
    )

-- a text that says `refused` is a test's
pub refused_only : (s : List ℕ) (number : ℕ) → listing_of s ≡ refused_text number → (r : Refusal) × (listing_test s ≡ Err r)
unfolding head_text refused_text
refused_only s number e =
    vcase (listing_test s)
    (λ fine.
    let (spread, answer, text) = listing_index s fine in
    absurd (omega (arith, ap (λ (t : List ℕ). get_or t 0 0) (sym text ∙ e))))
    (λ r refused. (r, refused))
