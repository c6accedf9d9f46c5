-- What the listing program prints for an input: the tests in the paper's order, then the index line by line. `s` is the
-- byte string.
use Rattle.std.specs.Prelude.{ℕ, ◌*◌, List, ◌++◌, length, drop, leb, Ok, Err}
use Rattle.basics.specs.Places.{sum}
use Rattle.refusal.specs.Numbers.{number_of, SIZE}
use Rattle.refusal.specs.Tests.{test, ◌then◌, Verdict}
use Rattle.rows.specs.Spread.{spread_figure}
use Rattle.file.specs.Reader.{frames_of, stop_of, header_test, read_test, order_read, labels_read, counts_read}
use Rattle.listing.specs.Lines.{WIDTH, MOST, head_text, lines_text, refused_text}

-- first line, with the spread of these rows, then a line per frame
unfoldable pub index_text : ℕ → ℕ → List ℕ → List ℕ → List ℕ → List ℕ
index_text n k order labels counts =
    head_text n k (sum counts) (spread_figure n WIDTH labels counts)
    ++ lines_text (length counts) WIDTH order labels counts

-- the index of n frames that a file gives
unfoldable pub file_text : List ℕ → ℕ → List ℕ
file_text s n = index_text n (stop_of s) (order_read s n) (labels_read s n WIDTH) (counts_read s n)

-- unless the reader hands over an index, `refused` with the number
unfoldable pub read_text : Verdict → List ℕ → List ℕ
read_text (Ok _) s = file_text s (frames_of s)
read_text (Err r) s = refused_text (number_of r.reason)

-- the header; more than 256 frames: `refused 1`, tested after the header; then the reader, with W = 32
unfoldable pub listing_test : List ℕ → Verdict
listing_test s =
    header_test s
    then test (leb (frames_of s) MOST) SIZE 0
    then read_test s WIDTH (frames_of s) (frames_of s * WIDTH) (frames_of s)

-- the whole text
unfoldable pub listing_of : List ℕ → List ℕ
listing_of s = read_text (listing_test s) s

-- the text room with the text at its front; behind it the room stays as it was
unfoldable pub listed_in : List ℕ → List ℕ → List ℕ
listed_in s room = listing_of s ++ drop (length (listing_of s)) room
