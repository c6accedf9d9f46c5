-- The lines of the listing, as the paper prints them. A list of numbers is a text of bytes.
use Rattle.std.specs.Prelude.{ℕ, zero, suc, List, [], ◌∷◌, ◌++◌, length, get_or}
use Rattle.entry.specs.Entry.{rank_of, joins_of}
use Rattle.rows.specs.Rooms.{row_at}
use Rattle.listing.specs.Text.{decimal}

-- W = 32
abbrev pub WIDTH : ℕ
WIDTH = 32

-- at most 256 frames
abbrev pub MOST : ℕ
MOST = 256

-- bytes of the longest text: a first line of 111, and 256 lines of 1,365
abbrev pub LONGEST : ℕ
LONGEST = 349551

abbrev pub space : ℕ
space = 32

abbrev pub colon : ℕ
colon = 58

abbrev pub newline : ℕ
newline = 10

-- hub frame:joins, a single space before it; the frame of a rank is the order's at that place
unfoldable pub entry_text : List ℕ → ℕ → List ℕ
entry_text order e = (space ∷ decimal (get_or order (rank_of e) 0)) ++ (colon ∷ decimal (joins_of e))

-- the texts of 0 to k - 1, one behind the other
unfoldable pub texts : (ℕ → List ℕ) → ℕ → List ℕ
texts text zero = []
texts text (suc k) = texts text k ++ text k

-- the entries of a row, in rank order
abbrev pub entries_text : List ℕ → List ℕ → List ℕ
entries_text order row = texts (λ i. entry_text order (get_or row i 0)) (length row)

-- per frame its number and its entries; the number alone for an empty row
unfoldable pub line_text : List ℕ → ℕ → List ℕ → List ℕ
line_text order v row = decimal v ++ (entries_text order row ++ (newline ∷ []))

-- the lines of frames 0 to n - 1
abbrev pub lines_text : ℕ → ℕ → List ℕ → List ℕ → List ℕ → List ℕ
lines_text n w order labels counts = texts (λ v. line_text order v (row_at w labels counts v)) n

-- 'frames ', ' hubs ', ' entries ', ' spread ' and 'refused '
abbrev pub frames_word : List ℕ
frames_word = 102 ∷ 114 ∷ 97 ∷ 109 ∷ 101 ∷ 115 ∷ 32 ∷ []

abbrev pub hubs_word : List ℕ
hubs_word = 32 ∷ 104 ∷ 117 ∷ 98 ∷ 115 ∷ 32 ∷ []

abbrev pub entries_word : List ℕ
entries_word = 32 ∷ 101 ∷ 110 ∷ 116 ∷ 114 ∷ 105 ∷ 101 ∷ 115 ∷ 32 ∷ []

abbrev pub spread_word : List ℕ
spread_word = 32 ∷ 115 ∷ 112 ∷ 114 ∷ 101 ∷ 97 ∷ 100 ∷ 32 ∷ []

abbrev pub refused_word : List ℕ
refused_word = 114 ∷ 101 ∷ 102 ∷ 117 ∷ 115 ∷ 101 ∷ 100 ∷ 32 ∷ []

-- first line: n, k, sum of counts, spread
unfoldable pub head_text : ℕ → ℕ → ℕ → ℕ → List ℕ
head_text n k entries spread =
    (frames_word ++ decimal n)
    ++ ((hubs_word ++ decimal k)
    ++ ((entries_word ++ decimal entries) ++ ((spread_word ++ decimal spread) ++ (newline ∷ []))))

-- 'refused' with the number
unfoldable pub refused_text : ℕ → List ℕ
refused_text number = (refused_word ++ decimal number) ++ (newline ∷ [])
