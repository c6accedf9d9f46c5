-- The reader of the index file, in the paper's words: the tests in their order, each field at its first bit, and what the
-- rooms hold afterwards. `s` is the byte string, n the frames and k the stop that its header gives, w the width of the call.
use Rattle.file.specs.declared.Index.{Index}
use Rattle.std.specs.Prelude.{ℕ, zero, suc, ◌+◌, ◌*◌, ◌/◌, ◌%◌, Bool, cond, not, ◌&&◌, List, [], ◌∷◌, length, leb, ltb, eqb, Ok, Err, Result}
use Rattle.basics.specs.Places.{table}
use Rattle.refusal.specs.Numbers.{SIZE, LENGTH, ROOM, SHORT, VERSION, FIELD, LONG}
use Rattle.refusal.specs.Sizes.{most_width, width_fits}
use Rattle.refusal.specs.Tests.{test, ◌then◌, tests_from, Verdict, Refusal}
use Rattle.refusal.specs.Told.{Told, gives, refuses}
use Rattle.links.specs.Order.{faulty_rank}
use Rattle.entry.specs.Entry.{entry_of}
use Rattle.fields.specs.Bits.{field_at, byte_len, pad_len}
use Rattle.fields.specs.Layout.{version_bits, version_value, frames_bits, stop_bits, spare_bits, frame_bits, count_bits, rank_bits, joins_bits, entry_bits, frames_bit, stop_bit, spare_bit, order_bit, joins_bit, entry_bit}
use Rattle.file.specs.Index.{lengths_fit}

-- an index of n frames and stop k, or a refusal
abbrev pub Opened : Type 0
Opened = Result Index Refusal

abbrev pub indexed : ℕ → ℕ → Opened
indexed n k = Ok (record { n = n; k = k })

-- ---- one field

-- 10: bytes end inside a field; its first bit
unfoldable pub short_test : List ℕ → ℕ → ℕ → Verdict
short_test s p width = test (leb (byte_len (p + width)) (length s)) SHORT p

-- 10, then 12: illegal field; its first bit
unfoldable pub field_test : List ℕ → ℕ → ℕ → Bool → Verdict
field_test s p width legal = short_test s p width then test legal FIELD p

-- ---- the header of 32 bits

-- n: its field holds n - 1
unfoldable pub frames_of : List ℕ → ℕ
frames_of s = field_at s frames_bit frames_bits + 1

-- k
unfoldable pub stop_of : List ℕ → ℕ
stop_of s = field_at s stop_bit stop_bits

-- version (value 1), n - 1, k (over n: FIELD), spare (not 0: FIELD)
unfoldable pub header_test : List ℕ → Verdict
header_test s =
    short_test s 0 version_bits then test (eqb (field_at s 0 version_bits) version_value) VERSION 0
    then short_test s frames_bit frames_bits
    then field_test s stop_bit stop_bits (leb (stop_of s) (frames_of s))
    then field_test s spare_bit spare_bits (eqb (field_at s spare_bit spare_bits) 0)

-- ---- the order

-- the frame of rank r, as the file gives it
unfoldable pub frame_at : List ℕ → ℕ → ℕ
frame_at s r = field_at s (order_bit r) frame_bits

-- an order field (n or more, or a repeat: FIELD)
unfoldable pub order_field_test : List ℕ → ℕ → ℕ → Verdict
order_field_test s n r = field_test s (order_bit r) frame_bits (not (faulty_rank n (frame_at s) r))

-- `left` order fields from rank r on
abbrev pub order_from : List ℕ → ℕ → ℕ → ℕ → Verdict
order_from s n r left = tests_from (order_field_test s n) r left

-- ---- the rows

-- rank (k or more, or not above the one before: FIELD), joins (n or more: FIELD); `low` is one above the rank before
unfoldable pub entry_test : List ℕ → ℕ → ℕ → ℕ → ℕ → Verdict
entry_test s n k p low =
    field_test s p rank_bits (leb low (field_at s p rank_bits) && ltb (field_at s p rank_bits) k)
    then field_test s (joins_bit p) joins_bits (ltb (field_at s (joins_bit p) joins_bits) n)

-- one above the rank before entry i, and 0 before the first; entries from bit p on
unfoldable pub low_at : List ℕ → ℕ → ℕ → ℕ
low_at s p zero = 0
low_at s p (suc i) = field_at s (p + entry_bits * i) rank_bits + 1

-- `left` entries from entry i on, where the first stands at bit p
abbrev pub entries_from : List ℕ → ℕ → ℕ → ℕ → ℕ → ℕ → Verdict
entries_from s n k p i left = tests_from (λ j. entry_test s n k (p + entry_bits * j) (low_at s p j)) i left

-- for frame v a count (over 256: FIELD; else over W: ROOM) and its entries
unfoldable pub row_fields_test : List ℕ → ℕ → ℕ → ℕ → ℕ → ℕ → Verdict
row_fields_test s n w k v p =
    let entries : Verdict = entries_from s n k (p + count_bits) 0 (field_at s p count_bits) in
    field_test s p count_bits (leb (field_at s p count_bits) most_width) then test (leb (field_at s p count_bits) w) ROOM v then entries

-- the bit behind the row at bit p
unfoldable pub bit_behind : List ℕ → ℕ → ℕ
bit_behind s p = entry_bit p (field_at s p count_bits)

-- the bit at which row v starts
unfoldable pub row_bit : List ℕ → ℕ → ℕ → ℕ
row_bit s n zero = order_bit n
row_bit s n (suc v) = bit_behind s (row_bit s n v)

-- `left` rows from frame v on
abbrev pub rows_from : List ℕ → ℕ → ℕ → ℕ → ℕ → ℕ → Verdict
rows_from s n w k v left = tests_from (λ u. row_fields_test s n w k u (row_bit s n u)) v left

-- ---- the end

-- zero bits fill the last byte (else FIELD at the first of them); 13: bytes after the layout; bytes the layout uses
unfoldable pub end_test : List ℕ → ℕ → Verdict
end_test s p =
    test (eqb (field_at s p (pad_len p)) 0) FIELD p then test (leb (length s) (byte_len p)) LONG (byte_len p)

-- everything behind the header, in bit order, then 13
unfoldable pub body_test : List ℕ → ℕ → ℕ → ℕ → Verdict
body_test s n w k = order_from s n 0 n then rows_from s n w k 0 n then end_test s (row_bit s n n)

-- ---- the reader

-- 1 for W, the header's fields in bit order, 2 for the lengths of the three rooms, then the other fields in bit order, then 13
unfoldable pub read_test : List ℕ → ℕ → ℕ → ℕ → ℕ → Verdict
read_test s w order labels counts =
    test (width_fits w) SIZE 0
    then header_test s
    then test (lengths_fit (frames_of s) w order labels counts) LENGTH 0
    then body_test s (frames_of s) w (stop_of s)

-- an index of n frames and stop k where the tests are fine, else their refusal
unfoldable pub opened : Verdict → ℕ → ℕ → Opened
opened (Ok _) n k = indexed n k
opened (Err r) n k = Err r

-- the header alone: n and k, or the refusal
unfoldable pub header_of : List ℕ → Opened
header_of s = opened (header_test s) (frames_of s) (stop_of s)

-- ---- what the rooms hold

-- the count of frame v
unfoldable pub count_at : List ℕ → ℕ → ℕ → ℕ
count_at s n v = field_at s (row_bit s n v) count_bits

-- the entry at bit p
unfoldable pub entry_at : List ℕ → ℕ → ℕ
entry_at s p = entry_of (field_at s p rank_bits) (field_at s (joins_bit p) joins_bits)

-- place i of the row of `count` entries at bit p: its entry, and 0 in unused places
unfoldable pub cell_of : List ℕ → ℕ → ℕ → ℕ → ℕ
cell_of s p count i = cond (ltb i count) (entry_at s (entry_bit p i)) 0

-- a place of the label room: place v * w + i is place i of row v
unfoldable pub label_at : List ℕ → ℕ → ℕ → ℕ → ℕ
label_at s n w at = cell_of s (row_bit s n (at / w)) (count_at s n (at / w)) (at % w)

-- the rooms that a file fills: the order, the entries with 0 in unused places, the counts
unfoldable pub order_read : List ℕ → ℕ → List ℕ
order_read s n = table n (frame_at s)

unfoldable pub labels_read : List ℕ → ℕ → ℕ → List ℕ
labels_read s n w = table (n * w) (label_at s n w)

unfoldable pub counts_read : List ℕ → ℕ → List ℕ
counts_read s n = table n (count_at s n)

-- the paper's numbers: n and k
unfoldable pub opened_told : Opened → Told
opened_told (Ok x) = gives (x.n ∷ x.k ∷ [])
opened_told (Err r) = refuses r 2

-- what comes back, also in the paper's numbers, and what the three rooms then hold
pub record ReadOutcome : Type 0 where
  pub answer : Opened
  pub told : Told
  pub order : List ℕ
  pub labels : List ℕ
  pub counts : List ℕ

abbrev pub read_outcome : Opened → List ℕ → List ℕ → List ℕ → ReadOutcome
read_outcome answer order labels counts =
    record { answer = answer; told = opened_told answer; order = order; labels = labels; counts = counts }

-- the index that a file gives: n and k, and the rooms filled
abbrev pub index_read : List ℕ → ℕ → ReadOutcome
index_read s w =
    read_outcome (indexed (frames_of s) (stop_of s))
    (order_read s (frames_of s))
    (labels_read s (frames_of s) w)
    (counts_read s (frames_of s))

-- the rooms filled where the tests are fine, else as lent
unfoldable pub filled_in : Verdict → List ℕ → ℕ → List ℕ → List ℕ → List ℕ → ReadOutcome
filled_in (Ok _) s w order labels counts = index_read s w
filled_in (Err r) s w order labels counts = read_outcome (Err r) order labels counts

-- the reader
unfoldable pub read_of : List ℕ → ℕ → List ℕ → List ℕ → List ℕ → ReadOutcome
read_of s w order labels counts =
    filled_in (read_test s w (length order) (length labels) (length counts)) s w order labels counts
