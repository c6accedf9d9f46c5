-- The field list of the index file: the one place that says which fields it has, in which order and how wide. n frames,
-- width w, stop k, order O, label room and count room.
use Rattle.std.specs.Prelude.{ℕ, zero, suc, ◌+◌, ◌-◌, ◌*◌, ◌/◌, List, [], ◌∷◌, ◌++◌, length, get_or}
use Rattle.entry.specs.Entry.{rank_of, joins_of}
use Rattle.rows.specs.Rooms.{row_at}
use Rattle.fields.specs.Bits.{Field, field, packed}

-- ---- how many bits a field takes, and where it stands

-- the header: version, n - 1, k, spare
abbrev pub version_bits : ℕ
version_bits = 4

abbrev pub frames_bits : ℕ
frames_bits = 12

abbrev pub stop_bits : ℕ
stop_bits = 13

abbrev pub spare_bits : ℕ
spare_bits = 3

-- a frame number of the order, a row's count, an entry's rank and joins
abbrev pub frame_bits : ℕ
frame_bits = 12

abbrev pub count_bits : ℕ
count_bits = 9

abbrev pub rank_bits : ℕ
rank_bits = 12

abbrev pub joins_bits : ℕ
joins_bits = 12

abbrev pub entry_bits : ℕ
entry_bits = rank_bits + joins_bits

-- the first bit of a header field; the version has bit 0
abbrev pub frames_bit : ℕ
frames_bit = version_bits

abbrev pub stop_bit : ℕ
stop_bit = frames_bit + frames_bits

abbrev pub spare_bit : ℕ
spare_bit = stop_bit + stop_bits

-- where the header ends
abbrev pub header_bits : ℕ
header_bits = spare_bit + spare_bits

-- of the order field of rank r; at that of n the rows begin
abbrev pub order_bit : ℕ → ℕ
order_bit r = header_bits + frame_bits * r

-- of the joins of an entry at bit p, and of entry i of a row at bit p
abbrev pub joins_bit : ℕ → ℕ
joins_bit p = p + rank_bits

abbrev pub entry_bit : ℕ → ℕ → ℕ
entry_bit p i = p + count_bits + entry_bits * i

-- ---- the fields

-- the version's one value
abbrev pub version_value : ℕ
version_value = 1

-- the header of 32 bits
unfoldable pub header_fields : ℕ → ℕ → List Field
header_fields n k = field version_value version_bits ∷ field (n - 1) frames_bits ∷ field k stop_bits ∷ field 0 spare_bits ∷ []

-- the fields of `left` places from v on, one place behind the other
unfoldable pub fields_from : (ℕ → List Field) → ℕ → ℕ → List Field
fields_from one v zero = []
fields_from one v (suc left) = one v ++ fields_from one (suc v) left

-- the order: a field for each frame number
abbrev pub frame_fields : ℕ → List Field
frame_fields v = field v frame_bits ∷ []

abbrev pub order_fields : List ℕ → List Field
order_fields O = fields_from (λ r. frame_fields (get_or O r 0)) 0 (length O)

-- the entries of a row: rank, joins
abbrev pub entry_fields : ℕ → List Field
entry_fields e = field (rank_of e) rank_bits ∷ field (joins_of e) joins_bits ∷ []

abbrev pub entries_fields : List ℕ → List Field
entries_fields row = fields_from (λ i. entry_fields (get_or row i 0)) 0 (length row)

-- a row: its count and its entries
unfoldable pub row_fields : ℕ → List ℕ → List ℕ → ℕ → List Field
row_fields w labels counts v = field (get_or counts v 0) count_bits ∷ entries_fields (row_at w labels counts v)

-- `left` rows from frame v on
abbrev pub rows_fields : ℕ → List ℕ → List ℕ → ℕ → ℕ → List Field
rows_fields w labels counts v left = fields_from (row_fields w labels counts) v left

-- the fields of the whole file
unfoldable pub file_fields : ℕ → ℕ → ℕ → List ℕ → List ℕ → List ℕ → List Field
file_fields n w k O labels counts = header_fields n k ++ (order_fields O ++ rows_fields w labels counts 0 n)

-- the file's bytes
unfoldable pub file_of : ℕ → ℕ → ℕ → List ℕ → List ℕ → List ℕ → List ℕ
file_of n w k O labels counts = packed (file_fields n w k O labels counts)

-- with E entries the file has 4 + (21n + 24E) / 8 bytes, the quotient rounded up
abbrev pub file_size : ℕ → ℕ → ℕ
file_size n entries = header_bits / 8 + ((frame_bits + count_bits) * n + entry_bits * entries + 7) / 8
