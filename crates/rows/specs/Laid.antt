-- The label room and the count room as tables of rows: the rows that two rooms hold, and the rooms that hold given rows.
use Rattle.std.specs.Prelude.{ℕ, ◌*◌, ◌/◌, ◌%◌, List, length, get_or}
use Rattle.basics.specs.Places.{table}
use Rattle.theory.specs.Rows.{Row}
use Rattle.entry.specs.Entry.{encode, decode}
use Rattle.rows.specs.Rooms.{row_at}

-- the rows that a label room and a count room hold
unfoldable pub rows_in : ℕ → List ℕ → List ℕ → ℕ → Row
rows_in w labels counts v = decode (row_at w labels counts v)

-- label room: row v starts at place v * W; unused places of a row are 0
unfoldable pub labels_of : ℕ → ℕ → (ℕ → Row) → List ℕ
labels_of n w R = table (n * w) (λ p. get_or (encode (R (p / w))) (p % w) 0)

-- count room: for each frame the number of entries in its row
unfoldable pub counts_of : ℕ → (ℕ → Row) → List ℕ
counts_of n R = table n (λ v. length (R v))
