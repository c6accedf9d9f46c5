-- What the inner functions of the file ask of each other and promise: one step of the reader, entries seen at once, what the
-- storing pass asks of a file whose tests are fine and leaves in a room, and an index that the writer's tests let through.
use Rattle.refusal.specs.Tests.{Verdict, fine, Refusal}
use Rattle.std.specs.Prelude.{ℕ, ◌+◌, ◌-◌, ◌*◌, ◌^◌, ◌≤◌, ◌<◌, ◌≡◌, List, length, Ok, Err, Result}
use Rattle.links.specs.Order.{order_test}
use Rattle.rows.specs.Inner.{Rooms}
use Rattle.rows.specs.Rooms.{rows_test}
use Rattle.fields.specs.Bits.{byte_len}
use Rattle.fields.specs.Layout.{entry_bits, order_bit, entry_bit}
use Rattle.file.specs.Reader.{low_at, entries_from, count_at, row_bit}

-- a number to go on with, or the refusal
abbrev pub Step : Type 0
Step = Result ℕ Refusal

-- ---- a step of the reader

-- a number to go on with where the tests are fine, else their refusal
unfoldable pub step : Verdict → ℕ → Step
step (Ok _) x = Ok x
step (Err r) x = Err r

-- ---- a row's entries

-- of `count` entries from bit p on the first `seen` have rising ranks and joins below n, and `low` is one above the last one's
-- rank: for every k that is at least that they are legal, so that those behind them give what all of them give
pub record Rises (s : List ℕ) (n p count seen low : ℕ) : Type 0 where
  pub within : seen ≤ count
  pub lowest : low ≡ low_at s p seen
  pub left : (k : ℕ) → low ≤ k → entries_from s n k p seen (count - seen) ≡ entries_from s n k p 0 count

-- ---- the rooms filled

-- the bytes have so many entries from bit p on
pub record EntriesThere (s : List ℕ) (p count : ℕ) : Type 0 where
  pub near : p < 2 ^ 29
  pub most : count ≤ 256
  pub there : byte_len (p + entry_bits * count) ≤ length s

-- and the row of so many at bit p, which fits the width
pub record RowThere (s : List ℕ) (p count w : ℕ) : Type 0 where
  pub near : p < 2 ^ 28
  pub wide : w ≤ 256
  pub fits : count ≤ w
  pub there : byte_len (entry_bit p count) ≤ length s

-- the same for the order
pub record OrderThere (s : List ℕ) (n : ℕ) : Type 0 where
  pub most : n ≤ 4096
  pub there : byte_len (order_bit n) ≤ length s

-- the same for all rows, which the room of `labels` places has place for
pub record RowsThere (s : List ℕ) (n w labels : ℕ) : Type 0 where
  pub most : n ≤ 4096
  pub wide : w ≤ 256
  pub fits : (v : ℕ) → v < n → count_at s n v ≤ w
  pub there : (v : ℕ) → v ≤ n → byte_len (row_bit s n v) ≤ length s
  pub room : labels ≡ n * w

-- ---- the writer

-- an index that the tests let through
pub record Fit (n w k : ℕ) (O labels counts : List ℕ) : Type 0 where
  pub rooms : Rooms n w labels counts
  pub stop : k ≤ n
  pub long : length O ≡ n
  pub once : order_test n O ≡ fine
  pub sound : rows_test n w k labels counts ≡ fine
