-- What inner functions, of this crate and of those above it, ask of each other and promise: rooms that fit, a row that lies in
-- its room, rooms that hold given rows, and one turn of the merge.
use Rattle.std.specs.Prelude.{ℕ, ◌+◌, ◌*◌, ◌≤◌, ◌<◌, ◌≡◌, Bool, true, false, cond, ◌||◌, List, [], ◌∷◌, length, get_or, eqb, leb, ltb}
use Rattle.std.specs.Borrow.{Bor}
use Rattle.std.specs.Prelude.{Result, Ok, Err}
use Rattle.refusal.specs.Inner.{Sizes}
use Rattle.refusal.specs.Tests.{Verdict, fine, Refusal}
use Rattle.theory.specs.Rows.{Row}
use Rattle.entry.specs.Entry.{rank_of, joins_of, rank_step}
use Rattle.rows.specs.Laid.{labels_of, counts_of}
use Rattle.rows.specs.Spread.{joins_at_zero}
use Rattle.rows.specs.declared.merge.Meeting.{Meeting}
use Rattle.rows.specs.declared.merge.Turn.{Turn}

-- ---- rooms and rows

-- what the tests 1 and 2 let through of a label room and a count room
pub record Rooms (n w : ℕ) (labels counts : List ℕ) : Type 0 where
  pub sizes : Sizes n w
  pub places : length labels ≡ n * w
  pub each : length counts ≡ n

-- row v lies in the label room, whatever its entries are
pub record RowLies (w : ℕ) (labels counts : List ℕ) (v : ℕ) : Type 0 where
  pub counted : v < length counts
  pub lies : v * w + get_or counts v 0 ≤ length labels

-- ranks rise from each entry to the next
pub record Rises (row : List ℕ) : Type 0 where
  pub next : (i : ℕ) → i + 1 < length row → rank_of (get_or row i 0) < rank_of (get_or row (i + 1) 0)

-- what tests of a row hand back: its entries, whose ranks rise, where they are fine, else their refusal
abbrev pub RowOr : Verdict → List ℕ → Result (Bor (List ℕ)) Refusal → Type 0
RowOr tests row (Ok lent) = (tests ≡ fine) × (lent.now ≡ row) × Rises lent.now
RowOr tests row (Err r) = tests ≡ Err r

-- and of two rows
abbrev pub RowsOr : Verdict → List ℕ → List ℕ → Result (Bor (List ℕ) × Bor (List ℕ)) Refusal → Type 0
RowsOr tests a b (Ok lent) = (tests ≡ fine) × (lent.0.now ≡ a) × (lent.1.now ≡ b) × Rises lent.0.now × Rises lent.1.now
RowsOr tests a b (Err r) = tests ≡ Err r

-- an entry breaks the rule behind the one before it: rank not above it, or joins not below n
unfoldable pub breaks : ℕ → ℕ → ℕ → Bool
breaks n before e = leb (rank_of e) (rank_of before) || leb n (joins_of e)

-- the entry behind entry i of a row does
abbrev pub broken_at : ℕ → List ℕ → ℕ → Bool
broken_at n row i = breaks n (get_or row i 0) (get_or row (i + 1) 0)

-- the joins of a row's first entry if it is of rank 0, or 0
unfoldable pub front_joins : List ℕ → ℕ
front_joins [] = 0
front_joins (e ∷ es) = joins_at_zero e

-- the two rooms hold these rows and nothing else
pub record Laid (n w : ℕ) (R : ℕ → Row) (labels counts : List ℕ) : Type 0 where
  pub rows : labels ≡ labels_of n w R
  pub numbers : counts ≡ counts_of n R

-- ---- one turn along two rising rows

-- above every sum of the joins of two entries: no meeting
abbrev pub no_sum : ℕ
no_sum = 2 * rank_step

-- the sum where the two ranks are one
unfoldable pub at_rank : ℕ → ℕ → ℕ → ℕ
at_rank rank other sum = cond (eqb rank other) sum no_sum

-- a row goes past an entry whose rank is not above the other row's
unfoldable pub past_by : ℕ → ℕ → ℕ
past_by rank other = cond (leb rank other) 1 0

-- what a turn holds against the least: the sum of two entries of one rank, and no sum elsewhere
abbrev pub turned : ℕ → ℕ → Meeting
turned e f = record { rank = rank_of e; sum = at_rank (rank_of e) (rank_of f) (joins_of e + joins_of f) }

-- and how far each row goes on
abbrev pub turn_of : ℕ → ℕ → Turn
turn_of e f = record { meeting = turned e f; first = past_by (rank_of e) (rank_of f); second = past_by (rank_of f) (rank_of e) }

-- the meeting of the lesser sum; of two equal sums the earlier stays
unfoldable pub lesser_by : Meeting → Meeting → Meeting
lesser_by least m = cond (ltb m.sum least.sum) m least

-- ---- the walk that stops early

-- some meeting has a sum of at most the limit
unfoldable pub some_within : ℕ → List Meeting → Bool
some_within limit [] = false
some_within limit (m ∷ ms) =
    let rest : Bool = some_within limit ms in
    cond (leb m.sum limit) true rest
