-- Spread: twice the largest joins among used entries of rank 0, or 0 if there is none.
use Rattle.refusal.specs.Tests.{Verdict, Refusal}
use Rattle.std.specs.Prelude.{ℕ, zero, suc, ◌*◌, max, cond, List, [], ◌∷◌, eqb, Ok, Err, Result}
use Rattle.refusal.specs.Told.{Told, gives, refuses}
use Rattle.entry.specs.Entry.{rank_of, joins_of}
use Rattle.rows.specs.Rooms.{row_at, check_rows}

-- the spread, or a refusal
abbrev pub SpreadAnswer : Type 0
SpreadAnswer = Result ℕ Refusal

-- the joins of an entry of rank 0; 0 for any other
unfoldable pub joins_at_zero : ℕ → ℕ
joins_at_zero e = cond (eqb (rank_of e) 0) (joins_of e) 0

-- the largest joins among the entries of rank 0 of a row, or 0
unfoldable pub farthest_in : List ℕ → ℕ
farthest_in [] = 0
farthest_in (e ∷ es) = max (joins_at_zero e) (farthest_in es)

-- the largest joins among the used entries of rank 0 of the rows below v, or 0
unfoldable pub farthest : ℕ → List ℕ → List ℕ → ℕ → ℕ
farthest w labels counts zero = 0
farthest w labels counts (suc v) = max (farthest_in (row_at w labels counts v)) (farthest w labels counts v)

-- the spread of n rows
unfoldable pub spread_figure : ℕ → ℕ → List ℕ → List ℕ → ℕ
spread_figure n w labels counts = 2 * farthest w labels counts n

-- behind fine tests: the spread
unfoldable pub spread_by : Verdict → ℕ → SpreadAnswer
spread_by (Ok _) spread = Ok spread
spread_by (Err r) spread = Err r

-- spread: 1, 2, 9 (lowest frame)
unfoldable pub spread_of : ℕ → ℕ → List ℕ → List ℕ → SpreadAnswer
spread_of n w labels counts = spread_by (check_rows n w n labels counts) (spread_figure n w labels counts)

-- the paper's numbers: the spread
unfoldable pub spread_told : SpreadAnswer → Told
spread_told (Ok d) = gives (d ∷ [])
spread_told (Err r) = refuses r 1
