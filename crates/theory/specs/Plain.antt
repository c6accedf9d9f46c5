-- The plain index: every join counts 1. The paper's own names for a block of n frames with starts S, neighbour places L
-- and order O.
use Rattle.std.specs.Prelude.{ℕ, Bool, List, length}
use Rattle.basics.specs.Places.{some}
use Rattle.theory.specs.Links.{holds_at, hub_of}
use Rattle.theory.specs.Distance.{far, dist}
use Rattle.theory.specs.Rows.{Row, answer, rule_row}

-- every join counts 1
abbrev pub ones : ℕ → ℕ
ones i = 1

-- the list of u holds v
unfoldable pub joined : List ℕ → List ℕ → ℕ → ℕ → Bool
joined S L u v = some (holds_at S L u v) 0 (length L)

-- d(a,b): the fewest joins of a chain from a to b
unfoldable pub joins_to : ℕ → List ℕ → List ℕ → ℕ → ℕ → ℕ
joins_to n S L = dist 1 n S L ones

-- the row of v by the row rule at stop k
unfoldable pub row_by : ℕ → List ℕ → List ℕ → List ℕ → ℕ → ℕ → Row
row_by n S L O k v = rule_row (far 1 n) (joins_to n S L) (hub_of O) k v

-- the answer for (s,t) from the rows at stop k, by infinity where none
abbrev pub answer_by : ℕ → List ℕ → List ℕ → List ℕ → ℕ → ℕ → ℕ → ℕ
answer_by n S L O k s t = answer (far 1 n) n (row_by n S L O k s) (row_by n S L O k t)
