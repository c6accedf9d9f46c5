-- One hub's walk over the rooms as they stand, by theory's levels: which frames it meets, at which level, which it keeps,
-- whether each has room, and the rows after it.
use Rattle.std.specs.Prelude.{ℕ, Bool, cond, not, ◌&&◌, List, get_or, leb, ltb, Result, Ok, Err, ⊤}
use Rattle.basics.specs.Places.{some}
use Rattle.refusal.specs.Sizes.{most_joins}
use Rattle.theory.specs.Distance.{far}
use Rattle.theory.specs.Rows.{Row, answer}
use Rattle.theory.specs.Walk.{levels, walk_row}
use Rattle.theory.specs.Plain.{joined}
use Rattle.rows.specs.Laid.{rows_in}
use Rattle.walk.specs.declared.Unmade.{Unmade}
use Rattle.walk.specs.declared.Unmade.TheVariants.{Full, Far}

-- what becomes of a walk: made as a whole, or why nothing of it is stored
abbrev pub Walked : Type 0
Walked = Result ⊤ Unmade

-- the answer for (hub, u) from the rows so far
unfoldable pub so_far : ℕ → ℕ → List ℕ → List ℕ → ℕ → ℕ → ℕ
so_far n w labels counts hub u = answer (far 1 n) n (rows_in w labels counts hub) (rows_in w labels counts u)

-- the level at which the walk of `hub` meets v, and far 1 n where it does not
unfoldable pub level_of : ℕ → ℕ → List ℕ → List ℕ → List ℕ → List ℕ → ℕ → ℕ → ℕ
level_of n w S L labels counts hub v = levels (far 1 n) n (joined S L) (so_far n w labels counts hub) hub n v

-- the walk gives v an entry: it is met below the answer from the rows so far
unfoldable pub kept : ℕ → ℕ → List ℕ → List ℕ → List ℕ → List ℕ → ℕ → ℕ → Bool
kept n w S L labels counts hub v = ltb (level_of n w S L labels counts hub v) (so_far n w labels counts hub v)

-- every frame that the walk gives an entry has room for it
unfoldable pub walk_fits : ℕ → ℕ → List ℕ → List ℕ → List ℕ → List ℕ → ℕ → Bool
walk_fits n w S L labels counts hub =
    not (some (λ v. kept n w S L labels counts hub v && leb w (get_or counts v 0)) 0 n)

-- the walk decides before it stores: ROOM first, then FAR
abbrev pub decided : Bool → Bool → Walked
decided fits near = cond fits (cond near (Ok tt) (Err Far)) (Err Full)

-- either the whole walk is made or the row stays
unfoldable pub if_made : Walked → Row → Row → Row
if_made (Ok _) after before = after
if_made (Err _) after before = before

-- one hub's walk over the rows so far, whatever they are, by levels: the rows after it
unfoldable pub walked_rows : ℕ → ℕ → List ℕ → List ℕ → List ℕ → List ℕ → ℕ → ℕ → ℕ → Row
walked_rows n w S L labels counts rank hub v = walk_row (far 1 n) n (joined S L) (rows_in w labels counts) rank hub v

-- the walk gives no frame over 4,095 joins
unfoldable pub walk_near : ℕ → ℕ → List ℕ → List ℕ → List ℕ → List ℕ → ℕ → Bool
walk_near n w S L labels counts hub =
    not (some (λ v. kept n w S L labels counts hub v && ltb most_joins (level_of n w S L labels counts hub v)) 0 n)

-- what the walk decides, by levels: the whole walk, or which of the two stands against it
unfoldable pub walk_of : ℕ → ℕ → List ℕ → List ℕ → List ℕ → List ℕ → ℕ → Walked
walk_of n w S L labels counts hub = decided (walk_fits n w S L labels counts hub) (walk_near n w S L labels counts hub)
