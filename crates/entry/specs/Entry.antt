-- The entry's layout: rank * 65,536 + joins.
use Rattle.std.specs.Prelude.{ℕ, ◌+◌, ◌*◌, ◌/◌, ◌%◌, List, map}
use Rattle.theory.specs.Rows.{Row}

-- an entry is a number of 32 bits
abbrev pub entry_bytes : ℕ
entry_bytes = 4

-- what a rank counts for in an entry; the joins are below it
abbrev pub rank_step : ℕ
rank_step = 65536

-- its upper 16 bits are the rank
unfoldable pub rank_of : ℕ → ℕ
rank_of e = e / rank_step

-- its lower 16 bits are the joins
unfoldable pub joins_of : ℕ → ℕ
joins_of e = e % rank_step

-- an entry is rank * 65,536 + joins, each taken modulo 65,536
unfoldable pub entry_of : ℕ → ℕ → ℕ
entry_of rank joins = rank % rank_step * rank_step + joins % rank_step

-- the ranks and joins of a list of entries
unfoldable pub decode : List ℕ → Row
decode row = map (λ (e : ℕ). (rank_of e, joins_of e)) row

-- the entries of a list of ranks and joins
unfoldable pub encode : Row → List ℕ
encode row = map (λ (p : ℕ × ℕ). entry_of p.0 p.1) row
