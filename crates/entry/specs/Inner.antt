-- What inner functions of the crates above ask of a row.
use Rattle.std.specs.Prelude.{ℕ, ◌<◌, List, length, get_or}
use Rattle.entry.specs.Entry.{rank_of}

-- every rank of the row has a place in this list
abbrev pub RanksIn : List ℕ → List ℕ → Type 0
RanksIn row list = (i : ℕ) → i < length row → rank_of (get_or row i 0) < length list
