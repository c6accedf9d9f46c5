-- What yes means of an index of all hubs, for the question within so many joins.
use Rattle.std.specs.Prelude.{ℕ, ◌≤◌, List}
use Rattle.theorems.specs.Demands.{Joins}

-- a chain of at most so many links from s to t
pub record Chained (S L : List ℕ) (s t limit : ℕ) : Type 0 where
  pub links : ℕ
  pub few : links ≤ limit
  pub chain : Joins S L s t links
