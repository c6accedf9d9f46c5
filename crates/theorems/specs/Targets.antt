-- Demand 3 carried over to the targets: what an index of all hubs says of them is true of the links handed in.
use Rattle.targets.specs.Nearest.{NearestTarget}
use Rattle.std.specs.Prelude.{ℕ, ◌≤◌, ◌<◌, List, length, get_or, Ok, Err, Some, None}
use Rattle.theory.specs.Chains.{joins, Least}
use Rattle.theorems.specs.Demands.{Joins}

-- a chain of m links from v to the frame of some record
pub record ToTarget (S L : List ℕ) (fs : List ℕ) (v m : ℕ) : Type 0 where
  pub place : ℕ
  pub inside : place < length fs
  pub chain : Joins S L v (get_or fs place 0) m

-- record i is d joins from the asked frame, none is fewer, and none before it is as few
pub record NearestIs (S L : List ℕ) (asked : ℕ) (fs : List ℕ) (i : ℕ) : Type 0 where
  pub inside : i < length fs
  pub away : ℕ
  pub true_count : Least (Joins S L asked (get_or fs i 0)) (joins away)
  pub fewest : (j m : ℕ) → j < length fs → Joins S L asked (get_or fs j 0) m → away ≤ m
  pub before : (j m : ℕ) → j < i → Joins S L asked (get_or fs j 0) m → away < m

-- what is said of the nearest target is true: a record named is it, and none is said exactly if no chain leads to any
unfoldable pub TrulyNearest : List ℕ → List ℕ → ℕ → List ℕ → NearestTarget → Type 0
TrulyNearest S L asked fs (Ok (Some i)) = NearestIs S L asked fs i
TrulyNearest S L asked fs (Ok None) = (m : ℕ) → ToTarget S L fs asked m → ⊥
TrulyNearest S L asked fs (Err r) = ⊥
