-- From the links handed in to an answer asked of a file read back: what a reader may hold against demands 2 and 3.
use Rattle.file.specs.Reader.{Opened, indexed}
use Rattle.file.specs.Writer.{Written}
use Rattle.std.specs.Prelude.{ℕ, ◌≡◌, List, replicate, Ok}
use Rattle.basics.specs.Places.{sum}
use Rattle.rows.specs.Pair.{pair_of}
use Rattle.fields.specs.Layout.{file_size}
use Rattle.file.specs.Index.{stored, SameIndex}
use Rattle.theorems.specs.Demands.{Demands}

-- An unrefused build of `entries` entries left labels and counts; these were written and read back: what the writer and the
-- reader then gave, and what order₂, labels₂ and counts₂ hold.
pub record EndToEnd (n w k : ℕ) (S L O : List ℕ) (entries : ℕ) (labels counts met queue : List ℕ) (written : Written)
    (opened : Opened) (order₂ labels₂ counts₂ : List ℕ) : Type 0 where
  -- a build that isn't refused gives the number of entries, the sum of all counts
  pub total : entries ≡ sum counts
  -- and leaves both work rooms 0
  pub met_zero : met ≡ replicate n 0
  pub queue_zero : queue ≡ replicate n 0
  -- the rooms of the build meet demands 2 and 3
  pub built : Demands n w k S L O labels counts
  -- the writer isn't refused, and gives the bytes it filled
  pub size : written ≡ Ok (file_size n entries)
  -- the reader isn't refused, and hands back n and k
  pub index : opened ≡ indexed n k
  -- a file read back with the W it was written with gives the same index
  pub same : SameIndex (stored n w k O labels counts) (stored n w k order₂ labels₂ counts₂)
  -- every pair gets from the read-back rooms the very answer that the built ones give, a refusal of either frame included
  pub answers : (s t : ℕ) → pair_of n w labels₂ counts₂ s t ≡ pair_of n w labels counts s t
  -- the read-back rooms meet demands 2 and 3 over the links and the order handed in, every clause
  pub read : Demands n w k S L O labels₂ counts₂
