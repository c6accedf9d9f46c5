-- The starred cases of the paper's "Checked by hand", as one table of the definitions. Every value on the right is written
-- out by hand from the paper; an entry is rank * 65,536 + joins. Rooms are lent dirty.
use Rattle.std.specs.Prelude.{ℕ, ◌<◌, ◌≡◌, List, [], ◌∷◌, replicate, Ok, Err, Some, None}
use Rattle.refusal.specs.Numbers.{ROOM}
use Rattle.refusal.specs.Tests.{refusal, fine}
use Rattle.theory.specs.Links.{hub_of}
use Rattle.theory.specs.Plain.{joins_to}
use Rattle.links.specs.Order.{ordered, degree_of}
use Rattle.entry.specs.Entry.{decode}
use Rattle.rows.specs.Rooms.{row_at}
use Rattle.rows.specs.Pair.{pair_of, Answer}
use Rattle.build.specs.Build.{BuildOutcome, build_outcome, build_of}
use Rattle.file.specs.Writer.{write_outcome, write_of}

-- a room of this length, lent with 7 everywhere
abbrev pub dirty : ℕ → List ℕ
dirty places = replicate places 7

-- a build over n frames of width w up to stop k, with these starts, neighbour places and order
abbrev pub build_at : ℕ → ℕ → ℕ → List ℕ → List ℕ → List ℕ → List ℕ → BuildOutcome
build_at n w k S L O labels = build_of n w k S L O labels (dirty n) (dirty n) (dirty n)

-- the answer for (s,t) from the rooms that a build leaves
abbrev pub asked : ℕ → ℕ → BuildOutcome → ℕ → ℕ → Answer
asked n w o s t = pair_of n w o.labels o.counts s t

-- Chain 0-1-2-3
abbrev pub chain_s : List ℕ
chain_s = 0 ∷ 1 ∷ 3 ∷ 5 ∷ 6 ∷ []

abbrev pub chain_l : List ℕ
chain_l = 1 ∷ 0 ∷ 2 ∷ 1 ∷ 3 ∷ 2 ∷ []

abbrev pub chain_o : List ℕ
chain_o = 1 ∷ 2 ∷ 0 ∷ 3 ∷ []

-- its build with W = 3 and stop k
unfoldable pub chain_to : ℕ → BuildOutcome
chain_to k = build_at 4 3 k chain_s chain_l chain_o (dirty 12)

-- Ring 0-1-2-3-0, order 0,1,2,3, with W = 3
unfoldable pub ring : BuildOutcome
ring = build_at 4 3 4 (0 ∷ 2 ∷ 4 ∷ 6 ∷ 8 ∷ []) (1 ∷ 3 ∷ 0 ∷ 2 ∷ 1 ∷ 3 ∷ 0 ∷ 2 ∷ []) (0 ∷ 1 ∷ 2 ∷ 3 ∷ []) (dirty 12)

-- Three frames, only link 0-1, order 0,1,2, with W = 2 and stop k
unfoldable pub three_to : ℕ → BuildOutcome
three_to k = build_at 3 2 k (0 ∷ 1 ∷ 2 ∷ 2 ∷ []) (1 ∷ 0 ∷ []) (0 ∷ 1 ∷ 2 ∷ []) (dirty 6)

-- One frame, with W = 1 and k = 1
unfoldable pub one : BuildOutcome
one = build_at 1 1 1 (0 ∷ 0 ∷ []) [] (0 ∷ []) (dirty 1)

pub record Starred : Type 0 where
  -- Chain 0-1-2-3. Order by degree 1,2,0,3.
  pub chain_order : degree_of 4 chain_s chain_l (dirty 4) ≡ ordered fine (1 ∷ 2 ∷ 0 ∷ 3 ∷ [])
  -- Rows as listed, W = 3: `0 1:1 0:0`, `1 1:0`, `2 1:1 2:0`, `3 1:2 2:1 3:0`, where hub 1 has rank 0, hub 2 rank 1, hub 0
  -- rank 2 and hub 3 rank 3; 8 entries, both work rooms 0.
  pub chain_rows : chain_to 4
      ≡ build_outcome (Ok 8)
      (1 ∷ 131072 ∷ 0 ∷ 0 ∷ 0 ∷ 0 ∷ 1 ∷ 65536 ∷ 0 ∷ 2 ∷ 65537 ∷ 196608 ∷ [])
      (2 ∷ 1 ∷ 2 ∷ 3 ∷ [])
      (0 ∷ 0 ∷ 0 ∷ 0 ∷ [])
      (0 ∷ 0 ∷ 0 ∷ 0 ∷ [])
  -- W = 2: ROOM at rank 3; labels, counts, work rooms all 0.
  pub chain_room : build_at 4 2 4 chain_s chain_l chain_o (dirty 8)
      ≡ build_outcome (Err (refusal ROOM 3))
      (0 ∷ 0 ∷ 0 ∷ 0 ∷ 0 ∷ 0 ∷ 0 ∷ 0 ∷ [])
      (0 ∷ 0 ∷ 0 ∷ 0 ∷ [])
      (0 ∷ 0 ∷ 0 ∷ 0 ∷ [])
      (0 ∷ 0 ∷ 0 ∷ 0 ∷ [])
  -- Pair (0,3): 3.
  pub chain_pair : asked 4 3 (chain_to 4) 0 3 ≡ Ok (Some 3)
  -- Same, k = 1. (0,0): 2.
  pub one_hub_self : asked 4 3 (chain_to 1) 0 0 ≡ Ok (Some 2)
  -- (2,3): 3, true 1, nearest hub at 1 join: the only used hub is that of rank 0, and frame 2 is 1 join away from it.
  pub one_hub_pair : asked 4 3 (chain_to 1) 2 3 ≡ Ok (Some 3)
  pub one_hub_true : joins_to 4 chain_s chain_l 2 3 ≡ 1
  pub one_hub_near : joins_to 4 chain_s chain_l 2 (hub_of chain_o 0) ≡ 1
  -- k = 0: every pair none.
  pub no_hub : (s t : ℕ) → s < 4 → t < 4 → asked 4 3 (chain_to 0) s t ≡ Ok None
  -- Ring 0-1-2-3-0, order 0,1,2,3: 9 entries
  pub ring_entries : ring.answer ≡ Ok 9
  -- row 3 in rank:joins is 0:1 2:1 3:0
  pub ring_row : decode (row_at 3 ring.labels ring.counts 3) ≡ (0, 1) ∷ (2, 1) ∷ (3, 0) ∷ []
  -- (1,3): 2.
  pub ring_pair : asked 4 3 ring 1 3 ≡ Ok (Some 2)
  -- Three frames, only link 0-1, order 0,1,2: (0,2) none
  pub three_pair : asked 3 2 (three_to 3) 0 2 ≡ Ok None
  -- k = 2, (2,2) none
  pub three_self : asked 3 2 (three_to 2) 2 2 ≡ Ok None
  -- One frame, k = 1: file 10 00 00 08 00 00 08 00 00 00.
  pub one_file : write_of 1 1 1 (0 ∷ []) one.labels one.counts (dirty 10) 0
      ≡ write_outcome (Ok 10) (16 ∷ 0 ∷ 0 ∷ 8 ∷ 0 ∷ 0 ∷ 8 ∷ 0 ∷ 0 ∷ 0 ∷ [])
