-- Demands 2 and 3 of an index in its rooms, over the links and the order handed in. n frames, width w, stop k, start
-- positions S, neighbour places L, order O, label room, count room. Demand 3 is
-- about chains of the links that were handed in and about what the pair question gives back, nothing in between.
use Rattle.std.specs.Prelude.{ℕ, ◌+◌, ◌-◌, ◌*◌, ◌≤◌, ◌<◌, ◌≡◌, ◌↔◌, cond, ◌&&◌, List, length, get_or, set, leb, ltb}
use Rattle.basics.specs.Places.{table}
use Rattle.theory.specs.Links.{Link, hub_of}
use Rattle.theory.specs.Chains.{Count, joins, Least, ChainOf, Through}
use Rattle.theory.specs.Distance.{far}
use Rattle.theory.specs.Rows.{In}
use Rattle.theory.specs.Walk.{walks}
use Rattle.theory.specs.Plain.{ones, joined}
use Rattle.entry.specs.Entry.{rank_of, decode}
use Rattle.rows.specs.Rooms.{row_at}
use Rattle.rows.specs.Pair.{pair_of, pair_told, said_of}

-- the answer for (s,t): a number of joins, or none
abbrev pub asked_of : ℕ → ℕ → List ℕ → List ℕ → ℕ → ℕ → Count
asked_of n w labels counts s t = said_of (pair_of n w labels counts s t)

-- a chain from a to b of the links handed in, with this number of links
abbrev pub Joins : List ℕ → List ℕ → ℕ → ℕ → ℕ → Type 0
Joins S L a b links = ChainOf (Link S L ones) a b links

-- the label room with used entry i of row v taken out: entries behind it move down one place, the freed place is 0
unfoldable pub labels_without : ℕ → List ℕ → List ℕ → ℕ → ℕ → List ℕ
labels_without w labels counts v i =
    let end : ℕ = v * w + get_or counts v 0 in
    table (length labels)
    (λ p. cond (leb (v * w + i) p && ltb p end) (cond (ltb (p + 1) end) (get_or labels (p + 1) 0) 0) (get_or labels p 0))

-- the count room with one entry less in row v
unfoldable pub counts_without : List ℕ → ℕ → List ℕ
counts_without counts v = set counts v (get_or counts v 0 - 1)

-- the hub of the rank that used entry i of row v has
unfoldable pub hub_at : ℕ → List ℕ → List ℕ → ℕ → ℕ → ℕ
hub_at w O labels v i = hub_of O (rank_of (get_or labels (v * w + i) 0))

-- the row rule: the row of v holds (rank of h, d(h,v)) exactly for those h of rank below k that reach v and for which no w of
-- lower rank has d(h,w) + d(w,v) = d(h,v). Here h has rank r and m is d(h,v), w has rank q
pub record RowRule (S L O : List ℕ) (k v r m : ℕ) : Type 0 where
  pub used : r < k
  pub reach : Least (Joins S L (hub_of O r) v) (joins m)
  pub alone : (q a b : ℕ) → q < r → Least (Joins S L (hub_of O r) (hub_of O q)) (joins a) → Least (Joins S L (hub_of O q) v) (joins b)
      → a + b ≡ m → ⊥

pub record Demands (n w k : ℕ) (S L O labels counts : List ℕ) : Type 0 where
  -- demand 2: the rows are those of the published walks of the hubs of rank 0 to k - 1, in rank order, from empty rows
  pub walked : (v : ℕ) → v < n → decode (row_at w labels counts v) ≡ walks (far 1 n) n (joined S L) (hub_of O) k v
  -- and so the row rule's at stop k, exactly
  pub ruled : (v : ℕ) → v < n → (r m : ℕ) → In r m (decode (row_at w labels counts v)) ↔ RowRule S L O k v r m
  -- any two frames, equal ones included, may be asked: success is 0
  pub taken : (s t : ℕ) → s < n → t < n → (pair_told (pair_of n w labels counts s t)).number ≡ 0
  -- demand 3: the answer is the fewest joins of a chain through one of those k hubs, none exactly if there is no such chain
  pub fewest : (s t : ℕ) → s < n → t < n → Least (Through (Joins S L) (hub_of O) k s t) (asked_of n w labels counts s t)
  -- it is never below the true count
  pub never_below : (s t m : ℕ) → s < n → t < n → asked_of n w labels counts s t ≡ joins m → (c : Count) → Least (Joins S L s t) c
      → (d : ℕ) × (c ≡ joins d) × (d ≤ m)
  -- it exceeds the true count by at most twice the joins from the first frame to its nearest used hub: with d the true
  -- count and j the joins to that hub, and so with any chain to any used hub
  pub near_first : (s t d r j : ℕ) → s < n → t < n → Joins S L s t d → r < k → Joins S L s (hub_of O r) j
      → (m : ℕ) × (asked_of n w labels counts s t ≡ joins m) × (m ≤ d + 2 * j)
  -- and by at most twice the joins from the second frame to its nearest used hub
  pub near_second : (s t d r j : ℕ) → s < n → t < n → Joins S L s t d → r < k → Joins S L t (hub_of O r) j
      → (m : ℕ) × (asked_of n w labels counts s t ≡ joins m) × (m ≤ d + 2 * j)
  -- at k = n it is the true count of every pair, none for a pair without a chain
  pub true_count : k ≡ n → (s t : ℕ) → s < n → t < n → Least (Joins S L s t) (asked_of n w labels counts s t)
  -- no entry is spare: with any used entry taken out, the pair of its hub and its frame is still taken, and answered otherwise
  pub no_spare : (v i : ℕ) → v < n → i < get_or counts v 0
      → (hub_at w O labels v i < n)
      × ((pair_told (pair_of n w (labels_without w labels counts v i) (counts_without counts v) (hub_at w O labels v i) v)).number ≡ 0)
      × (asked_of n w (labels_without w labels counts v i) (counts_without counts v) (hub_at w O labels v i) v
      ≡ asked_of n w labels counts (hub_at w O labels v i) v
      → ⊥)
