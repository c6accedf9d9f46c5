-- A block of links as the paper lays it out: n frames, start positions S, neighbour places L, and for each place a
-- penalty of 1 or more (P; the plain index has 1 throughout). The list of frame v lies from its start up to the next.
use Rattle.std.specs.Prelude.{ℕ, ◌+◌, ◌≤◌, ◌<◌, ◌≡◌, Bool, ◌&&◌, List, length, get_or, leb, ltb, eqb}

-- place i lies in the list of frame v
unfoldable pub in_list : List ℕ → ℕ → ℕ → Bool
in_list S v i = leb (get_or S v 0) i && ltb i (get_or S (v + 1) 0)

-- place i lies in the list of u and holds v
abbrev pub holds_at : List ℕ → List ℕ → ℕ → ℕ → ℕ → Bool
holds_at S L u v i = in_list S u i && eqb (get_or L i 0) v

-- place `at` is in the list of u, holds v, and has penalty w
pub record Link (S L : List ℕ) (P : ℕ → ℕ) (u v w : ℕ) : Type 0 where
  pub at : ℕ
  pub from : get_or S u 0 ≤ at
  pub upto : at < get_or S (u + 1) 0
  pub holds : get_or L at 0 ≡ v
  pub costs : P at ≡ w

-- What the link tests let through, with penalties from 1 to M. A list is strictly rising, holds numbers below n, not
-- its own frame, and only such frames whose own list holds this one, at the same penalty.
pub record Block (n M : ℕ) (S L : List ℕ) (P : ℕ → ℕ) : Type 0 where
  pub some : 1 ≤ n
  pub long : length S ≡ n + 1
  pub front : get_or S 0 0 ≡ 0
  pub rise : (v : ℕ) → v < n → get_or S v 0 ≤ get_or S (v + 1) 0
  pub last : get_or S n 0 ≡ length L
  pub rising : (v i : ℕ) → v < n → get_or S v 0 ≤ i → i + 1 < get_or S (v + 1) 0 → get_or L i 0 < get_or L (i + 1) 0
  pub inside : (v i : ℕ) → v < n → get_or S v 0 ≤ i → i < get_or S (v + 1) 0 → get_or L i 0 < n
  pub apart : (v i : ℕ) → v < n → get_or S v 0 ≤ i → i < get_or S (v + 1) 0 → get_or L i 0 ≡ v → ⊥
  pub mirror : (v i : ℕ) → v < n → get_or S v 0 ≤ i → i < get_or S (v + 1) 0 → Link S L P (get_or L i 0) v (P i)
  pub least : (i : ℕ) → i < length L → 1 ≤ P i
  pub most : (i : ℕ) → i < length L → P i ≤ M

-- The order: n frame numbers, each frame once. The frame at place r has rank r.
pub record Order (n : ℕ) (O : List ℕ) : Type 0 where
  pub long : length O ≡ n
  pub inside : (r : ℕ) → r < n → get_or O r 0 < n
  pub once : (r s : ℕ) → r < s → s < n → get_or O r 0 ≡ get_or O s 0 → ⊥

-- the hub of rank r
abbrev pub hub_of : List ℕ → ℕ → ℕ
hub_of O r = get_or O r 0
