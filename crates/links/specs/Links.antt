-- The tests on a block of links, 1 to 4, in the paper's order. n frames, start positions S, neighbour places L.
use Rattle.std.specs.Prelude.{ℕ, ◌+◌, ◌-◌, Bool, not, ◌&&◌, ◌||◌, List, length, get_or, leb, ltb, eqb}
use Rattle.basics.specs.Places.{some}
use Rattle.refusal.specs.Numbers.{SIZE, LENGTH, STARTS, LINKS}
use Rattle.refusal.specs.Sizes.{frames_fit, places_fit}
use Rattle.refusal.specs.Tests.{test, ◌then◌, lowest_test, Verdict}

-- the start position behind frame v falls
abbrev pub falls : List ℕ → ℕ → Bool
falls S v = ltb (get_or S (v + 1) 0) (get_or S v 0)

-- start positions: first 0, never falling, last equal to the number of neighbour places
unfoldable pub starts_right : ℕ → List ℕ → List ℕ → Bool
starts_right n S L =
    eqb (get_or S 0 0) 0
    && not (some (falls S) 0 n)
    && eqb (get_or S n 0) (length L)

-- the number of links of frame v
unfoldable pub degree : List ℕ → ℕ → ℕ
degree S v = get_or S (v + 1) 0 - get_or S v 0

-- the list of w holds v
unfoldable pub holds : List ℕ → List ℕ → ℕ → ℕ → Bool
holds S L w v = some (λ i. eqb (get_or L i 0) v) (get_or S w 0) (degree S w)

-- the link at place i is not the first of v's list, and not above the one before
abbrev pub not_above : List ℕ → List ℕ → ℕ → ℕ → Bool
not_above S L v i = ltb (get_or S v 0) i && leb (get_or L i 0) (get_or L (i - 1) 0)

-- the link at place i breaks the rule of v's list: n or more, v itself, not above the one before, or without its mirror
unfoldable pub faulty_link : ℕ → List ℕ → List ℕ → ℕ → ℕ → Bool
faulty_link n S L v i =
    leb n (get_or L i 0)
    || eqb (get_or L i 0) v
    || not_above S L v i
    || not (holds S L (get_or L i 0) v)

-- some link of v's list is faulty
unfoldable pub faulty_list : ℕ → List ℕ → List ℕ → ℕ → Bool
faulty_list n S L v = some (faulty_link n S L v) (get_or S v 0) (degree S v)

-- 1 and 2: sizes, then the length of the start positions
unfoldable pub sizes_test : ℕ → List ℕ → List ℕ → Verdict
sizes_test n S L = test (frames_fit n && places_fit (length L)) SIZE 0 then test (eqb (length S) (n + 1)) LENGTH 0

-- 3: start positions break their rule
unfoldable pub starts_test : ℕ → List ℕ → List ℕ → Verdict
starts_test n S L = test (starts_right n S L) STARTS 0

-- 4: a list breaks its rule; the lowest such frame
unfoldable pub lists_test : ℕ → List ℕ → List ℕ → Verdict
lists_test n S L = lowest_test (faulty_list n S L) n LINKS

-- check links: 1 to 4
unfoldable pub check_links : ℕ → List ℕ → List ℕ → Verdict
check_links n S L = sizes_test n S L then starts_test n S L then lists_test n S L
