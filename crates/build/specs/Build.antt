-- What a build gives back and leaves in the rooms it is lent: the paper's tests, and then the rows of the ROW RULE, not of
-- any walk. n frames, width w, stop k, start positions S, neighbour places L, order O.
use Rattle.std.specs.Prelude.{ℕ, suc, ◌+◌, ◌*◌, Bool, cond, ◌&&◌, ◌||◌, List, [], ◌∷◌, length, replicate, leb, ltb, eqb, Ok, Err, Result}
use Rattle.basics.specs.Places.{first, some, sum}
use Rattle.refusal.specs.Numbers.{SIZE, LENGTH, ROOM, FAR}
use Rattle.refusal.specs.Sizes.{most_joins, sizes_fit, places_fit}
use Rattle.refusal.specs.Tests.{test, ◌then◌, Verdict, Refusal}
use Rattle.refusal.specs.Told.{Told, gives, refuses}
use Rattle.theory.specs.Distance.{far}
use Rattle.theory.specs.Links.{hub_of}
use Rattle.theory.specs.Rows.{Row, hubs}
use Rattle.theory.specs.Plain.{joins_to, row_by}
use Rattle.links.specs.Links.{starts_test, lists_test}
use Rattle.links.specs.Order.{order_test}
use Rattle.rows.specs.Laid.{labels_of, counts_of}

-- the number of entries, or a refusal
abbrev pub Built : Type 0
Built = Result ℕ Refusal

-- 1: n from 1 to 4,096, W from 1 to 256, k from 0 to n, neighbour places at most 65,536
unfoldable pub build_sizes : ℕ → ℕ → ℕ → ℕ → Bool
build_sizes n w k places = sizes_fit n w && (leb k n && places_fit places)

-- 2: n + 1 start positions, n ranks, n * W labels, n counts, two work rooms of n each; the lengths as they are
unfoldable pub build_rooms : ℕ → ℕ → ℕ → ℕ → ℕ → ℕ → ℕ → ℕ → Bool
build_rooms n w starts order labels counts met queue =
    eqb starts (n + 1)
    && (eqb order n && (eqb labels (n * w) && (eqb counts n && (eqb met n && eqb queue n))))

-- the order of tests before the walks: 1, 2, 3, 4, 5
unfoldable pub build_tests : ℕ → ℕ → ℕ → List ℕ → List ℕ → List ℕ → ℕ → ℕ → ℕ → ℕ → Verdict
build_tests n w k S L O labels counts met queue =
    test (build_sizes n w k (length L)) SIZE 0
    then test (build_rooms n w (length S) (length O) labels counts met queue) LENGTH 0
    then starts_test n S L
    then lists_test n S L
    then order_test n O

-- at rank r the row rule gives some frame over W entries
unfoldable pub full_at : ℕ → ℕ → List ℕ → List ℕ → List ℕ → ℕ → Bool
full_at n w S L O r = some (λ v. ltb w (length (row_by n S L O (suc r) v))) 0 n

-- the entry that the row rule gives v for the hub of rank r has over 4,095 joins
unfoldable pub far_frame : ℕ → List ℕ → List ℕ → List ℕ → ℕ → ℕ → Bool
far_frame n S L O r v =
    ltb (joins_to n S L (hub_of O r) v) (hubs (far 1 n) (joins_to n S L) (hub_of O) r (hub_of O r) v)
    && ltb most_joins (joins_to n S L (hub_of O r) v)

-- at rank r a frame is given over 4,095 joins
unfoldable pub far_at : ℕ → List ℕ → List ℕ → List ℕ → ℕ → Bool
far_at n S L O r = some (far_frame n S L O r) 0 n

-- at rank r one of the two is so
abbrev pub stops : ℕ → ℕ → List ℕ → List ℕ → List ℕ → ℕ → Bool
stops n w S L O r = full_at n w S L O r || far_at n S L O r

-- the lowest such rank below k, and k where there is none
unfoldable pub stop_at : ℕ → ℕ → ℕ → List ℕ → List ℕ → List ℕ → ℕ
stop_at n w k S L O = first (stops n w S L O) 0 k

-- 6 or 7, whichever walk comes to it first: ROOM at the lowest such rank, FAR at 0
unfoldable pub walks_test : ℕ → ℕ → ℕ → List ℕ → List ℕ → List ℕ → Verdict
walks_test n w k S L O =
    let r : ℕ = stop_at n w k S L O in
    let full : Bool = full_at n w S L O r in
    test (eqb r k) (cond full ROOM FAR) (cond full r 0)

-- the paper's numbers: the number of entries
unfoldable pub built_told : Built → Told
built_told (Ok entries) = gives (entries ∷ [])
built_told (Err r) = refuses r 1

-- what comes back, also in the paper's numbers, and what the lent rooms then hold
pub record BuildOutcome : Type 0 where
  pub answer : Built
  pub told : Told
  pub labels : List ℕ
  pub counts : List ℕ
  pub met : List ℕ
  pub queue : List ℕ

abbrev pub build_outcome : Built → List ℕ → List ℕ → List ℕ → List ℕ → BuildOutcome
build_outcome answer labels counts met queue =
    record {
      answer = answer;
      told = built_told answer;
      labels = labels;
      counts = counts;
      met = met;
      queue = queue;
    }

-- all walks made: the number of entries is the sum of all counts, and both work rooms are 0. A walk refused: labels,
-- counts, work rooms all 0
unfoldable pub after_walks : ℕ → ℕ → (ℕ → Row) → Verdict → BuildOutcome
after_walks n w R (Ok _) =
    build_outcome (Ok (sum (counts_of n R))) (labels_of n w R) (counts_of n R) (replicate n 0) (replicate n 0)
after_walks n w R (Err r) =
    build_outcome (Err r) (replicate (n * w) 0) (replicate n 0) (replicate n 0) (replicate n 0)

-- a test refused: every room as lent
unfoldable pub after_tests : BuildOutcome → Verdict → BuildOutcome → BuildOutcome
after_tests lent (Ok _) made = made
after_tests lent (Err r) made = build_outcome (Err r) lent.labels lent.counts lent.met lent.queue

-- the build: its tests, then the rows by the row rule at stop k
unfoldable pub build_of : ℕ → ℕ → ℕ → List ℕ → List ℕ → List ℕ → List ℕ → List ℕ → List ℕ → List ℕ → BuildOutcome
build_of n w k S L O labels counts met queue =
    let made : BuildOutcome = after_walks n w (row_by n S L O k) (walks_test n w k S L O) in
    after_tests (build_outcome (Ok 0) labels counts met queue)
    (build_tests n w k S L O (length labels) (length counts) (length met) (length queue)) made
