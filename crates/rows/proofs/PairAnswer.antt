-- The answer of the pair question is the theory's: over rows with ranks and joins below n, the best meeting has the least sum
-- of joins over the ranks below n that are in both rows.
use Rattle.refusal.specs.Tests.{fine}
use Rattle.std.specs.Prelude.{Some, None}
use Prim.Native.Nat.{ℕ, zero, suc, ◌+◌, ◌≤◌, ◌<◌, min}
use mathlib.Core.Path.{◌≡◌, refl, sym, ap, subst, ◌∙◌}
use mathlib.Core.Bool.{true, false, cond}
use mathlib.Core.List.{List, [], ◌∷◌, ◌++◌}
use native.Mathlib.Decide.{ℕ_discrete}
use native.Mathlib.Nat.{le_antisymm, one-mul}
use native.Mathlib.Omega.{arith}
use borrow.Author.Tests.{ltb-true, ltb-false, lt-ltb, le-ltb, eqb-true, eq-eqb, ne_eqb}
use lib.ListN.{length, get_or}
use lib.Dec.{eqb, ltb}
use Rattle.basics.specs.Places.{least}
use Rattle.basics.proofs.Laws.{bcase, by_cases, three_ways, cond_true, cond_false, either_false, either_true, both_true, cases, least_most, least_ge}
use Rattle.theory.specs.Chains.{Least}
use Rattle.theory.specs.Distance.{far, said}
use Rattle.theory.specs.Rows.{Row, Shared, at, answer}
use Rattle.theory.proofs.Plain.{plain_literal}
use Rattle.entry.specs.Entry.{rank_of, joins_of, decode}
use Rattle.rows.specs.Meetings.{meeting, meetings_at, meetings, goes_before, lesser_of, least_from, meeting_of, Best}
use Rattle.rows.specs.Pair.{pair_tests, pair_of, answered, said_of}
use Rattle.rows.specs.Rooms.{row_at}
use Rattle.rows.specs.declared.merge.Meeting.{Meeting}
use Rattle.entry.proofs.Laws.{in_decoded}
use Rattle.rows.proofs.PairLaws.{pair_asked, sound_whole, answer_fine}

-- ---- sums of meetings

-- the least sum of a list of meetings, at most B
lowest : ℕ → List Meeting → ℕ
lowest B [] = B
lowest B (m ∷ ms) = min m.sum (lowest B ms)

lowest_most : (B : ℕ) (ms : List Meeting) → lowest B ms ≤ B
unfolding lowest
lowest_most B [] = omega arith
lowest_most B (m ∷ ms) = omega (arith, lowest_most B ms)

lowest_append : (B : ℕ) (xs ys : List Meeting) → lowest B (xs ++ ys) ≡ min (lowest B xs) (lowest B ys)
unfolding lowest
lowest_append B [] ys = omega (arith, lowest_most B ys)
lowest_append B (m ∷ xs) ys = omega (arith, lowest_append B xs ys)

cap : (B j x : ℕ) → min B (j + x) ≡ min B (j + min B x)
cap B j x = omega arith

share : (B j k x : ℕ) → min (j + k) (min B (j + x)) ≡ min B (j + min k x)
share B j k x = omega arith

-- one entry against a row: its joins and those that the row has for its rank
lowest_at : (B e : ℕ) (b : List ℕ) → lowest B (meetings_at e b) ≡ min B (joins_of e + at B (decode b) (rank_of e))
unfolding lowest meetings_at at decode
lowest_at B e [] = omega arith
lowest_at B e (f ∷ b) =
    let rest : lowest B (meetings_at e b) ≡ min B (joins_of e + at B (decode b) (rank_of e)) = lowest_at B e b in
    let apart : (rank_of e ≡ rank_of f → ⊥) → lowest B (meetings_at e (f ∷ b)) ≡ min B (joins_of e + at B (decode (f ∷ b)) (rank_of e)) =
    λ h. rw (ne_eqb (rank_of e) (rank_of f) h, ne_eqb (rank_of f) (rank_of e) (λ q. h (sym q)))
    (rest ∙ cap B (joins_of e) (at B (decode b) (rank_of e))) in
    by_cases (ℕ_discrete (rank_of e) (rank_of f))
    (λ (q : rank_of e ≡ rank_of f).
    rw (eq-eqb (rank_of e) (rank_of f) q, eq-eqb (rank_of f) (rank_of e) (sym q))
    (ap (min (joins_of e + joins_of f)) rest ∙ share B (joins_of e) (joins_of f) (at B (decode b) (rank_of e))))
    apart

pass : (B u x y L : ℕ) → L ≤ B → min (min B x + y) (min u L) ≡ min u (min (x + y) L)
pass B u x y L h = omega arith

join : (B d x y L : ℕ) → L ≤ B → min (min d x + y) (min B L) ≡ min (min B (d + y)) (min (x + y) L)
join B d x y L h = omega arith

-- one more entry in the first row
pub least_one : (B k : ℕ) (x y : ℕ → ℕ) (p d : ℕ)
    → least B k (λ r. min (cond (eqb p r) d B) (x r) + y r)
    ≡ min (cond (ltb p k) (min B (d + y p)) B) (least B k (λ r. x r + y r))
unfolding least
least_one B zero x y p d = rw (le-ltb p 0 (omega arith)) (omega arith)
least_one B (suc k) x y p d =
    let rest : least B k (λ r. min (cond (eqb p r) d B) (x r) + y r)
    ≡ min (cond (ltb p k) (min B (d + y p)) B) (least B k (λ r. x r + y r)) = least_one B k x y p d in
    let most : least B k (λ r. x r + y r) ≤ B = least_most B k (λ r. x r + y r) in
    let L : ℕ = least B k (λ r. x r + y r) in
    three_ways p k
    (λ l.
    rw (rest, lt-ltb p k l, lt-ltb p (suc k) (omega arith), ne_eqb p k (omega arith))
    (pass B (min B (d + y p)) (x k) (y k) L most))
    (λ q.
    rw (rest, le-ltb p k (omega arith), lt-ltb p (suc k) (omega arith), eq-eqb p k q)
    (join B d (x k) (y k) L most ∙ ap (λ (m : ℕ). min (min B (d + y m)) (min (x k + y k) L)) (sym q)))
    (λ g.
    rw (rest, le-ltb p k (omega arith), le-ltb p (suc k) (omega arith), ne_eqb p k (omega arith))
    (pass B B (x k) (y k) L most))

-- the least sum over all ranks below n is the least over all meetings
lowest_answer : (B n : ℕ) (a b : List ℕ) → ((i : ℕ) → i < length a → rank_of (get_or a i 0) < n)
    → lowest B (meetings a b) ≡ answer B n (decode a) (decode b)
unfolding lowest meetings answer at decode
lowest_answer B n [] b small =
    let f : ℕ → ℕ = λ r. B + at B (decode b) r in
    let high : B ≤ least B n f = least_ge B n f B (omega arith) (λ r h. omega arith) in
    let low : least B n f ≤ B = least_most B n f in
    le_antisymm high low
lowest_answer B n (e ∷ a) b small =
    let rest = lowest_answer B n a b (λ i h. small (suc i) (omega arith)) in
    lowest_append B (meetings_at e b) (meetings a b)
    ∙ (λ i. min (lowest_at B e b i) (rest i))
    ∙ sym
    (least_one B n (λ r. at B (decode a) r) (λ r. at B (decode b) r) (rank_of e) (joins_of e)
    ∙ rw (lt-ltb (rank_of e) n (small zero (omega arith))) refl)

-- ---- the best meeting as a count

-- a best meeting whose sum is below B
data Below (B : ℕ) : Best → Type 0 where
  nowhere : Below B None
  meet : {m : Meeting} → m.sum < B → Below B (Some m)

pub data AllBelow (B : ℕ) : List Meeting → Type 0 where
  no_more : AllBelow B []
  one_more : {m : Meeting} {ms : List Meeting} → m.sum < B → AllBelow B ms → AllBelow B (m ∷ ms)

all_append : {B : ℕ} {xs ys : List Meeting} → AllBelow B xs → AllBelow B ys → AllBelow B (xs ++ ys)
all_append no_more q = q
all_append (one_more h p) q = one_more h (all_append p q)

-- sums of joins below n are below B
all_at : (B n e : ℕ) (b : List ℕ) → n + n ≤ B → joins_of e < n → ((i : ℕ) → i < length b → joins_of (get_or b i 0) < n)
    → AllBelow B (meetings_at e b)
unfolding meetings_at
all_at B n e [] h k small = no_more
all_at B n e (f ∷ b) h k small =
    let rest : AllBelow B (meetings_at e b) = all_at B n e b h k (λ i l. small (suc i) (omega arith)) in
    bcase (eqb (rank_of e) (rank_of f))
    (λ q. rw q (one_more {m = meeting e f} (omega (arith, small zero (omega arith))) rest))
    (λ q. rw q rest)

pub all_below : (B n : ℕ) (a b : List ℕ) → n + n ≤ B → ((i : ℕ) → i < length a → joins_of (get_or a i 0) < n)
    → ((i : ℕ) → i < length b → joins_of (get_or b i 0) < n) → AllBelow B (meetings a b)
unfolding meetings
all_below B n [] b h small also = no_more
all_below B n (e ∷ a) b h small also =
    all_append (all_at B n e b h (small zero (omega arith)) also)
    (all_below B n a b h (λ i l. small (suc i) (omega arith)) also)

-- the sum of a best meeting, B where there is none
value : ℕ → Best → ℕ
value B None = B
value B (Some m) = m.sum

pub before_sum : (m k : Meeting) → goes_before m k ≡ true → m.sum ≤ k.sum
unfolding goes_before
before_sum m k e =
    cases (either_true (ltb m.sum k.sum) _ e)
    (λ t. omega (arith, ltb-true m.sum k.sum t))
    (λ t.
    let p : (eqb m.sum k.sum ≡ true) × (ltb m.rank k.rank ≡ true) = both_true _ _ t in
    omega (arith, eqb-true m.sum k.sum p.0))

pub not_before_sum : (m k : Meeting) → goes_before m k ≡ false → k.sum ≤ m.sum
unfolding goes_before
not_before_sum m k e = ltb-false m.sum k.sum (either_false (ltb m.sum k.sum) _ e).0

lesser_below : {B : ℕ} {best : Best} (m : Meeting) → Below B best → m.sum < B
    → Below B (lesser_of best m) × (value B (lesser_of best m) ≡ min (value B best) m.sum)
unfolding lesser_of value
lesser_below m nowhere h = (meet h, omega arith)
lesser_below {B} m (meet {m = k} l) h =
    bcase (goes_before m k)
    (λ e. rw e (meet h, omega (arith, before_sum m k e)))
    (λ e. rw e (meet l, omega (arith, not_before_sum m k e)))

value_most : {B : ℕ} {best : Best} → Below B best → value B best ≤ B
unfolding value
value_most nowhere = omega arith
value_most (meet h) = omega arith

least_below : {B : ℕ} {best : Best} {ms : List Meeting} → Below B best → AllBelow B ms
    → Below B (least_from best ms) × (value B (least_from best ms) ≡ min (value B best) (lowest B ms))
unfolding least_from lowest
least_below {B} {best} p no_more = (p, omega (arith, value_most p))
least_below {B} {best} p (one_more {m = m} {ms = ms} h q) =
    let (small, one) = lesser_below m p h in
    let (all, rest) = least_below {best = lesser_of best m} small q in
    (all, rest ∙ ap (λ (k : ℕ). min k (lowest B ms)) one ∙ omega arith)

-- a best meeting as a count: its sum where that is below B, none where there is none
counted : {B : ℕ} {best : Best} → Below B best → said_of (answered fine best) ≡ said B (value B best)
unfolding said_of answered said value
counted {B} nowhere = sym (cond_false _ _ (le-ltb B B (omega arith)))
counted {B} (meet {m = m} h) = sym (cond_true _ _ (lt-ltb m.sum B h))

from_nowhere : (B : ℕ) (ms : List Meeting) → min (value B None) (lowest B ms) ≡ lowest B ms
unfolding value
from_nowhere B ms = omega (arith, lowest_most B ms)

-- two rows of ranks and joins below n meet best where the theory's answer is
pub best_answer : (B n : ℕ) (a b : List ℕ) → n + n ≤ B → ((i : ℕ) → i < length a → rank_of (get_or a i 0) < n)
    → ((i : ℕ) → i < length a → joins_of (get_or a i 0) < n) → ((i : ℕ) → i < length b → joins_of (get_or b i 0) < n)
    → said_of (answered fine (meeting_of a b)) ≡ said B (answer B n (decode a) (decode b))
unfolding meeting_of
best_answer B n a b h ranks small also =
    let (all, least) = least_below {B = B} {best = None} nowhere (all_below B n a b h small also) in
    counted all ∙ ap (said B) (least ∙ from_nowhere B (meetings a b) ∙ lowest_answer B n a b ranks)

two_fit : (n : ℕ) → n + n ≤ far 1 n
unfolding far
two_fit n = omega (arith, one-mul n)

-- a pair question that is not refused gives the theory's answer of the two rows
pub pair_answer : (n w : ℕ) (labels counts : List ℕ) (s t : ℕ) → pair_tests n w labels counts s t ≡ fine
    → said_of (pair_of n w labels counts s t)
    ≡ said (far 1 n) (answer (far 1 n) n (decode (row_at w labels counts s)) (decode (row_at w labels counts t)))
pair_answer n w labels counts s t e =
    let asked = pair_asked n w labels counts s t e in
    let one = sound_whole asked.rooms asked.first asked.first_sound in
    let two = sound_whole asked.rooms asked.second asked.second_sound in
    ap said_of (answer_fine n w labels counts s t e refl)
    ∙ best_answer (far 1 n) n (row_at w labels counts s) (row_at w labels counts t) (two_fit n)
    one.rank one.joins two.joins

-- ---- in the paper's words

-- the answer for (s,t): the least sum of joins over ranks found in both rows; "none" if no rank is shared
pub pair_literal : (n w : ℕ) (labels counts : List ℕ) (s t : ℕ) → pair_tests n w labels counts s t ≡ fine
    → Least (Shared (decode (row_at w labels counts s)) (decode (row_at w labels counts t)))
    (said_of (pair_of n w labels counts s t))
pair_literal n w labels counts s t e =
    let asked = pair_asked n w labels counts s t e in
    let one = sound_whole asked.rooms asked.first asked.first_sound in
    let two = sound_whole asked.rooms asked.second asked.second_sound in
    let x : Row = decode (row_at w labels counts s) in
    let y : Row = decode (row_at w labels counts t) in
    subst (Least (Shared x y)) (sym (pair_answer n w labels counts s t e))
    (plain_literal n x y
    (λ r m h.
    let (i, b, p, q) = in_decoded (row_at w labels counts s) r m h in
    (omega (arith, one.rank i b), omega (arith, one.joins i b)))
    (λ r m h.
    let (i, b, p, q) = in_decoded (row_at w labels counts t) r m h in
    omega (arith, two.joins i b)))
