-- Entries that break the rule behind the one before them: one of them as a number, how many there are, and what a row is that
-- has none.
use Prim.Native.Nat.{ℕ, zero, suc, ◌+◌, ◌-◌, ◌≤◌, ◌<◌}
use mathlib.Core.Path.{◌≡◌, sym, ap, subst, ◌∙◌}
use mathlib.Core.Bool.{Bool, true, false, not, cond}
use mathlib.Core.List.{List}
use native.Mathlib.Nat.{add-sub_cancel}
use native.Mathlib.Numerals.{add-one}
use native.Mathlib.Omega.{arith}
use borrow.Author.Tests.{leb-true, leb-false}
use lib.ListN.{length, get_or}
use lib.Dec.{leb}
use Rattle.basics.specs.Places.{count, some}
use Rattle.basics.proofs.Laws.{bcase, cases, either_true, either_false, count_hit, count_miss, none_counted, some_counted, some_found, some_one, some_none, never_falls, not_of_true, not_of_false}
use Rattle.entry.specs.Entry.{rank_of, joins_of}
use Rattle.rows.specs.Rooms.{faulty_entry}
use Rattle.rows.specs.Inner.{breaks, broken_at}
use Rattle.rows.proofs.Laws.{faultless, faulty_joins, faulty_rise}

-- ---- a row

-- one more entry counted
faults_more : (n : ℕ) (row : List ℕ) (at : ℕ) → count (broken_at n row) at + cond (breaks n (get_or row at 0) (get_or row (at + 1) 0)) 1 0 ≡ count (broken_at n row) (at + 1)
faults_more n row at =
    let p : ℕ → Bool = broken_at n row in
    bcase (broken_at n row at)
    (λ q. rw q (omega (arith, ap (count p) (add-one at), count_hit p at q)))
    (λ q. rw q (omega (arith, ap (count p) (add-one at), count_miss p at q)))

-- as a loop over the entries behind another goes
pub faults_next : (n : ℕ) (row : List ℕ) (at : ℕ) → 1 ≤ at
    → count (broken_at n row) (at - 1) + cond (breaks n (get_or row (at - 1) 0) (get_or row at 0)) 1 0 ≡ count (broken_at n row) (at + 1 - 1)
faults_next n row at h =
    let e : at - 1 + 1 ≡ at = omega arith in
    let f : at + 1 - 1 ≡ at = omega arith in
    ap (λ (k : ℕ). count (broken_at n row) (at - 1) + cond (breaks n (get_or row (at - 1) 0) (get_or row k 0)) 1 0) (sym e)
    ∙ faults_more n row (at - 1)
    ∙ ap (count (broken_at n row)) (e ∙ sym f)

-- one faulty entry and the row is not sound
pub part_refused : (n bound : ℕ) (row : List ℕ) (i : ℕ) → i < length row → faulty_entry n bound row i ≡ true
    → false ≡ not (some (faulty_entry n bound row) 0 (length row))
part_refused n bound row i h e = sym (not_of_true (some_one (faulty_entry n bound row) 0 (length row) i (omega arith) (omega arith) e))

-- an entry that breaks the rule behind the one before it is faulty under any bound
pub part_broken : (n bound : ℕ) (row : List ℕ) → 0 < count (broken_at n row) (length row - 1)
    → false ≡ not (some (faulty_entry n bound row) 0 (length row))
unfolding breaks
part_broken n bound row h =
    let (i, low, high, e) = some_found (broken_at n row) 0 (length row - 1) (some_counted (broken_at n row) (length row - 1) h) in
    part_refused n bound row (i + 1) (omega arith)
    (cases (either_true (leb (rank_of (get_or row (i + 1) 0)) (rank_of (get_or row i 0))) _ e)
    (λ q. faulty_rise n bound row (i + 1) (omega arith) (rw add-sub_cancel (leb-true _ _ q)))
    (λ q. faulty_joins n bound row (i + 1) (leb-true _ _ q)))

-- joins below n and a rank above the one before, from those of the first entry and of each behind another
Kept : ℕ → List ℕ → ℕ → Type 0
Kept n row i = (joins_of (get_or row i 0) < n) × (0 < i → rank_of (get_or row (i - 1) 0) < rank_of (get_or row i 0))

kept_all : (n : ℕ) (row : List ℕ) → joins_of (get_or row 0 0) < n
    → ((i : ℕ) → i < length row - 1 → (rank_of (get_or row i 0) < rank_of (get_or row (i + 1) 0)) × (joins_of (get_or row (i + 1) 0) < n))
    → (i : ℕ) → i < length row → Kept n row i
unfolding Kept
kept_all n row low next zero h = (low, λ p. absurd (omega arith))
kept_all n row low next (suc i) h =
    let (rise, joins) = next i (omega arith) in
    subst (Kept n row) (add-one i) (joins, λ p. rw add-sub_cancel rise)

-- no such entry, the first entry's joins below n and the last rank below the bound: then no entry is faulty
pub part_whole : (n bound : ℕ) (row : List ℕ) → joins_of (get_or row 0 0) < n
    → count (broken_at n row) (length row - 1) ≡ 0 → rank_of (get_or row (length row - 1) 0) < bound
    → true ≡ not (some (faulty_entry n bound row) 0 (length row))
unfolding breaks Kept
part_whole n bound row low none last =
    let next : (i : ℕ) → i < length row - 1 → (rank_of (get_or row i 0) < rank_of (get_or row (i + 1) 0)) × (joins_of (get_or row (i + 1) 0) < n) =
    λ i h.
    let (p, q) = either_false (leb (rank_of (get_or row (i + 1) 0)) (rank_of (get_or row i 0))) _ (none_counted (broken_at n row) (length row - 1) none i h) in
    (leb-false _ _ p, leb-false _ _ q) in
    let rank : ℕ → ℕ = λ j. rank_of (get_or row j 0) in
    sym
    (not_of_false
    (some_none (faulty_entry n bound row) 0 (length row)
    (λ i p q.
    let (joins, rise) = kept_all n row low next i (omega arith) in
    faultless n bound row i
    (omega (arith, never_falls rank (length row - 1) (λ j h. omega (arith, (next j h).0)) i (length row - 1) (omega arith) (omega arith)))
    joins rise)))
