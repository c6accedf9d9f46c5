-- The hub's row noted by rank, and taken out again: the notes are the row's joins by rank, and forgetting brings the table
-- back to 65,536 throughout.
use Prim.Native.Nat.{ℕ, suc, ◌+◌, ◌≤◌, ◌<◌, min}
use mathlib.Core.Path.{◌≡◌, refl, sym, ◌∙◌}
use mathlib.Core.Logic.{◌⊎◌, inl, inr}
use mathlib.Core.Bool.{Bool, true, false, ◌||◌}
use mathlib.Core.List.{List, [], ◌∷◌}
use native.Mathlib.Numerals.{add-one}
use native.Mathlib.Omega.{arith}
use native.Mathlib.Decide.{ℕ_discrete}
use lib.ListN.{length, get_or, set, drop, replicate, length-set, length-replicate, get_or-replicate}
use lib.Dec.{eqb}
use lib.Seq.{drop-cons, ext_get_or, get_or-set_same, get_or-set_other}
use borrow.Author.Tests.{eq-eqb, ne_eqb, eqb-true, eqb-false}
use Rattle.basics.proofs.Laws.{bcase, by_cases, cases, not_both, cond_true, cond_false, either_true, either_false, neither}
use Rattle.theory.specs.Rows.{at}
use Rattle.entry.specs.Entry.{rank_of, joins_of, decode}
use Rattle.walk.specs.Inner.{noted_by}

-- one turn of the loop
note_on : (note : ℕ → ℕ) (row noted : List ℕ) (i : ℕ) → i < length row
    → noted_by note (drop i row) noted
    ≡ noted_by note (drop (i + 1) row) (set noted (rank_of (get_or row i 0)) (note (get_or row i 0)))
unfolding noted_by
note_on note row noted i h = rw (add-one i, drop-cons row i 0 h)

pub note_long : (note : ℕ → ℕ) (row noted : List ℕ) → length (noted_by note row noted) ≡ length noted
unfolding noted_by
note_long note [] noted = refl
note_long note (e ∷ es) noted = note_long note es (set noted (rank_of e) (note e)) ∙ length-set noted (rank_of e) (note e)

pub note_turn : (note : ℕ → ℕ) (row lent noted : List ℕ) {i rank joins : ℕ} → i < length row
    → (length noted ≡ length lent) × (noted_by note (drop i row) noted ≡ noted_by note row lent)
    → rank ≡ rank_of (get_or row i 0) → joins ≡ note (get_or row i 0)
    → (length (set noted rank joins) ≡ length lent) × (noted_by note (drop (i + 1) row) (set noted rank joins) ≡ noted_by note row lent)
note_turn note row lent noted {i} {rank} {joins} h was is told =
    (length-set noted rank joins ∙ was.0, rw (is, told) (sym (note_on note row noted i h) ∙ was.1))

-- ---- which ranks a row has

unfoldable has_rank : List ℕ → ℕ → Bool
has_rank [] r = false
has_rank (e ∷ es) r = eqb (rank_of e) r || has_rank es r

-- a rank that the row lacks keeps its note
note_other : (row noted : List ℕ) (r : ℕ) → has_rank row r ≡ false → get_or (noted_by joins_of row noted) r 0 ≡ get_or noted r 0
unfolding noted_by has_rank
note_other [] noted r h = refl
note_other (e ∷ es) noted r h =
    let (one, rest) = either_false (eqb (rank_of e) r) (has_rank es r) h in
    note_other es (set noted (rank_of e) (joins_of e)) r rest
    ∙ get_or-set_other noted (rank_of e) r (joins_of e) 0 (λ q. eqb-false (rank_of e) r one (sym q))

-- where each rank has 65,536 or stands in the row, forgetting leaves 65,536
forget_all : (row noted : List ℕ) (r : ℕ) → r < length noted → (get_or noted r 0 ≡ 65536) ⊎ (has_rank row r ≡ true)
    → get_or (noted_by (λ _. 65536) row noted) r 0 ≡ 65536
unfolding noted_by has_rank
forget_all [] noted r h was = cases was (λ e. e) (λ e. not_both e refl)
forget_all (e ∷ es) noted r h was =
    forget_all es (set noted (rank_of e) 65536) r (omega (arith, length-set noted (rank_of e) 65536))
    (by_cases (ℕ_discrete r (rank_of e))
    (λ (q : r ≡ rank_of e).
    inl (rw (← q) (get_or-set_same noted r 65536 0 h)))
    (λ q.
    cases was
    (λ same. inl (get_or-set_other noted (rank_of e) r 65536 0 q ∙ same))
    (λ has.
    cases (either_true (eqb (rank_of e) r) (has_rank es r) has)
    (λ one. absurd (q (sym (eqb-true (rank_of e) r one))))
    (λ rest. inr rest))))

-- noting a row and forgetting it brings the table back
pub note_forget : (row : List ℕ) (m : ℕ) → noted_by (λ _. 65536) row (noted_by joins_of row (replicate m 65536)) ≡ replicate m 65536
note_forget row m =
    let far : List ℕ = replicate m 65536 in
    let noted : List ℕ = noted_by joins_of row far in
    ext_get_or 0 (noted_by (λ _. 65536) row noted) far (note_long (λ _. 65536) row noted ∙ note_long joins_of row far)
    (λ r h.
    let inside : r < m = omega (arith, note_long (λ _. 65536) row noted, note_long joins_of row far, length-replicate {A = ℕ} m 65536) in
    let given : get_or far r 0 ≡ 65536 = get_or-replicate m r 65536 0 inside in
    forget_all row noted r (omega (arith, note_long (λ _. 65536) row noted))
    (bcase (has_rank row r) inr (λ out. inl (note_other row far r out ∙ given)))
    ∙ sym given)

-- ---- the notes are the row's joins by rank

lacking : (B : ℕ) (row : List ℕ) (r : ℕ) → has_rank row r ≡ false → at B (decode row) r ≡ B
unfolding at decode has_rank
lacking B [] r h = refl
lacking B (e ∷ es) r h =
    let (one, rest) = either_false (eqb (rank_of e) r) (has_rank es r) h in
    omega (arith, cond_false (joins_of e) B one, lacking B es r rest)

-- a row whose ranks are all above r lacks r
above : (row : List ℕ) (r : ℕ) → ((i : ℕ) → i < length row → r < rank_of (get_or row i 0)) → has_rank row r ≡ false
unfolding has_rank
above [] r up = refl
above (e ∷ es) r up =
    neither (eqb (rank_of e) r) (has_rank es r)
    (ne_eqb (rank_of e) r (λ q. omega (arith, up 0 (omega arith))))
    (above es r (λ i h. up (suc i) (omega arith)))

-- of a row with rising ranks, over a table that has 65,536 for the rank
pub notes_at : (B : ℕ) (row noted : List ℕ) (r : ℕ) → B ≤ 65536 → r < length noted → get_or noted r 0 ≡ 65536
    → ((i j : ℕ) → i < j → j < length row → rank_of (get_or row i 0) < rank_of (get_or row j 0))
    → at B (decode row) r ≡ min B (get_or (noted_by joins_of row noted) r 0)
unfolding noted_by at decode
notes_at B [] noted r b h far up = omega arith
notes_at B (e ∷ es) noted r b h far up =
    let next : List ℕ = set noted (rank_of e) (joins_of e) in
    let long : length next ≡ length noted = length-set noted (rank_of e) (joins_of e) in
    by_cases (ℕ_discrete (rank_of e) r)
    (λ (q : rank_of e ≡ r).
    let out : has_rank es r ≡ false = above es r (λ i l. omega (arith, up 0 (suc i) (omega arith) (omega arith))) in
    let here : get_or next r 0 ≡ joins_of e = rw q (get_or-set_same noted r (joins_of e) 0 h) in
    omega (
      arith,
      cond_true (joins_of e) B (eq-eqb (rank_of e) r q),
      lacking B es r out,
      note_other es next r out,
    ))
    (λ q.
    let here : get_or next r 0 ≡ 65536 = get_or-set_other noted (rank_of e) r (joins_of e) 0 (λ s. q (sym s)) ∙ far in
    let rest = notes_at B es next r b (omega arith) here (λ i j l k. up (suc i) (suc j) (omega arith) (omega arith)) in
    omega (arith, cond_false (joins_of e) B (ne_eqb (rank_of e) r q)))
