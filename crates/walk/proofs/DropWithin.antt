-- The drop test of a frame: it holds exactly if the answer for the hub and the frame is at most the level.
use Prim.Native.Nat.{ℕ, ◌+◌, ◌≤◌, ◌<◌, min}
use mathlib.Core.Path.{◌≡◌, ap, ◌∙◌}
use mathlib.Core.Bool.{Bool, true, false}
use mathlib.Core.List.{List}
use native.Mathlib.Omega.{arith}
use lib.ListN.{length, get_or}
use lib.Dec.{leb}
use Rattle.std.proofs.lemmas.List.{get_or_default}
use Rattle.std.proofs.lemmas.List.Elements.{All-from_get_or}
use Rattle.std.proofs.lemmas.List.Folds.{Any-from_list_any, list_any_at, list_any_none}
use Rattle.std.specs.List.{list_any}
use borrow.Author.Tests.{le-leb, leb-true}
use Rattle.basics.specs.Places.{least}
use Rattle.basics.proofs.Laws.{same_truth, least_le, least_found}
use Rattle.theory.specs.Rows.{Row, at, answer}
use Rattle.theory.proofs.Rule.{place_in}
use Rattle.theory.proofs.Answer.{at_le, at_in}
use Rattle.entry.specs.Entry.{rank_of, joins_of, decode}
use Rattle.entry.proofs.Laws.{length_decode, get_d_decode, in_decoded}
use Rattle.walk.specs.Inner.{entry_within, row_within}

-- an entry of the rank bounds them
at_entry : (B : ℕ) (row : List ℕ) (i : ℕ) → i < length row → at B (decode row) (rank_of (get_or row i 0)) ≤ joins_of (get_or row i 0)
at_entry B row i h =
    at_le B (decode row) (rw (get_d_decode row i h) at (place_in (decode row) i (omega (arith, length_decode row))))

-- the notes say what the hub's row has for a rank, as far as it matters below B
abbrev pub Notes : ℕ → ℕ → Row → List ℕ → Type 0
Notes B n own noted = (r : ℕ) → r < n → at B own r ≡ min B (get_or noted r 0)

-- an entry that passes a test, where some entry does
any_found : (p : ℕ → Bool) (row : List ℕ) → list_any p row ≡ true → (i : ℕ) × (i < length row) × (p (get_or row i 0) ≡ true)
any_found p row t =
    let (i, e, h, is, holds) = Any-from_list_any p row t in
    (i, h, ap p (get_or_default row i 0 e h ∙ is) ∙ holds)

-- the drop test is the answer's comparison with the level
pub within_answer : (B n : ℕ) (own : Row) (noted row : List ℕ) (level : ℕ) → Notes B n own noted
    → ((i : ℕ) → i < length row → rank_of (get_or row i 0) < n) → level < B
    → row_within noted row level ≡ leb (answer B n own (decode row)) level
unfolding row_within answer
within_answer B n own noted row level notes low small =
    let sums : ℕ → ℕ = λ r. at B own r + at B (decode row) r in
    same_truth _ _
    (λ t.
    let (i, h, e) = any_found (entry_within noted level) row t in
    let r : ℕ = rank_of (get_or row i 0) in
    let sum = leb-true _ level e in
    let b : r < n = low i h in
    le-leb (least B n sums) level (omega (arith, least_le B n sums r b, notes r b, at_entry B row i h)))
    (λ t.
    let low : least B n sums ≤ level = leb-true (least B n sums) level t in
    let (r, b, e) = least_found B n sums (omega arith) in
    let (i, h, q, j) = in_decoded row r _ (at_in B (decode row) r (omega arith)) in
    let same : get_or noted (rank_of (get_or row i 0)) 0 ≡ get_or noted r 0 = ap (λ (k : ℕ). get_or noted k 0) q in
    list_any_at (entry_within noted level) row i 0 h
    (le-leb (joins_of (get_or row i 0) + get_or noted (rank_of (get_or row i 0)) 0) level (omega (arith, notes r b))))

-- an entry within the level is a yes; where none is, it is a no
pub near_hit : (noted row : List ℕ) (level : ℕ) {i rank joins : ℕ} → i < length row → rank ≡ rank_of (get_or row i 0)
    → joins ≡ joins_of (get_or row i 0) → joins + get_or noted rank 0 ≤ level → row_within noted row level ≡ true
unfolding row_within
near_hit noted row level {i} h is has low =
    list_any_at (entry_within noted level) row i 0 h (le-leb _ level (rw (← is, ← has) low))

pub near_none : (noted row : List ℕ) (level : ℕ)
    → ((i : ℕ) → i < length row → entry_within noted level (get_or row i 0) ≡ false) → row_within noted row level ≡ false
unfolding row_within
near_none noted row level none =
    list_any_none (entry_within noted level) row (All-from_get_or (λ e. entry_within noted level e ≡ false) row 0 none)
