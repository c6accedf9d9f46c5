-- The laws of a table of joins by rank: what a row noted leaves in it, and that a row read against it finds the least sum over
-- the ranks. From this the pair question's answer for two sound rows, and what functions on such rows ask of each other.
use Prim.Native.Nat.{ℕ, zero, suc, ◌+◌, ◌≤◌, ◌<◌, min}
use mathlib.Core.Path.{◌≡◌, refl, sym, ap, ◌∙◌}
use mathlib.Core.Bool.{true}
use mathlib.Core.List.{List, [], ◌∷◌}
use native.Mathlib.Decide.{ℕ_discrete}
use native.Mathlib.Nat.{le_antisymm}
use native.Mathlib.Numerals.{add-one}
use native.Mathlib.Omega.{arith}
use borrow.Author.Tests.{lt-ltb, eq-eqb, ne_eqb, ltb-false}
use lib.ListN.{length, get_or, set, drop, replicate, length-set, length-replicate, get_or-replicate, drop_of_length-le}
use lib.Dec.{ltb}
use lib.Seq.{drop-cons, get_or-set_same, get_or-set_other}
use Rattle.basics.specs.Places.{least}
use Rattle.basics.proofs.Laws.{bcase, by_cases, cond_true, cond_false, least_most, least_ge, set_own}
use Rattle.theory.specs.Distance.{said}
use Rattle.theory.specs.Rows.{at, answer}
use Rattle.entry.specs.Entry.{rank_of, joins_of, decode}
use Rattle.rows.specs.Inner.{Rooms}
use Rattle.rows.specs.Rooms.{part_of, row_at, sound_row}
use Rattle.rows.proofs.Laws.{row_sound, in_room_lem}
use Rattle.rows.proofs.RoomLaws.{row_lies}
use Rattle.rows.proofs.PairAnswer.{least_one, best_answer}
use Rattle.rows.proofs.PairLaws.{sound_whole}
use Rattle.targets.specs.Inner.{noted_in, reach_of, NotedLow, RowKnown}
use Rattle.targets.specs.Targets.{apart, joins_to, number_said}

-- ---- a row noted

-- one entry noted
abbrev with_entry : List ℕ → ℕ → List ℕ
with_entry noted e = set noted (rank_of e) (min (joins_of e) (get_or noted (rank_of e) 0))

entry_long : (noted : List ℕ) (e : ℕ) → length (with_entry noted e) ≡ length noted
entry_long noted e = length-set noted (rank_of e) (min (joins_of e) (get_or noted (rank_of e) 0))

-- one turn of the loop
pub note_turn : (row noted : List ℕ) (i : ℕ) {next whole : List ℕ} {k : ℕ} → i < length row → length noted ≡ k
    → noted_in (drop i row) noted ≡ whole → next ≡ with_entry noted (get_or row i 0)
    → (length next ≡ k) × (noted_in (drop (i + 1) row) next ≡ whole)
unfolding noted_in
note_turn row noted i {next} {whole} h long same e =
    let on : noted_in (drop (i + 1) row) (with_entry noted (get_or row i 0)) ≡ noted_in (drop i row) noted =
    rw (add-one i, drop-cons row i 0 h) refl in
    (ap length e ∙ entry_long noted (get_or row i 0) ∙ long, ap (noted_in (drop (i + 1) row)) e ∙ on ∙ same)

-- fewer joins than stand there are stored, others are not
module _ (noted : List ℕ) {rank joins : ℕ} (e : ℕ) (p : rank ≡ rank_of e) (q : joins ≡ joins_of e) where
  pub note_less : joins < get_or noted rank 0 → set noted rank joins ≡ with_entry noted e
  note_less h =
      let least : joins ≡ min joins (get_or noted rank 0) = omega arith in
      ap (set noted rank) least ∙ (λ i. set noted (p i) (min (q i) (get_or noted (p i) 0)))

  pub note_kept : get_or noted rank 0 ≤ joins → noted ≡ with_entry noted e
  note_kept h =
      let least : get_or noted rank 0 ≡ min joins (get_or noted rank 0) = omega arith in
      sym (set_own noted rank) ∙ ap (set noted rank) least ∙ (λ i. set noted (p i) (min (q i) (get_or noted (p i) 0)))

pub noted_long : (row noted : List ℕ) → length (noted_in row noted) ≡ length noted
unfolding noted_in
noted_long [] noted = refl
noted_long (e ∷ es) noted =
    noted_long es (with_entry noted e) ∙ entry_long noted e

-- each rank has the lesser of the row's joins and what stood there
pub noted_at : (row noted : List ℕ) (r : ℕ) → r < length noted → get_or noted r 0 ≤ apart
    → get_or (noted_in row noted) r 0 ≡ min (at apart (decode row) r) (get_or noted r 0)
unfolding noted_in at decode
noted_at [] noted r h low = omega arith
noted_at (e ∷ es) noted r h low =
    let stored : ℕ = min (joins_of e) (get_or noted (rank_of e) 0) in
    let next : List ℕ = with_entry noted e in
    let long : length next ≡ length noted = entry_long noted e in
    by_cases (ℕ_discrete (rank_of e) r)
    (λ (q : rank_of e ≡ r).
    let here : get_or next r 0 ≡ min (joins_of e) (get_or noted r 0) =
    ap (λ (k : ℕ). get_or (set noted k (min (joins_of e) (get_or noted k 0))) r 0) q ∙ get_or-set_same noted r _ 0 h in
    let rest : get_or (noted_in es next) r 0 ≡ min (at apart (decode es) r) (get_or next r 0) =
    noted_at es next r (omega arith) (omega arith) in
    omega (arith, cond_true (joins_of e) apart (eq-eqb (rank_of e) r q)))
    (λ q.
    let here : get_or next r 0 ≡ get_or noted r 0 = get_or-set_other noted (rank_of e) r stored 0 (λ s. q (sym s)) in
    let rest : get_or (noted_in es next) r 0 ≡ min (at apart (decode es) r) (get_or next r 0) =
    noted_at es next r (omega arith) (omega arith) in
    omega (arith, cond_false (joins_of e) apart (ne_eqb (rank_of e) r q)))

pub noted_low : (row : List ℕ) {noted : List ℕ} → NotedLow noted → NotedLow (noted_in row noted)
noted_low row {noted} low = record {
  most = λ r h.
      let inside : r < length noted = omega (arith, noted_long row noted) in
      omega (arith, noted_at row noted r inside (low.most r inside), low.most r inside);
}

-- a table that has noted nothing
pub blank_at : (r : ℕ) → r < 4096 → get_or (replicate 4096 apart) r 0 ≡ apart
blank_at r h = get_or-replicate 4096 r apart 0 h

pub blank_low : NotedLow (replicate 4096 apart)
blank_low = record {
  most = λ r h. omega (arith, blank_at r (omega (arith, length-replicate {A = ℕ} 4096 apart)));
}

-- ---- a row read against the table

pub reach_most : (noted row : List ℕ) → reach_of noted row ≤ apart
unfolding reach_of
reach_most noted [] = omega arith
reach_most noted (e ∷ es) = omega (arith, reach_most noted es)

-- one turn of the loop, and its end
pub reach_on : (noted row : List ℕ) (i : ℕ) → i < length row
    → reach_of noted (drop i row)
    ≡ min (joins_of (get_or row i 0) + get_or noted (rank_of (get_or row i 0)) 0) (reach_of noted (drop (i + 1) row))
unfolding reach_of
reach_on noted row i h = rw (add-one i, drop-cons row i 0 h) refl

pub reach_over : (noted row : List ℕ) (i : ℕ) → length row ≤ i → reach_of noted (drop i row) ≡ apart
unfolding reach_of
reach_over noted row i h = ap (reach_of noted) (drop_of_length-le row {i = i} h)

-- the least sum over the ranks below n, for a table that has t for them
pub reach_least : (n : ℕ) (noted row : List ℕ) (t : ℕ → ℕ) → ((r : ℕ) → r < n → get_or noted r 0 ≡ t r)
    → ((i : ℕ) → i < length row → rank_of (get_or row i 0) < n)
    → reach_of noted row ≡ least apart n (λ r. at apart (decode row) r + t r)
unfolding reach_of at decode
reach_least n noted [] t same small =
    let f : ℕ → ℕ = λ r. apart + t r in
    le_antisymm (least_ge apart n f apart (omega arith) (λ r h. omega arith)) (least_most apart n f)
reach_least n noted (e ∷ es) t same small =
    let inside : rank_of e < n = small zero (omega arith) in
    let others : ℕ → ℕ = λ r. at apart (decode es) r + t r in
    let rest : reach_of noted es ≡ least apart n others =
    reach_least n noted es t same (λ i h. small (suc i) (omega arith)) in
    let one = least_one apart n (λ r. at apart (decode es) r) t (rank_of e) (joins_of e) in
    omega
    (arith, same (rank_of e) inside, rest, least_most apart n others)
    ∙ sym (one ∙ ap (λ (k : ℕ). min k (least apart n others)) (cond_true (min apart (joins_of e + t (rank_of e))) apart (lt-ltb (rank_of e) n inside)))

-- ---- the pair question's answer as a number

number_said_lem : (m : ℕ) → m ≤ apart → number_said (said apart m) ≡ m
unfolding number_said said
number_said_lem m h =
    bcase (ltb m apart)
    (λ e. rw e refl)
    (λ e. rw e (omega (arith, ltb-false m apart e)))

-- the joins from a frame to a record, both rows sound: the least sum over the ranks
pub joins_answer : {n w : ℕ} {labels counts : List ℕ} → Rooms n w labels counts → (fs : List ℕ) (v i : ℕ) → v < n
    → get_or fs i 0 < n → sound_row n w n labels counts v ≡ true → sound_row n w n labels counts (get_or fs i 0) ≡ true
    → joins_to w labels counts fs v i
    ≡ answer apart n (decode (row_at w labels counts v)) (decode (row_at w labels counts (get_or fs i 0)))
unfolding joins_to answer
joins_answer {n} {w} {labels} {counts} rooms fs v i h k sound other =
    let one = sound_whole rooms h sound in
    let two = sound_whole rooms k other in
    let a : List ℕ = row_at w labels counts v in
    let b : List ℕ = row_at w labels counts (get_or fs i 0) in
    ap number_said
    (best_answer apart n a b (omega (arith, rooms.sizes.frames)) one.rank one.joins two.joins)
    ∙ number_said_lem _ (least_most apart n (λ r. at apart (decode a) r + at apart (decode b) r))

-- ---- rows behind fine tests

-- a sound row is known to a table of 4,096 places
pub row_known : {n w : ℕ} {labels counts : List ℕ} {v : ℕ} (noted : List ℕ) → Rooms n w labels counts → v < n
    → sound_row n w n labels counts v ≡ true → length noted ≡ 4096 → RowKnown w labels counts noted v
row_known {n} {w} {labels} {counts} {v} noted rooms h sound long =
    let whole = sound_whole rooms h sound in
    record {
      wide = rooms.sizes.width;
      frame = omega (arith, rooms.sizes.frames);
      row = row_lies rooms v h (row_sound n w n labels counts v sound).0;
      ranks = record { low = λ i l. omega (arith, whole.rank i l, rooms.sizes.frames) };
    }

-- a known row's part of the label room is the row
pub part_known : {w : ℕ} {labels counts noted : List ℕ} {v : ℕ} → RowKnown w labels counts noted v
    → part_of w labels v (get_or counts v 0) ≡ row_at w labels counts v
unfolding part_of row_at
part_known {w} {labels} {counts} {noted} {v} k =
    cond_true _ _ (in_room_lem w labels v (get_or counts v 0) k.frame k.wide k.row.lies)
