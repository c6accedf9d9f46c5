-- The laws of meetings along two rising rows: what one turn of the merge passes over, what it takes, and what it keeps.
use Rattle.std.specs.Prelude.{Some, None}
use Prim.Native.Nat.{ℕ, zero, suc, ◌+◌, ◌-◌, ◌≤◌, ◌<◌}
use mathlib.Core.Path.{◌≡◌, refl, sym, ap, ◌∙◌}
use Rattle.std.specs.Bool.{then_some}
use mathlib.Core.Bool.{Bool}
use mathlib.Core.List.{List, [], ◌∷◌, ◌++◌}
use mathlib.Core.Logic.{◌⊎◌}
use native.Mathlib.Nat.{add-zero}
use native.Mathlib.Numerals.{add-one}
use native.Mathlib.Omega.{arith}
use borrow.Author.Tests.{lt-ltb, le-ltb, le-leb, lt-leb, eq-eqb, ne_eqb}
use lib.ListN.{length, get_or, drop, length-drop}
use lib.Dec.{eqb, ltb}
use lib.Seq.{drop-cons, drop-length, get_or-drop}
use Rattle.basics.proofs.Laws.{bcase, lt_or_ge, three_ways, cond_true, cond_false, either_left, cases, never_falls}
use Rattle.entry.specs.Entry.{rank_of, joins_of}
use Rattle.rows.specs.Inner.{Rises, no_sum, at_rank, past_by, lesser_by, turned, turn_of}
use Rattle.rows.specs.Meetings.{meeting, meetings_at, meetings, goes_before, lesser_of, least_from, meeting_of, Best}
use Rattle.rows.specs.declared.merge.Meeting.{Meeting}
use Rattle.rows.specs.declared.merge.Turn.{Turn}
use Rattle.entry.proofs.Laws.{joins_small}

-- every rank of the list is above r
abbrev Above : ℕ → List ℕ → Type 0
Above r row = (i : ℕ) → i < length row → r < rank_of (get_or row i 0)

-- ---- lists, taken apart at the front

alone : (e : ℕ) (b : List ℕ) → Above (rank_of e) b → meetings_at e b ≡ []
unfolding meetings_at
alone e [] h = refl
alone e (f ∷ b) h =
    cond_false _ _ (ne_eqb (rank_of e) (rank_of f) (λ p. omega (arith, h zero (omega arith))))
    ∙ alone e b (λ i k. h (suc i) (omega arith))

pass_left : (e : ℕ) (a b : List ℕ) → Above (rank_of e) b → meetings (e ∷ a) b ≡ meetings a b
unfolding meetings
pass_left e a b h = ap (λ (l : List Meeting). l ++ meetings a b) (alone e b h)

pass_right : (a : List ℕ) (f : ℕ) (b : List ℕ) → Above (rank_of f) a → meetings a (f ∷ b) ≡ meetings a b
unfolding meetings meetings_at
pass_right [] f b h = refl
pass_right (e ∷ a) f b h =
    let one : meetings_at e (f ∷ b) ≡ meetings_at e b =
    cond_false _ _ (ne_eqb (rank_of e) (rank_of f) (λ p. omega (arith, h zero (omega arith)))) in
    let rest : meetings a (f ∷ b) ≡ meetings a b = pass_right a f b (λ i k. h (suc i) (omega arith)) in
    λ i. one i ++ rest i

take_both : (e f : ℕ) (a b : List ℕ) → rank_of e ≡ rank_of f → Above (rank_of e) b → Above (rank_of f) a
    → meetings (e ∷ a) (f ∷ b) ≡ meeting e f ∷ meetings a b
unfolding meetings meetings_at
take_both e f a b p h k =
    let one : meetings_at e (f ∷ b) ≡ meeting e f ∷ [] =
    cond_true _ _ (eq-eqb (rank_of e) (rank_of f) p) ∙ ap (λ (l : List Meeting). meeting e f ∷ l) (alone e b h) in
    let rest : meetings a (f ∷ b) ≡ meetings a b = pass_right a f b k in
    λ i. one i ++ rest i

pub none_left : (b : List ℕ) → meetings [] b ≡ []
unfolding meetings
none_left b = refl

pub none_right : (a : List ℕ) → meetings a [] ≡ []
unfolding meetings meetings_at
none_right [] = refl
none_right (e ∷ a) = none_right a

-- ---- rows, at a place

rises_on : {row : List ℕ} → Rises row → (j i : ℕ) → j + i < length row → rank_of (get_or row j 0) ≤ rank_of (get_or row (j + i) 0)
rises_on {row} r j i h =
    never_falls (λ v. rank_of (get_or row v 0)) (length row - 1) (λ v l. omega (arith, r.next v (omega arith))) j (j + i)
    (omega arith) (omega arith)

above_from : {row : List ℕ} → Rises row → (r j : ℕ) → r < rank_of (get_or row j 0) → Above r (drop j row)
above_from {row} rise r j h i k =
    rw get_or-drop (omega (arith, rises_on rise j i (omega (arith, length-drop j row))))

above_next : {row : List ℕ} → Rises row → (j : ℕ) → Above (rank_of (get_or row j 0)) (drop (suc j) row)
above_next {row} rise j i k =
    let e : j + 1 ≡ suc j = add-one j in
    let next : rank_of (get_or row j 0) < rank_of (get_or row (suc j) 0) =
    rw e at (rise.next j (omega (arith, length-drop (suc j) row))) in
    above_from rise (rank_of (get_or row j 0)) (suc j) next i k

module _ (a b : List ℕ) (i j : ℕ) (h : i < length a) (k : j < length b) where
  -- the first row's rank is the lower: its entry meets nothing
  pub step_left : Rises b → rank_of (get_or a i 0) < rank_of (get_or b j 0)
      → meetings (drop i a) (drop j b) ≡ meetings (drop (i + 1) a) (drop j b)
  step_left rise l =
      rw (add-one, drop-cons a i 0 h)
      (pass_left (get_or a i 0) (drop (suc i) a) (drop j b) (above_from rise (rank_of (get_or a i 0)) j l))

  -- the second row's rank is the lower
  pub step_right : Rises a → rank_of (get_or b j 0) < rank_of (get_or a i 0)
      → meetings (drop i a) (drop j b) ≡ meetings (drop i a) (drop (j + 1) b)
  step_right rise l =
      rw (add-one, drop-cons b j 0 k)
      (pass_right (drop i a) (get_or b j 0) (drop (suc j) b) (above_from rise (rank_of (get_or b j 0)) i l))

  -- one rank in both: one meeting
  pub step_both : Rises a → Rises b → rank_of (get_or a i 0) ≡ rank_of (get_or b j 0)
      → meetings (drop i a) (drop j b) ≡ meeting (get_or a i 0) (get_or b j 0) ∷ meetings (drop (i + 1) a) (drop (j + 1) b)
  step_both up rise e =
      rw (add-one i, add-one j, drop-cons a i 0 h, drop-cons b j 0 k)
      (take_both (get_or a i 0) (get_or b j 0) (drop (suc i) a) (drop (suc j) b) e
      (rw e (above_next rise j))
      (rw (← e) (above_next up i)))

-- ---- one turn

pub past : (r o : ℕ) → r ≤ o → past_by r o ≡ 1
unfolding past_by
past r o h = cond_true _ _ (le-leb r o h)

pub stays : (r o : ℕ) → o < r → past_by r o ≡ 0
unfolding past_by
stays r o h = cond_false _ _ (lt-leb r o h)

-- a row goes past one entry at most
pub past_most : (r o : ℕ) → past_by r o ≤ 1
past_most r o = lt_or_ge o r (λ h. omega (arith, stays r o h)) (λ h. omega (arith, past r o h))

-- and one of the two rows does
pub past_some : (r o : ℕ) → 1 ≤ past_by r o + past_by o r
past_some r o = lt_or_ge o r (λ h. omega (arith, past o r (omega arith))) (λ h. omega (arith, past r o h))

-- the least found, or nowhere
unfoldable pub best_of : Meeting → Best
best_of least = then_some (ltb least.sum no_sum) least

-- no sum leaves the least as it is
kept : (least : Meeting) (e f : ℕ) → least.sum ≤ no_sum → (rank_of e ≡ rank_of f → ⊥) → lesser_by least (turned e f) ≡ least
unfolding lesser_by at_rank
kept least e f small apart =
    let none : at_rank (rank_of e) (rank_of f) (joins_of e + joins_of f) ≡ no_sum = cond_false _ _ (ne_eqb (rank_of e) (rank_of f) apart) in
    cond_false _ _ (le-ltb (turned e f).sum least.sum (omega (arith, none)))

met : (m : Meeting) → m.sum < no_sum → best_of m ≡ Some m
unfolding best_of
met m h = ap (λ (b : Bool). then_some b m) (lt-ltb m.sum no_sum h)

not_met : (m : Meeting) → no_sum ≤ m.sum → best_of m ≡ None
unfolding best_of
not_met m h = ap (λ (b : Bool). then_some b m) (le-ltb m.sum no_sum h)

replaced : (k m : Meeting) → m.sum < k.sum → lesser_of (Some k) m ≡ Some m
unfolding lesser_of goes_before
replaced k m h = cond_true _ _ (either_left _ _ (lt-ltb m.sum k.sum h))

-- the earlier has the lower rank, so that the sums alone decide
stayed : (k m : Meeting) → k.sum ≤ m.sum → k.rank < m.rank → lesser_of (Some k) m ≡ Some k
unfolding lesser_of goes_before
stayed k m h l =
    rw (le-ltb m.sum k.sum h, le-ltb m.rank k.rank (omega arith))
    (bcase (eqb m.sum k.sum) (λ e. rw e refl) (λ e. rw e refl))

held : (least m : Meeting) → m.sum < no_sum → (least.sum < no_sum → least.rank < m.rank)
    → best_of (lesser_by least m) ≡ lesser_of (best_of least) m
unfolding lesser_by lesser_of
held least m small ahead =
    let so_far : (b : Best) → best_of least ≡ b → lesser_of (best_of least) m ≡ lesser_of b m =
    λ b. ap (λ (b : Best). lesser_of b m) in
    lt_or_ge m.sum least.sum
    (λ h.
    ap best_of (cond_true m least (lt-ltb m.sum least.sum h))
    ∙ met m small
    ∙ sym (lt_or_ge least.sum no_sum (λ k. so_far _ (met least k) ∙ replaced least m h) (λ k. so_far _ (not_met least k))))
    (λ h.
    let below : least.sum < no_sum = omega arith in
    ap best_of (cond_false m least (le-ltb m.sum least.sum h))
    ∙ met least below
    ∙ sym (so_far _ (met least below) ∙ stayed least m h (ahead below)))

-- the sum of one rank is held against the least
one_rank : (least : Meeting) (e f : ℕ) → (least.sum < no_sum → least.rank < rank_of e) → rank_of e ≡ rank_of f
    → best_of (lesser_by least (turned e f)) ≡ lesser_of (best_of least) (meeting e f)
unfolding at_rank
one_rank least e f ahead same =
    rw (cond_true (joins_of e + joins_of f) no_sum (eq-eqb (rank_of e) (rank_of f) same))
    (held least (meeting e f) (omega (arith, joins_small e, joins_small f)) ahead)

-- the merge at places i and j: the least so far with the meetings of what is left of both rows is the best of all
pub record Merged (a b : List ℕ) (least : Meeting) (i j : ℕ) : Type 0 where
  pub small : least.sum ≤ no_sum
  pub ahead : least.sum < no_sum → i < length a → least.rank < rank_of (get_or a i 0)
  pub all : least_from (best_of least) (meetings (drop i a) (drop j b)) ≡ meeting_of a b

lesser_small : (least m : Meeting) → least.sum ≤ no_sum → (lesser_by least m).sum ≤ no_sum
unfolding lesser_by
lesser_small least m h =
    lt_or_ge m.sum least.sum
    (λ l. rw (lt-ltb m.sum least.sum l) (omega arith))
    (λ l. rw (le-ltb m.sum least.sum l) h)

lesser_rank : (least m : Meeting) → (least.sum < no_sum → least.rank < m.rank) → (lesser_by least m).sum < no_sum
    → (lesser_by least m).rank ≤ m.rank
unfolding lesser_by
lesser_rank least m ahead =
    lt_or_ge m.sum least.sum
    (λ l. rw (lt-ltb m.sum least.sum l) (λ h. omega arith))
    (λ l. rw (le-ltb m.sum least.sum l) (λ h. omega (arith, ahead h)))

pub merged_start : (a b : List ℕ) → Merged a b record { rank = 0; sum = no_sum } 0 0
unfolding meeting_of best_of
merged_start a b = record { small = omega arith; ahead = λ h k. absurd (omega arith); all = refl }

-- at either row's end the least so far is the best of all
pub merged_end : {a b : List ℕ} {least : Meeting} {i j : ℕ} → Merged a b least i j → (i ≡ length a) ⊎ (j ≡ length b)
    → best_of least ≡ meeting_of a b
unfolding least_from
merged_end {a} {b} {least} {i} {j} m e =
    let none : meetings (drop i a) (drop j b) ≡ [] =
    cases e (λ p. rw (p, drop-length a) (none_left (drop j b))) (λ p. rw (p, drop-length b) (none_right (drop i a))) in
    sym (ap (least_from (best_of least)) none) ∙ m.all

module _ {a b : List ℕ} {least : Meeting} {i j : ℕ} (m : Merged a b least i j) (rise : Rises a) (up : Rises b)
    (h : i < length a) (k : j < length b) where
  merged_left : rank_of (get_or a i 0) < rank_of (get_or b j 0) → Merged a b least (i + 1) j
  merged_left l =
      record {
        small = m.small;
        ahead = λ s q. omega (arith, m.ahead s h, rise.next i q);
        all = sym (ap (least_from (best_of least)) (step_left a b i j h k up l)) ∙ m.all;
      }

  merged_right : rank_of (get_or b j 0) < rank_of (get_or a i 0) → Merged a b least i (j + 1)
  merged_right l =
      record {
        small = m.small;
        ahead = m.ahead;
        all = sym (ap (least_from (best_of least)) (step_right a b i j h k rise l)) ∙ m.all;
      }

  merged_both : rank_of (get_or a i 0) ≡ rank_of (get_or b j 0)
      → Merged a b (lesser_by least (turned (get_or a i 0) (get_or b j 0))) (i + 1) (j + 1)
  unfolding least_from
  merged_both e =
      let ahead : least.sum < no_sum → least.rank < rank_of (get_or a i 0) = λ s. m.ahead s h in
      let rest : List Meeting = meetings (drop (i + 1) a) (drop (j + 1) b) in
      record {
        small = lesser_small least (turned (get_or a i 0) (get_or b j 0)) m.small;
        ahead = λ s q. omega (arith, lesser_rank least (turned (get_or a i 0) (get_or b j 0)) ahead s, rise.next i q);
        all =
            ap (λ (x : Best). least_from x rest) (one_rank least (get_or a i 0) (get_or b j 0) ahead e)
            ∙ sym (ap (least_from (best_of least)) (step_both a b i j h k rise up e))
            ∙ m.all;
      }

  -- one turn of the merge
  merged_on : Merged a b (lesser_by least (turned (get_or a i 0) (get_or b j 0)))
      (i + past_by (rank_of (get_or a i 0)) (rank_of (get_or b j 0)))
      (j + past_by (rank_of (get_or b j 0)) (rank_of (get_or a i 0)))
  merged_on =
      let unlike = kept least (get_or a i 0) (get_or b j 0) m.small in
      let first : rank_of (get_or a i 0) ≤ rank_of (get_or b j 0) → past_by (rank_of (get_or a i 0)) (rank_of (get_or b j 0)) ≡ 1 = past _ _ in
      let second : rank_of (get_or b j 0) ≤ rank_of (get_or a i 0) → past_by (rank_of (get_or b j 0)) (rank_of (get_or a i 0)) ≡ 1 = past _ _ in
      three_ways (rank_of (get_or a i 0)) (rank_of (get_or b j 0))
      (λ l. rw (unlike (λ e. omega arith), first (omega arith), stays _ _ l, add-zero j) (merged_left l))
      (λ e. rw (first (omega arith), second (omega arith)) (merged_both e))
      (λ l. rw (unlike (λ e. omega arith), second (omega arith), stays _ _ l, add-zero i) (merged_right l))

  pub merged_turn : {t : Turn} → t ≡ turn_of (get_or a i 0) (get_or b j 0) → Merged a b (lesser_by least t.meeting) (i + t.first) (j + t.second)
  merged_turn e = rw e merged_on
