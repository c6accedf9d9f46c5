-- The laws of the question within so many joins: what a turn of its walk leaves, that some meeting is within the limit exactly if
-- the best one is, and what the answer says of the pair question's.
use Rattle.refusal.specs.Tests.{fine, Refusal}
use Rattle.std.specs.Prelude.{Ok, Err, Some, None}
use Prim.Native.Nat.{ℕ, ◌+◌, ◌-◌, ◌≤◌, ◌<◌, min}
use mathlib.Core.Path.{◌≡◌, refl, sym, ap, ◌∙◌}
use mathlib.Core.Logic.{◌⊎◌, ◌↔◌}
use mathlib.Core.Bool.{Bool, true, false, cond}
use mathlib.Core.List.{List, [], ◌∷◌}
use native.Mathlib.Decide.{ℕ_discrete}
use native.Mathlib.Nat.{add-zero}
use native.Mathlib.Omega.{arith}
use borrow.Author.Tests.{le-leb, lt-leb, leb-true, leb-false, eq-eqb, ne_eqb}
use lib.ListN.{length, get_or, drop}
use lib.Seq.{drop-length}
use lib.Dec.{leb}
use Rattle.basics.proofs.Laws.{bcase, by_cases, cases, cond_true, cond_false, lt_or_ge, three_ways}
use Rattle.refusal.proofs.Laws.{Named, named, gives_apart, refuses_apart, gives_refuses}
use Rattle.entry.specs.Entry.{rank_of, joins_of, rank_step}
use Rattle.entry.proofs.Laws.{joins_small}
use Rattle.rows.specs.Inner.{Rises, at_rank, no_sum, past_by, some_within, turn_of}
use Rattle.rows.specs.Meetings.{goes_before, least_from, lesser_of, meeting_of, meetings, Best}
use Rattle.rows.specs.Pair.{answered, pair_of, pair_tests, Answer}
use Rattle.rows.specs.Rooms.{row_at}
use Rattle.rows.specs.Within.{within_by, within_of, within_told, WithinAnswer}
use Rattle.rows.specs.declared.merge.Meeting.{Meeting}
use Rattle.rows.specs.declared.merge.Turn.{Turn}
use Rattle.rows.proofs.MeetingLaws.{none_left, none_right, past, stays, step_left, step_right, step_both}
use Rattle.rows.proofs.PairAnswer.{AllBelow, all_below, before_sum, not_before_sum}
use Rattle.rows.proofs.PairDepends.{SameRow, pair_depends}
use Rattle.rows.proofs.PairLaws.{answer_fine, answer_refused}

-- ---- the walk

-- at either row's end none is left
pub walk_end : (limit : ℕ) (a b : List ℕ) (i j : ℕ) → some_within limit (meetings (drop i a) (drop j b)) ≡ some_within limit (meetings a b)
    → (i ≡ length a) ⊎ (j ≡ length b) → false ≡ some_within limit (meetings a b)
unfolding some_within
walk_end limit a b i j same e =
    let none : meetings (drop i a) (drop j b) ≡ [] =
    cases e (λ p. rw (p, drop-length a) (none_left (drop j b))) (λ p. rw (p, drop-length b) (none_right (drop i a))) in
    sym (ap (some_within limit) none) ∙ same

module _ {limit : ℕ} {a b : List ℕ} {i j : ℕ} (same : some_within limit (meetings (drop i a) (drop j b)) ≡ some_within limit (meetings a b))
    (rise : Rises a) (up : Rises b) (low : limit < no_sum) (h : i < length a) (k : j < length b) where
  sum_there : rank_of (get_or a i 0) ≡ rank_of (get_or b j 0)
      → at_rank (rank_of (get_or a i 0)) (rank_of (get_or b j 0)) (joins_of (get_or a i 0) + joins_of (get_or b j 0))
      ≡ joins_of (get_or a i 0) + joins_of (get_or b j 0)
  unfolding at_rank
  sum_there e = cond_true _ _ (eq-eqb (rank_of (get_or a i 0)) (rank_of (get_or b j 0)) e)

  sum_lacks : (rank_of (get_or a i 0) ≡ rank_of (get_or b j 0) → ⊥)
      → at_rank (rank_of (get_or a i 0)) (rank_of (get_or b j 0)) (joins_of (get_or a i 0) + joins_of (get_or b j 0)) ≡ no_sum
  unfolding at_rank
  sum_lacks e = cond_false _ _ (ne_eqb (rank_of (get_or a i 0)) (rank_of (get_or b j 0)) e)

  -- a sum within the limit is that of a meeting
  hit : at_rank (rank_of (get_or a i 0)) (rank_of (get_or b j 0)) (joins_of (get_or a i 0) + joins_of (get_or b j 0)) ≤ limit
      → true ≡ some_within limit (meetings a b)
  unfolding some_within
  hit l =
      by_cases (ℕ_discrete (rank_of (get_or a i 0)) (rank_of (get_or b j 0)))
      (λ (e : rank_of (get_or a i 0) ≡ rank_of (get_or b j 0)).
      sym (cond_true _ _ (le-leb (joins_of (get_or a i 0) + joins_of (get_or b j 0)) limit (omega (arith, sum_there e))))
      ∙ sym (ap (some_within limit) (step_both a b i j h k rise up e))
      ∙ same)
      (λ e. absurd (omega (arith, sum_lacks e)))

  -- else the meetings left decide
  on : limit < at_rank (rank_of (get_or a i 0)) (rank_of (get_or b j 0)) (joins_of (get_or a i 0) + joins_of (get_or b j 0))
      → some_within limit
      (meetings (drop (i + past_by (rank_of (get_or a i 0)) (rank_of (get_or b j 0))) a) (drop (j + past_by (rank_of (get_or b j 0)) (rank_of (get_or a i 0))) b))
      ≡ some_within limit (meetings a b)
  unfolding some_within
  on l =
      let first : rank_of (get_or a i 0) ≤ rank_of (get_or b j 0) → past_by (rank_of (get_or a i 0)) (rank_of (get_or b j 0)) ≡ 1 = past _ _ in
      let second : rank_of (get_or b j 0) ≤ rank_of (get_or a i 0) → past_by (rank_of (get_or b j 0)) (rank_of (get_or a i 0)) ≡ 1 = past _ _ in
      three_ways (rank_of (get_or a i 0)) (rank_of (get_or b j 0))
      (λ g. rw (first (omega arith), stays _ _ g, add-zero j) (sym (ap (some_within limit) (step_left a b i j h k up g)) ∙ same))
      (λ e.
      rw (first (omega arith), second (omega arith))
      (sym (cond_false _ _ (lt-leb (joins_of (get_or a i 0) + joins_of (get_or b j 0)) limit (omega (arith, sum_there e))))
      ∙ sym (ap (some_within limit) (step_both a b i j h k rise up e))
      ∙ same))
      (λ g. rw (second (omega arith), stays _ _ g, add-zero i) (sym (ap (some_within limit) (step_right a b i j h k rise g)) ∙ same))

  -- as the code makes the turn
  pub walk_hit : {t : Turn} → t ≡ turn_of (get_or a i 0) (get_or b j 0) → t.meeting.sum ≤ limit → true ≡ some_within limit (meetings a b)
  walk_hit {t} e l = hit (rw e at l)

  pub walk_on : {t : Turn} → t ≡ turn_of (get_or a i 0) (get_or b j 0) → limit < t.meeting.sum
      → some_within limit (meetings (drop (i + t.first) a) (drop (j + t.second) b)) ≡ some_within limit (meetings a b)
  walk_on {t} e l = let high : limit < (turn_of (get_or a i 0) (get_or b j 0)).meeting.sum = rw e at l in rw e (on high)

-- ---- some meeting, and the best

-- the best meeting is within the limit
best_within : ℕ → Best → Bool
best_within limit None = false
best_within limit (Some m) = leb m.sum limit

lesser_within : (limit : ℕ) (best : Best) (m : Meeting)
    → best_within limit (lesser_of best m) ≡ cond (best_within limit best) true (leb m.sum limit)
unfolding best_within lesser_of
lesser_within limit None m = refl
lesser_within limit (Some k) m =
    bcase (goes_before m k)
    (λ e.
    rw e
    (bcase (leb k.sum limit)
    (λ q. rw q (le-leb m.sum limit (omega (arith, before_sum m k e, leb-true k.sum limit q))))
    (λ q. rw q refl)))
    (λ e.
    rw e
    (bcase (leb k.sum limit)
    (λ q. rw q refl)
    (λ q. rw q (sym (lt-leb m.sum limit (omega (arith, not_before_sum m k e, leb-false k.sum limit q)))))))

least_within : (limit : ℕ) (best : Best) (ms : List Meeting)
    → best_within limit (least_from best ms) ≡ cond (best_within limit best) true (some_within limit ms)
unfolding least_from some_within
least_within limit best [] = bcase (best_within limit best) (λ e. rw e refl) (λ e. rw e refl)
least_within limit best (m ∷ ms) =
    least_within limit (lesser_of best m) ms
    ∙ ap (λ (b : Bool). cond b true (some_within limit ms)) (lesser_within limit best m)
    ∙ bcase (best_within limit best) (λ e. rw e refl) (λ e. rw e refl)

-- above every sum the limit makes no difference
clip_over : (limit : ℕ) {ms : List Meeting} → no_sum ≤ limit → AllBelow no_sum ms → some_within (no_sum - 1) ms ≡ some_within limit ms
unfolding some_within
clip_over limit h AllBelow.no_more = refl
clip_over limit h (AllBelow.one_more {m = m} b rest) =
    rw (le-leb m.sum (no_sum - 1) (omega arith), le-leb m.sum limit (omega arith)) refl

clip_same : (limit : ℕ) {ms : List Meeting} → AllBelow no_sum ms → some_within (min limit (no_sum - 1)) ms ≡ some_within limit ms
clip_same limit {ms} all =
    lt_or_ge limit no_sum
    (λ h. ap (λ (l : ℕ). some_within l ms) (let e : min limit (no_sum - 1) ≡ limit = omega arith in e))
    (λ h. ap (λ (l : ℕ). some_within l ms) (let e : min limit (no_sum - 1) ≡ no_sum - 1 = omega arith in e) ∙ clip_over limit h all)

-- ---- the answer

said : (b : Bool) → ◌≡◌ {A = WithinAnswer} (cond b (Ok true) (Ok false)) (Ok b)
said true = refl
said false = refl

within_by_lem : (limit : ℕ) (best : Best) → within_by limit (answered fine best) ≡ Ok (best_within limit best)
unfolding within_by answered best_within
within_by_lem limit None = refl
within_by_lem limit (Some m) = said (leb m.sum limit)

module _ (n w : ℕ) (labels counts : List ℕ) (s t limit : ℕ) where
  pub within_refused : {r : Refusal} → pair_tests n w labels counts s t ≡ Err r → within_of n w labels counts s t limit ≡ Err r
  unfolding within_of within_by
  within_refused e = ap (within_by limit) (answer_refused n w labels counts s t e)

  pub within_walked : {found : Bool} → pair_tests n w labels counts s t ≡ fine
      → found ≡ some_within (min limit (no_sum - 1)) (meetings (row_at w labels counts s) (row_at w labels counts t))
      → within_of n w labels counts s t limit ≡ Ok found
  unfolding within_of meeting_of best_within
  within_walked {found} e f =
      let a : List ℕ = row_at w labels counts s in
      let b : List ℕ = row_at w labels counts t in
      let all : AllBelow no_sum (meetings a b) = all_below no_sum rank_step a b (omega arith) (λ i _. joins_small (get_or a i 0)) (λ i _. joins_small (get_or b i 0)) in
      ap (within_by limit) (answer_fine n w labels counts s t e refl)
      ∙ within_by_lem limit (meeting_of a b)
      ∙ ap Ok (least_within limit None (meetings a b) ∙ sym (clip_same limit all) ∙ sym f)

-- ---- the pair question's answer

-- an answer is a number of joins, none, or a refusal
pub acase {ℓ} : {C : Type ℓ} (x : Answer) → ((j : ℕ) → x ≡ Ok (Some j) → C) → (x ≡ Ok None → C)
    → ((r : Refusal) → x ≡ Err r → C) → C
acase (Ok (Some j)) joined none refused = joined j refl
acase (Ok None) joined none refused = none refl
acase (Err r) joined none refused = refused r refl

no_yes : {C : Type 0} → ◌≡◌ {A = WithinAnswer} (Ok false) (Ok true) → C
no_yes e = absurd cc

refused_yes : {C : Type 0} (r : Refusal) → ◌≡◌ {A = WithinAnswer} (Err r) (Ok true) → C
refused_yes r e = absurd cc

-- 1 is not 0
one_not_none : {C : Type 0} → ◌≡◌ {A = List ℕ} (1 ∷ []) (0 ∷ []) → C
one_not_none e = absurd (omega (arith, ap (λ (vs : List ℕ). get_or vs 0 0) e))

module _ (n w : ℕ) (labels counts : List ℕ) (s t limit : ℕ) where
  -- an answer of at most the limit, and one above it
  pub within_yes : (j : ℕ) → pair_of n w labels counts s t ≡ Ok (Some j) → j ≤ limit → within_of n w labels counts s t limit ≡ Ok true
  unfolding within_of within_by
  within_yes j e h = ap (within_by limit) e ∙ cond_true _ _ (le-leb j limit h)

  pub within_no : (j : ℕ) → pair_of n w labels counts s t ≡ Ok (Some j) → limit < j → within_of n w labels counts s t limit ≡ Ok false
  unfolding within_of within_by
  within_no j e h = ap (within_by limit) e ∙ cond_false _ _ (lt-leb j limit h)

  -- yes exactly if there is an answer and it is at most the limit
  pub within_pair : (within_of n w labels counts s t limit ≡ Ok true)
      ↔ ((j : ℕ) × (pair_of n w labels counts s t ≡ Ok (Some j)) × (j ≤ limit))
  unfolding within_of within_by
  within_pair = (
    λ yes.
        acase (pair_of n w labels counts s t)
        (λ j e. (j, e, lt_or_ge limit j (λ h. no_yes (sym (within_no j e h) ∙ yes)) (λ h. h)))
        (λ e. no_yes (sym (ap (within_by limit) e) ∙ yes))
        (λ r e. refused_yes r (sym (ap (within_by limit) e) ∙ yes)),
    λ x. within_yes x.0 x.1 x.2,
  )

-- at the pair's own answer yes, at one less no
pub within_own : (n w : ℕ) (labels counts : List ℕ) (s t j : ℕ) → pair_of n w labels counts s t ≡ Ok (Some j)
    → (within_of n w labels counts s t j ≡ Ok true) × (0 < j → within_of n w labels counts s t (j - 1) ≡ Ok false)
within_own n w labels counts s t j e =
    (within_yes n w labels counts s t j j e (omega arith), λ h. within_no n w labels counts s t (j - 1) j e (omega arith))

-- it depends on what the pair question's answer depends on, and the limit
pub within_depends : (n w : ℕ) (labels counts labels' counts' : List ℕ) (s t limit : ℕ) → length labels ≡ length labels'
    → length counts ≡ length counts' → SameRow w labels counts labels' counts' s → SameRow w labels counts labels' counts' t
    → within_of n w labels counts s t limit ≡ within_of n w labels' counts' s t limit
unfolding within_of
within_depends n w labels counts labels' counts' s t limit e f first second =
    ap (within_by limit) (pair_depends n w labels counts labels' counts' s t e f first second)

-- ---- the paper's numbers tell

-- answers with the same numbers are the same
pub within_apart : (a b : WithinAnswer) → within_told a ≡ within_told b → a ≡ b
unfolding within_told
within_apart (Ok true) (Ok true) e = refl
within_apart (Ok true) (Ok false) e = one_not_none (gives_apart e)
within_apart (Ok true) (Err r) e = gives_refuses r 1 e
within_apart (Ok false) (Ok true) e = one_not_none (sym (gives_apart e))
within_apart (Ok false) (Ok false) e = refl
within_apart (Ok false) (Err r) e = gives_refuses r 1 e
within_apart (Err r) (Ok true) e = gives_refuses r 1 (sym e)
within_apart (Err r) (Ok false) e = gives_refuses r 1 (sym e)
within_apart (Err r) (Err s) e = ap Err (refuses_apart 1 e)

-- every refusal of the question has a number
pub within_named : (n w : ℕ) (labels counts : List ℕ) (s t limit : ℕ) → Named Err (within_of n w labels counts s t limit)
within_named n w labels counts s t limit = named Err _
