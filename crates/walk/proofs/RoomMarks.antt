-- Phase two told by the queue: a test of the queued frames is a test of all frames, and rows stored along the queue are the
-- rows after the walk.
use Prim.Native.Nat.{ℕ, ◌+◌, ◌-◌, ◌*◌, ◌≤◌, ◌<◌}
use mathlib.Core.Path.{◌≡◌, refl, sym, ap, ◌∙◌}
use mathlib.Core.Bool.{Bool, true, false, cond, ◌&&◌, and-false}
use mathlib.Core.List.{List, [], ◌∷◌, ◌++◌}
use native.Mathlib.Decide.{ℕ_discrete}
use native.Mathlib.Omega.{arith}
use borrow.Author.Tests.{lt-ltb, le-ltb, ltb-true, leb-false, not-true}
use lib.ListN.{length, get_or, set}
use Rattle.std.specs.Prelude.{Ok, Err}
use lib.Dec.{leb, ltb}
use Rattle.basics.specs.Places.{some}
use Rattle.basics.proofs.Laws.{bcase, by_cases, lt_or_ge, not_both, both, both_true, not_of_true, not_of_false, cond_true, cond_false, some_one, some_not, some_none, stands_at, stands_by, stands_not, stands_none, stands_other}
use Rattle.theory.specs.Rows.{Row}
use Rattle.entry.specs.Entry.{entry_of}
use Rattle.rows.specs.Inner.{Laid}
use Rattle.rows.specs.Laid.{rows_in}
use Rattle.walk.specs.Inner.{mark, Listed, stood, is_kept, lacks_room, is_far, fits_all, none_far, gain, rows_after, GiveIn, SettleIn, settle_of}
use Rattle.walk.specs.declared.Unmade.TheVariants.{Full}
use Rattle.rows.proofs.Laws.{row_place}
use Rattle.rows.proofs.LaidLaws.{laid_long, laid_gain, laid_ext, count_at_lem}

-- ---- marks

-- kept, dropped, not met
module _ (most level answered : ℕ) where
  pub mark_yes : level < most → level < answered → mark most level answered ≡ level + 1
  unfolding mark
  mark_yes h k = cond_true _ _ (lt-ltb level most h) ∙ cond_true _ _ (lt-ltb level answered k)

  pub mark_drop : level < most → answered ≤ level → mark most level answered ≡ level + 1 + 65536
  unfolding mark
  mark_drop h k = cond_true _ _ (lt-ltb level most h) ∙ cond_false _ _ (le-ltb level answered k)

  pub mark_none : most ≤ level → mark most level answered ≡ 0
  unfolding mark
  mark_none h = cond_false _ _ (le-ltb level most h)

pub kept_mark : (m : ℕ) → 0 < m → m < 65536 → is_kept m ≡ true
unfolding is_kept
kept_mark m h k = both (ltb 0 m) (ltb m 65536) (lt-ltb 0 m h) (lt-ltb m 65536 k)

pub unmet_mark : (m : ℕ) → m ≤ 0 → is_kept m ≡ false
unfolding is_kept
unmet_mark m h = ap (λ (b : Bool). b && ltb m 65536) (le-ltb 0 m h)

pub dropped_mark : (m : ℕ) → 65536 ≤ m → is_kept m ≡ false
unfolding is_kept
dropped_mark m h = ap (λ (b : Bool). ltb 0 m && b) (le-ltb m 65536 h) ∙ and-false (ltb 0 m)

pub kept_met : (m : ℕ) → is_kept m ≡ true → 0 < m
unfolding is_kept
kept_met m e = ltb-true 0 m (both_true (ltb 0 m) (ltb m 65536) e).0

pub kept_room : (w count m : ℕ) → lacks_room w count m ≡ false → is_kept m ≡ true → count < w
unfolding lacks_room
kept_room w count m e k = leb-false w count (sym (ap (λ (b : Bool). b && leb w count) k) ∙ e)

-- ---- tests along the queue

-- a fault that only kept frames can have, and no queued frame has, no frame has
module _ {met frames : List ℕ} (q : Listed met frames) (bad : ℕ → Bool) where
  none_bad : ((v : ℕ) → bad v ≡ true → is_kept (get_or met v 0) ≡ true) → ((j : ℕ) → j < length frames → bad (get_or frames j 0) ≡ false)
      → some bad 0 (length met) ≡ false
  none_bad only none =
      some_none bad 0 (length met)
      (λ v h k.
      bcase (bad v)
      (λ e.
      let (i, l, is) = stands_by (λ j. get_or frames j 0) (length frames) v (q.all v (omega arith) (kept_met (get_or met v 0) (only v e))) in
      not_both e (ap bad (sym is) ∙ none i l))
      (λ e. e))

  one_bad : (j : ℕ) → j < length frames → bad (get_or frames j 0) ≡ true → some bad 0 (length met) ≡ true
  one_bad j h e = some_one bad 0 (length met) (get_or frames j 0) (omega arith) (omega (arith, q.low j h)) e

module _ (w : ℕ) (counts : List ℕ) {met frames : List ℕ} (q : Listed met frames) where
  pub fits_done : ((j : ℕ) → j < length frames → lacks_room w (get_or counts (get_or frames j 0) 0) (get_or met (get_or frames j 0) 0) ≡ false)
      → fits_all w counts met ≡ true
  unfolding fits_all lacks_room
  fits_done none =
      not_of_false
      (none_bad q (λ v. is_kept (get_or met v 0) && leb w (get_or counts v 0))
      (λ v e. (both_true (is_kept (get_or met v 0)) (leb w (get_or counts v 0)) e).0) none)

  pub fits_not : (j : ℕ) → j < length frames → lacks_room w (get_or counts (get_or frames j 0) 0) (get_or met (get_or frames j 0) 0) ≡ true
      → fits_all w counts met ≡ false
  unfolding fits_all
  fits_not j h e = not_of_true (one_bad q (λ v. lacks_room w (get_or counts v 0) (get_or met v 0)) j h e)

pub fits_each : (w : ℕ) (counts met : List ℕ) (v : ℕ) → fits_all w counts met ≡ true → v < length met
    → lacks_room w (get_or counts v 0) (get_or met v 0) ≡ false
unfolding fits_all
fits_each w counts met v e h =
    some_not (λ u. lacks_room w (get_or counts u 0) (get_or met u 0)) 0 (length met) v
    (not-true (some (λ u. lacks_room w (get_or counts u 0) (get_or met u 0)) 0 (length met)) e) (omega arith) (omega arith)

-- ---- rows stored along the queue

-- the rows when the first i frames of the queue have theirs from R' and the others still from R
unfoldable pub partly : List ℕ → ℕ → (ℕ → Row) → (ℕ → Row) → ℕ → Row
partly frames i R R' v = cond (stood frames i v) (R' v) (R v)

-- these rows before and after the walk of this rank
abbrev pub upto : ℕ → ℕ → List ℕ → List ℕ → List ℕ → List ℕ → ℕ → ℕ → Row
upto w rank labels counts met frames i = partly frames i (rows_in w labels counts) (rows_after w rank labels counts met)

module _ (frames : List ℕ) (R R' : ℕ → Row) where
  pub partly_none : (v : ℕ) → partly frames 0 R R' v ≡ R v
  unfolding partly
  partly_none v = cond_false _ _ (stands_none (λ j. get_or frames j 0) v)

  pub partly_other : (i u : ℕ) → (get_or frames i 0 ≡ u → ⊥) → partly frames (i + 1) R R' u ≡ partly frames i R R' u
  unfolding partly
  partly_other i u ne =
      ap (λ (b : Bool). cond b (R' u) (R u)) (stands_other (λ j. get_or frames j 0) i u (λ e. ne (sym e)))

  pub partly_after : (i : ℕ) → partly frames (i + 1) R R' (get_or frames i 0) ≡ R' (get_or frames i 0)
  unfolding partly
  partly_after i = cond_true _ _ (stands_at (λ j. get_or frames j 0) (i + 1) i (omega arith) refl)

  pub partly_before : (i : ℕ) → ((j : ℕ) → j < i → get_or frames j 0 ≡ get_or frames i 0 → ⊥)
      → partly frames i R R' (get_or frames i 0) ≡ R (get_or frames i 0)
  unfolding partly
  partly_before i once =
      cond_false _ _ (stands_not (λ j. get_or frames j 0) i (get_or frames i 0) once)

  pub partly_all : (tail v : ℕ) → stood frames tail v ≡ true → partly frames tail R R' v ≡ R' v
  unfolding partly
  partly_all tail v at = cond_true _ _ at

  pub partly_same : (tail v : ℕ) → R' v ≡ R v → partly frames tail R R' v ≡ R' v
  unfolding partly
  partly_same tail v e = bcase (stood frames tail v) (λ b. cond_true _ _ b) (λ b. cond_false _ _ b ∙ sym e)

-- ---- the rows after the walk

module _ (w rank : ℕ) (labels counts met : List ℕ) where
  pub after_kept : (v : ℕ) → is_kept (get_or met v 0) ≡ true
      → rows_after w rank labels counts met v ≡ rows_in w labels counts v ++ ((rank, get_or met v 0 - 1) ∷ [])
  unfolding rows_after gain
  after_kept v e = cond_true _ _ e

  pub after_not : (v : ℕ) → is_kept (get_or met v 0) ≡ false → rows_after w rank labels counts met v ≡ rows_in w labels counts v
  unfolding rows_after gain
  after_not v e = cond_false _ _ e

module _ (rank : ℕ) {w : ℕ} {labels counts met frames : List ℕ} (m : Listed met frames) (s : SettleIn w labels counts met frames)
    (fit : fits_all w counts met ≡ true) where
  abbrev pub before : ℕ → Row
  before = rows_in w labels counts

  abbrev pub after : ℕ → Row
  after = rows_after w rank labels counts met

  abbrev pub turn : ℕ → ℕ → Row
  turn = upto w rank labels counts met frames

  -- a kept frame has room for one more entry
  room_left : (v : ℕ) → v < length met → is_kept (get_or met v 0) ≡ true → length (before v) < w
  room_left v h k =
      let few : get_or counts v 0 < w = kept_room w (get_or counts v 0) (get_or met v 0) (fits_each w counts met v fit h) k in
      let is : get_or counts v 0 ≡ length (before v) =
      ap (λ (l : List ℕ). get_or l v 0) s.laid.numbers ∙ count_at_lem (length met) before v h in
      omega arith

  -- at its turn a frame's row is still the one before the walk
  still : (i : ℕ) → i < length frames → turn i (get_or frames i 0) ≡ before (get_or frames i 0)
  still i h = partly_before frames before after i (λ j l. m.once j i l h)

  -- the rows of the other frames stay at that turn
  others : (i u : ℕ) → (u ≡ get_or frames i 0 → ⊥) → turn (i + 1) u ≡ turn i u
  others i u ne = partly_other frames before after i u (λ e. ne (sym e))

  -- a dropped frame's turn changes nothing
  idle : (i : ℕ) → i < length frames → is_kept (get_or met (get_or frames i 0) 0) ≡ false → (u : ℕ) → turn i u ≡ turn (i + 1) u
  idle i h k u =
      by_cases (ℕ_discrete u (get_or frames i 0))
      (λ (e : u ≡ get_or frames i 0).
      rw e (still i h ∙ sym (partly_after frames before after i ∙ after_not w rank labels counts met (get_or frames i 0) k)))
      (λ e. sym (others i u e))

  -- a kept frame's turn puts (rank, level) behind its row
  grown : (i : ℕ) → i < length frames → is_kept (get_or met (get_or frames i 0) 0) ≡ true
      → turn (i + 1) (get_or frames i 0) ≡ turn i (get_or frames i 0) ++ ((rank, get_or met (get_or frames i 0) 0 - 1) ∷ [])
  grown i h k =
      partly_after frames before after i
      ∙ after_kept w rank labels counts met (get_or frames i 0) k
      ∙ ap (λ (x : Row). x ++ ((rank, get_or met (get_or frames i 0) 0 - 1) ∷ [])) (sym (still i h))

  -- so its turn has what it needs
  pub turn_ready : (i : ℕ) {L C : List ℕ} → i < length frames → Laid (length met) w (turn i) L C
      → GiveIn w (get_or frames i 0) (get_or met (get_or frames i 0) 0) L C
  turn_ready i {L} {C} h laid =
      let v : ℕ = get_or frames i 0 in
      let low : v < length met = m.low i h in
      let some : 0 < get_or met v 0 = m.is_met i h in
      let (long_labels, long) = laid_long laid in
      let room : get_or met v 0 < 65536 → get_or C v 0 < w =
      λ k.
      rw (ap (λ (x : List ℕ). get_or x v 0) laid.numbers ∙ count_at_lem (length met) (turn i) v low ∙ ap length (still i h))
      (room_left v low (kept_mark (get_or met v 0) some k)) in
      record {
        met = some;
        inside = omega arith;
        width = s.width;
        room = room;
        place = λ k. rw long_labels (row_place low (room k));
      }

  -- what a turn stores
  pub laid_step : (i : ℕ) {L C L' C' : List ℕ} → i < length frames → Laid (length met) w (turn i) L C
      → L'
      ≡ cond (is_kept (get_or met (get_or frames i 0) 0))
      (set L (get_or frames i 0 * w + get_or C (get_or frames i 0) 0) (entry_of rank (get_or met (get_or frames i 0) 0 - 1))) L
      → C' ≡ cond (is_kept (get_or met (get_or frames i 0) 0)) (set C (get_or frames i 0) (get_or C (get_or frames i 0) 0 + 1)) C
      → Laid (length met) w (turn (i + 1)) L' C'
  laid_step i h laid p q =
      let v : ℕ = get_or frames i 0 in
      let low : v < length met = m.low i h in
      bcase (is_kept (get_or met v 0))
      (λ k.
      let room : length (turn i v) < w = rw (still i h) (room_left v low k) in
      rw (p ∙ cond_true _ _ k, q ∙ cond_true _ _ k)
      (laid_gain (length met) w (turn i) (turn (i + 1)) v (rank, get_or met v 0 - 1) low (grown i h k) (others i) room laid))
      (λ k. rw (p ∙ cond_false _ _ k, q ∙ cond_false _ _ k) (laid_ext (turn (i + 1)) s.wide (λ u l. idle i h k u) laid))

  -- before any turn the rooms hold the rows before the walk
  pub laid_begin : Laid (length met) w (turn 0) labels counts
  laid_begin = laid_ext (turn 0) s.wide (λ v h. sym (partly_none frames before after v)) s.laid

  -- when all have had their turn the rows are those after the walk: a frame not met gets nothing
  all_turns : (v : ℕ) → v < length met → turn (length frames) v ≡ after v
  all_turns v h =
      bcase (is_kept (get_or met v 0))
      (λ k. partly_all frames before after (length frames) v (m.all v h (kept_met (get_or met v 0) k)))
      (λ k. partly_same frames before after (length frames) v (after_not w rank labels counts met v k))

  pub laid_end : {L C : List ℕ} → Laid (length met) w (turn (length frames)) L C → Laid (length met) w after L C
  laid_end = laid_ext after s.wide all_turns

-- ---- which way the walk ends

module _ {w : ℕ} {labels counts met frames : List ℕ} (s : SettleIn w labels counts met frames) where
  pub settle_full : fits_all w counts met ≡ false → settle_of w counts met ≡ Err Full
  unfolding settle_of
  settle_full e = cond_false _ _ e

  -- a walk over at most 4,096 frames gives none over 4,095 joins
  none_far_lem : length frames ≤ 4096 → none_far met ≡ true
  unfolding none_far is_far
  none_far_lem few =
      not_of_false
      (some_none _ 0 (length met)
      (λ v h k.
      lt_or_ge (get_or met v 0) 65536
      (λ plain.
      let near : ltb 4096 (get_or met v 0) ≡ false =
      le-ltb 4096 (get_or met v 0) (omega (arith, s.low.mark v (omega arith) plain)) in
      rw near (and-false (is_kept (get_or met v 0))))
      (λ drop. rw (dropped_mark (get_or met v 0) drop) refl)))

  pub settle_made : fits_all w counts met ≡ true → length frames ≤ 4096 → settle_of w counts met ≡ Ok tt
  unfolding settle_of
  settle_made e few = cond_true _ _ e ∙ cond_true _ _ (none_far_lem few)
