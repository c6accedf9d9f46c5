-- The met room as the first half of a walk leaves it, read by the second half: its marks say what the levels say, so what
-- is stored are the rows after the walk.
use Prim.Native.Nat.{ℕ, ◌+◌, ◌-◌, ◌≤◌, ◌<◌}
use mathlib.Core.Path.{◌≡◌, refl, sym, ap, ◌∙◌}
use mathlib.Core.Bool.{Bool, not, ◌&&◌}
use mathlib.Core.List.{List, [], ◌∷◌, ◌++◌}
use native.Mathlib.Omega.{arith}
use borrow.Author.Tests.{lt-ltb, le-ltb, ltb-true}
use lib.ListN.{length, get_or, replicate}
use lib.Dec.{leb, ltb}
use Rattle.basics.proofs.Laws.{bcase, lt_or_ge, same_truth, cond_true, cond_false, some_ext, length_table, get_d_table}
use Rattle.theory.specs.Distance.{far}
use Rattle.theory.specs.Rows.{Row, keep}
use Rattle.theory.specs.Walk.{walk_row}
use Rattle.rows.specs.Inner.{Laid}
use Rattle.rows.specs.Laid.{rows_in}
use Rattle.walk.specs.Walk.{Walked, so_far, level_of, kept, walk_fits, decided, walked_rows, walk_near, walk_of, if_made}
use Rattle.walk.specs.Inner.{mark, met_room, ExploreIn, is_kept, lacks_room, is_far, fits_all, none_far, gain, rows_after, settle_of, WalkOut}
use Rattle.walk.proofs.BfsWalk.{capped}
use Rattle.rows.proofs.LaidLaws.{laid_ext}
use Rattle.walk.proofs.RoomMarks.{mark_yes, mark_drop, mark_none, kept_mark, unmet_mark, dropped_mark}

-- ---- one mark

module _ (most level answered : ℕ) (few : most < 65535) (cap : answered ≤ most) where
  kept_is : level < answered → mark most level answered ≡ level + 1
  kept_is h = mark_yes most level answered (omega arith) h

  -- it says kept exactly if the frame is met below the answer so far
  mark_kept : is_kept (mark most level answered) ≡ ltb level answered
  mark_kept =
      lt_or_ge level answered
      (λ h.
      ap is_kept (kept_is h) ∙ kept_mark (level + 1) (omega arith) (omega arith) ∙ sym (lt-ltb level answered h))
      (λ h.
      lt_or_ge level most
      (λ l. ap is_kept (mark_drop most level answered l h) ∙ dropped_mark (level + 1 + 65536) (omega arith))
      (λ l. ap is_kept (mark_none most level answered l) ∙ unmet_mark 0 (omega arith))
      ∙ sym (le-ltb level answered h))

  gain_keep : (rank : ℕ) (x : Row) → gain rank (mark most level answered) x ≡ keep rank level answered x
  unfolding gain keep
  gain_keep rank x =
      bcase (ltb level answered)
      (λ e.
      let is : mark most level answered - 1 ≡ level = omega (arith, kept_is (ltb-true level answered e)) in
      cond_true _ _ (mark_kept ∙ e) ∙ ap (λ (j : ℕ). x ++ ((rank, j) ∷ [])) is ∙ sym (cond_true _ _ e))
      (λ e. cond_false _ _ (mark_kept ∙ e) ∙ sym (cond_false _ _ e))

  lacks_is : (w count : ℕ) → lacks_room w count (mark most level answered) ≡ ltb level answered && leb w count
  unfolding lacks_room
  lacks_is w count = ap (λ (b : Bool). b && leb w count) mark_kept

  far_is : is_far (mark most level answered) ≡ ltb level answered && ltb 4095 level
  unfolding is_far
  far_is =
      ap (λ (b : Bool). b && ltb 4096 (mark most level answered)) mark_kept
      ∙ bcase (ltb level answered)
      (λ e.
      let is : mark most level answered ≡ level + 1 = kept_is (ltb-true level answered e) in
      rw e
      (same_truth (ltb 4096 (mark most level answered)) (ltb 4095 level)
      (λ l. lt-ltb 4095 level (omega (arith, ltb-true 4096 (mark most level answered) l)))
      (λ l. lt-ltb 4096 (mark most level answered) (omega (arith, ltb-true 4095 level l)))))
      (λ e. rw e refl)

-- ---- the whole met room

module _ {n w : ℕ} {S L labels counts : List ℕ} {hub : ℕ} {met₀ queue₀ noted : List ℕ}
    (given : ExploreIn n w S L labels counts hub met₀ queue₀ noted) where
  abbrev pub level : ℕ → ℕ
  level = level_of n w S L labels counts hub

  abbrev pub answered : ℕ → ℕ
  answered = so_far n w labels counts hub

  abbrev pub found : List ℕ
  found = met_room n w S L labels counts hub

  length_met : length found ≡ n
  unfolding met_room
  length_met = length_table n (λ v. mark (far 1 n) (level v) (answered v))

  met_at : (v : ℕ) → v < n → get_or found v 0 ≡ mark (far 1 n) (level v) (answered v)
  unfolding met_room
  met_at v h = get_d_table n (λ u. mark (far 1 n) (level u) (answered u)) v 0 h

  few : far 1 n < 65535
  unfolding far
  few = omega (arith, given.frames)

  fits_is : fits_all w counts found ≡ walk_fits n w S L labels counts hub
  unfolding fits_all walk_fits kept
  fits_is =
      rw length_met
      (ap not
      (some_ext _ (λ v. ltb (level v) (answered v) && leb w (get_or counts v 0)) 0 n
      (λ v l h.
      ap (lacks_room w (get_or counts v 0)) (met_at v (omega arith))
      ∙ lacks_is (far 1 n) (level v) (answered v) few (capped n w labels counts hub v) w (get_or counts v 0))))

  none_far_is : none_far found ≡ walk_near n w S L labels counts hub
  unfolding none_far walk_near kept
  none_far_is =
      rw length_met
      (ap not
      (some_ext _
      (λ v. ltb (level v) (answered v) && ltb 4095 (level v)) 0 n
      (λ v l h.
      ap is_far (met_at v (omega arith))
      ∙ far_is (far 1 n) (level v) (answered v) few (capped n w labels counts hub v))))

  settle_is : settle_of w counts found ≡ walk_of n w S L labels counts hub
  unfolding settle_of walk_of
  settle_is =
      λ i. decided (fits_is i) (none_far_is i)

  -- the rows stored are those after the walk
  rows_are : (rank v : ℕ) → v < n → rows_after w rank labels counts found v ≡ walked_rows n w S L labels counts rank hub v
  unfolding rows_after walked_rows walk_row level_of so_far rows_in
  rows_are rank v h =
      ap (λ (m : ℕ). gain rank m (rows_in w labels counts v)) (met_at v h)
      ∙ gain_keep (far 1 n) (level v) (answered v) few (capped n w labels counts hub v) rank
      (rows_in w labels counts v)

  -- the same for a met room that is the one the first half leaves
  module _ {met : List ℕ} (is : met ≡ found) where
    pub met_long : length met ≡ n
    met_long = ap length is ∙ length_met

    settled_is : settle_of w counts met ≡ walk_of n w S L labels counts hub
    settled_is = ap (settle_of w counts) is ∙ settle_is

    after_is : (rank v : ℕ) → v < n → rows_after w rank labels counts met v ≡ walked_rows n w S L labels counts rank hub v
    after_is rank v h = ap (λ (m : List ℕ). rows_after w rank labels counts m v) is ∙ rows_are rank v h

    -- what the second half leaves, told by levels
    pub walk_left : (rank : ℕ) → {walked : Walked} {labels' counts' met' queue' : List ℕ} → walked ≡ settle_of w counts met
        → Laid (length met) w (λ v. if_made walked (rows_after w rank labels counts met v) (rows_in w labels counts v)) labels' counts'
        → met' ≡ replicate (length met) 0 → queue' ≡ replicate (length met) 0
        → WalkOut n w S L labels counts rank hub walked labels' counts' met' queue'
    walk_left rank {walked} answer laid m q =
        record {
          answer = answer ∙ settled_is;
          laid =
              laid_ext _ given.wide (λ v h. ap (λ (x : Row). if_made walked x (rows_in w labels counts v)) (after_is rank v h))
              (rw met_long at laid);
          met_zero = m ∙ ap (λ (j : ℕ). replicate j 0) met_long;
          queue_zero = q ∙ ap (λ (j : ℕ). replicate j 0) met_long;
        }
