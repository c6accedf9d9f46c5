-- The state of a run between two walks: rooms that hold the rule's rows at the rank reached, work rooms 0, and no rank
-- before it that stops. One walk takes it to the next rank, or the run ends there.
use Rattle.refusal.specs.Tests.{Verdict, fine, Refusal}
use Rattle.std.specs.Prelude.{Ok, Err}
use Prim.Native.Nat.{ℕ, ◌+◌, ◌*◌, ◌≤◌, ◌<◌}
use mathlib.Core.Path.{◌≡◌, refl, sym, ap, ◌∙◌}
use mathlib.Core.Bool.{true, false, not}
use mathlib.Core.List.{List}
use native.Mathlib.Numerals.{add-one}
use native.Mathlib.Omega.{arith}
use borrow.Author.Count.{below_more}
use lib.ListN.{length, replicate, length-replicate}
use Rattle.basics.proofs.Laws.{bcase, neither, either_left, either_right, cond_true, cond_false}
use Rattle.refusal.proofs.Laws.{fine_not_refused}
use Rattle.theory.specs.Links.{hub_of}
use Rattle.theory.specs.Rows.{Row}
use Rattle.theory.specs.Plain.{row_by}
use Rattle.build.specs.Build.{full_at, far_at, stops, stop_at, walks_test}
use Rattle.build.specs.Inner.{refusal_of, walk_verdict, RunIn, RunOut}
use Rattle.rows.specs.Laid.{labels_of, counts_of}
use Rattle.rows.specs.Inner.{Laid}
use Rattle.walk.specs.Inner.{WalkIn, WalkOut}
use Rattle.walk.specs.Walk.{Walked, decided, walked_rows, if_made}
use Rattle.walk.specs.declared.Unmade.TheVariants.{Full, Far}
use Rattle.rows.proofs.LaidLaws.{laid_long, laid_ext, length_labels}
use Rattle.build.proofs.RunLaws.{Ruled, rows_back, laid_back, sound_back, rows_next, walk_is}
use Rattle.build.proofs.RunStops.{laid_empty, fit_upto, stop_here, run_full, run_far, run_end, at_end}

made_is : {walked : Walked} → walked ≡ Ok tt → (x y : Row) → if_made walked x y ≡ x
unfolding if_made
made_is e x y = ap (λ (z : Walked). if_made z x y) e

pub record Running (n w k : ℕ) (S L O : List ℕ) (r : ℕ) (labels counts met queue noted : List ℕ) : Type 0 where
  pub upto : r ≤ k
  pub laid : Laid n w (row_by n S L O r) labels counts
  pub met_zero : met ≡ replicate n 0
  pub queue_zero : queue ≡ replicate n 0
  pub noted_lacking : noted ≡ replicate 4096 65536
  pub none : (j : ℕ) → j < r → stops n w S L O j ≡ false

pub run_begins : {n w k : ℕ} {S L O labels counts met queue noted : List ℕ} → RunIn n w k S L O labels counts met queue noted
    → Running n w k S L O 0 labels counts met queue noted
run_begins {n} {w} {k} {S} {L} {O} i =
    record {
      upto = omega arith;
      laid = rw (i.labels_zero, i.counts_zero) (laid_empty n w S L O);
      met_zero = i.met_zero;
      queue_zero = i.queue_zero;
      noted_lacking = i.noted_lacking;
      none = λ j h. absurd (omega arith);
    }

pub run_ends : {n w k : ℕ} {S L O labels counts met queue noted : List ℕ} {r : ℕ} → k ≤ r
    → Running n w k S L O r labels counts met queue noted → RunOut n w k S L O fine labels counts met queue
run_ends {n} {w} {k} {S} {L} {O} {r = r} h s =
    let none : (j : ℕ) → j < k → stops n w S L O j ≡ false = λ j l. s.none j (omega arith) in
    let fine : walks_test n w k S L O ≡ fine = run_end n w S L O k none in
    let at : r ≡ stop_at n w k S L O = omega (arith, at_end n w S L O k fine, s.upto) in
    record {
      answer = sym fine;
      laid = rw at at s.laid;
      met_zero = s.met_zero;
      queue_zero = s.queue_zero;
    }

-- the rooms are as long as they were lent
pub record AsLong (labels₀ counts₀ met₀ queue₀ noted₀ labels counts met queue noted : List ℕ) : Type 0 where
  pub of_labels : length labels ≡ length labels₀
  pub of_counts : length counts ≡ length counts₀
  pub of_met : length met ≡ length met₀
  pub of_queue : length queue ≡ length queue₀
  pub of_noted : length noted ≡ length noted₀

pub run_lengths : {n w k r : ℕ} {S L O labels₀ counts₀ met₀ queue₀ noted₀ labels counts met queue noted : List ℕ}
    → RunIn n w k S L O labels₀ counts₀ met₀ queue₀ noted₀ → Running n w k S L O r labels counts met queue noted
    → AsLong labels₀ counts₀ met₀ queue₀ noted₀ labels counts met queue noted
run_lengths {n} {w} i s =
    record {
      of_labels = (laid_long s.laid).0 ∙ sym (ap length i.labels_zero ∙ length-replicate (n * w) 0);
      of_counts = (laid_long s.laid).1 ∙ sym (ap length i.counts_zero ∙ length-replicate n 0);
      of_met = ap length (s.met_zero ∙ sym i.met_zero);
      of_queue = ap length (s.queue_zero ∙ sym i.queue_zero);
      of_noted = ap length (s.noted_lacking ∙ sym i.noted_lacking);
    }

module _ {n w k : ℕ} {S L O labels₀ counts₀ met₀ queue₀ noted₀ labels counts met queue noted : List ℕ} {r : ℕ}
    (i : RunIn n w k S L O labels₀ counts₀ met₀ queue₀ noted₀) (s : Running n w k S L O r labels counts met queue noted)
    (h : r < k) where
  below : r < n
  below = omega (arith, i.given.stop)

  ruled : Ruled n w k S L O r
  ruled = record { given = i.given; below = omega arith; fit = fit_upto n w S L O r s.none }

  pub run_long : length counts ≡ n
  run_long = (laid_long s.laid).1

  -- the walk of rank r may begin
  pub run_ready : WalkIn (length counts) w S L labels counts (hub_of O r) met queue noted
  run_ready =
      rw (run_long, s.laid.rows, s.laid.numbers)
      (record {
        ready =
            record {
              frames = i.given.sizes.frames;
              wide = i.given.sizes.some_width;
              width = i.given.sizes.width;
              block = i.given.block;
              labels_long = length_labels n w (row_by n S L O r);
              rows = sound_back ruled;
              hub_in = i.given.order.inside r below;
              met_zero = s.met_zero;
              queue_zero = s.queue_zero;
              noted_lacking = s.noted_lacking;
            };
        laid = laid_back ruled;
      })

  module _ {walked : Walked} {labels' counts' met' queue' noted' : List ℕ}
      (o : WalkOut (length counts) w S L labels counts r (hub_of O r) walked labels' counts' met' queue')
      (notes : noted' ≡ noted) where
    out : WalkOut n w S L (labels_of n w (row_by n S L O r)) (counts_of n (row_by n S L O r)) r (hub_of O r) walked labels' counts' met' queue'
    out = rw (run_long, s.laid.rows, s.laid.numbers) at o

    which : walked ≡ decided (not (full_at n w S L O r)) (not (far_at n S L O r))
    which = out.answer ∙ walk_is ruled below

    -- it is full, else far, else made
    by_walk {ℓ} : {C : Type ℓ} → (full_at n w S L O r ≡ true → walked ≡ Err Full → C)
        → (full_at n w S L O r ≡ false → far_at n S L O r ≡ true → walked ≡ Err Far → C)
        → (full_at n w S L O r ≡ false → far_at n S L O r ≡ false → walked ≡ Ok tt → C) → C
    by_walk full distant made =
        bcase (full_at n w S L O r)
        (λ e. full e (which ∙ cond_false _ _ (ap not e)))
        (λ e.
        bcase (far_at n S L O r)
        (λ f. distant e f (which ∙ cond_true _ _ (ap not e) ∙ cond_false _ _ (ap not f)))
        (λ f. made e f (which ∙ cond_true _ _ (ap not e) ∙ cond_true _ _ (ap not f))))

    -- a walk that is made takes the run to the next rank
    next : full_at n w S L O r ≡ false → far_at n S L O r ≡ false → walked ≡ Ok tt
        → Running n w k S L O (r + 1) labels' counts' met' queue' noted'
    next e f made =
        let after : (v : ℕ) → v < n
        → walked_rows n w S L (labels_of n w (row_by n S L O r)) (counts_of n (row_by n S L O r)) r (hub_of O r) v ≡ row_by n S L O (r + 1) v =
        λ v l.
        rows_next ruled below v l
        ∙ ap (λ (j : ℕ). row_by n S L O j v) (sym (add-one r)) in
        record {
          upto = omega arith;
          laid = laid_ext (row_by n S L O (r + 1)) i.given.sizes.some_width (λ v l. made_is made _ _ ∙ after v l) out.laid;
          met_zero = out.met_zero;
          queue_zero = out.queue_zero;
          noted_lacking = notes ∙ s.noted_lacking;
          none = below_more _ r s.none (neither (full_at n w S L O r) (far_at n S L O r) e f);
        }

    -- a walk that is not made ends it at this rank, with rows and counts as they were
    stopped : {verdict : Verdict} {how : Walked} → verdict ≡ walk_verdict walked r → walked ≡ how
        → ((x y : Row) → if_made how x y ≡ y) → stops n w S L O r ≡ true → walks_test n w k S L O ≡ walk_verdict how r
        → RunOut n w k S L O verdict labels' counts' met' queue'
    stopped said is still e test =
        let at : r ≡ stop_at n w k S L O = sym (stop_here n w S L O k r h s.none e) in
        let same : (x y : Row) → if_made walked x y ≡ y = λ x y. ap (λ (z : Walked). if_made z x y) is ∙ still x y in
        record {
          answer = said ∙ ap (λ (z : Walked). walk_verdict z r) is ∙ sym test;
          laid =
              rw at at
              (laid_ext (row_by n S L O r) i.given.sizes.some_width (λ v l. same _ _ ∙ rows_back ruled v l) out.laid);
          met_zero = out.met_zero;
          queue_zero = out.queue_zero;
        }

    pub run_next : walk_verdict walked r ≡ fine → Running n w k S L O (r + 1) labels' counts' met' queue' noted'
    unfolding walk_verdict
    run_next fine =
        by_walk
        (λ e is. fine_not_refused (sym fine ∙ ap (λ (z : Walked). walk_verdict z r) is))
        (λ e f is. fine_not_refused (sym fine ∙ ap (λ (z : Walked). walk_verdict z r) is))
        next

    pub run_stops : {verdict : Verdict} {refused : Refusal} → verdict ≡ walk_verdict walked r → verdict ≡ Err refused
        → RunOut n w k S L O verdict labels' counts' met' queue'
    unfolding walk_verdict if_made refusal_of
    run_stops said not-fine =
        by_walk
        (λ e is.
        stopped said is (λ x y. refl) (either_left (full_at n w S L O r) (far_at n S L O r) e) (run_full n w S L O k r h s.none e))
        (λ e f is.
        stopped said is (λ x y. refl) (either_right (full_at n w S L O r) (far_at n S L O r) f) (run_far n w S L O k r h s.none e f))
        (λ e f is. fine_not_refused (sym (said ∙ ap (λ (z : Walked). walk_verdict z r) is) ∙ not-fine))
