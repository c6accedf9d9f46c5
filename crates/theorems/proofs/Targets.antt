-- Over an index of all hubs the nearest target is truly the nearest, and the joins by which frames are counted are the true ones:
-- both go through the pair question, whose answers are.
use Rattle.refusal.specs.Tests.{fine}
use Rattle.std.specs.Prelude.{Ok}
use Prim.Native.Nat.{ℕ, ◌≤◌, ◌<◌}
use mathlib.Core.Path.{◌≡◌, refl, sym, subst}
use mathlib.Core.Bool.{true}
use mathlib.Core.List.{List}
use native.Mathlib.Omega.{arith}
use borrow.Author.Tests.{lt-ltb, le-ltb}
use lib.ListN.{length, get_or}
use Rattle.basics.proofs.Laws.{lt_or_ge, cases, cond_true, cond_false, least_le, least_found}
use Rattle.theory.specs.Chains.{joins, Least}
use Rattle.theory.specs.Distance.{said}
use Rattle.rows.specs.Rooms.{sound_row}
use Rattle.rows.proofs.PairLaws.{pair_asked}
use Rattle.targets.specs.Inner.{FramesIn}
use Rattle.targets.specs.Nearest.{nearest_tests, nearest_of}
use Rattle.targets.specs.Sixteen.{sixteen_tests}
use Rattle.targets.specs.Targets.{apart, joins_to, fewest_joins}
use Rattle.targets.proofs.Literal.{pair_said, FirstOfFewest, nearest_literal, nearest_passes, sixteen_passes}
use Rattle.build.specs.Build.{build_outcome, build_of}
use Rattle.theorems.specs.Demands.{Joins}
use Rattle.theorems.specs.Targets.{ToTarget, NearestIs, TrulyNearest}
use Rattle.theorems.proofs.Answers.{answer_true}
use Rattle.theorems.proofs.Built.{built_tests, built_held}
use Rattle.theorems.proofs.Held.{Held, held_fine}

-- a least number said, where it is below `apart`, and against any other
module _ (Q : ℕ → Type 0) (m : ℕ) (least : Least Q (said apart m)) where
  said_reached : m < apart → Least Q (joins m)
  unfolding said
  said_reached h = subst (Least Q) (cond_true _ _ (lt-ltb m apart h)) least

  said_most : (j : ℕ) → Q j → (m < apart) × (m ≤ j)
  unfolding said Least
  said_most j q =
      lt_or_ge m apart
      (λ h. (h, (said_reached h).1 j q))
      (λ h. absurd (subst (Least Q) (cond_false _ _ (le-ltb m apart h)) least j q))

module _ {n w k : ℕ} {S L O labels counts : List ℕ} (h : Held n w k S L O labels counts) (whole : k ≡ n) (fs : List ℕ) (frames : FramesIn n fs) where
  sound : (v : ℕ) → v < n → sound_row n w n labels counts v ≡ true
  sound v p = (pair_asked n w labels counts v v (held_fine h v v p p)).first_sound

  -- the joins from a frame to a record are the true count
  joins_true : (v i : ℕ) → v < n → i < length fs → Least (Joins S L v (get_or fs i 0)) (said apart (joins_to w labels counts fs v i))
  joins_true v i p l =
      let q : get_or fs i 0 < n = frames.low i l in
      subst (Least (Joins S L v (get_or fs i 0))) (pair_said h.rooms fs v i p q (sound v p) (sound (get_or fs i 0) q))
      (answer_true h whole v (get_or fs i 0) p q)

  -- no refusal for at most sixteen records of frames below n
  pub nearest_taken : (asked : ℕ) → asked < n → nearest_tests n w labels counts asked fs ≡ fine
  nearest_taken asked p =
      nearest_passes (record {
        rooms = h.rooms;
        inside = p;
        frames = frames;
        asked_sound = sound asked p;
        sound = λ i l. sound (get_or fs i 0) (frames.low i l);
      })

  pub sixteen_taken : sixteen_tests n w labels counts fs ≡ fine
  sixteen_taken = sixteen_passes (record { rooms = h.rooms; frames = frames; sound = sound })

  -- the record named is the first of those truly fewest joins away
  named_true : (asked i : ℕ) → asked < n → FirstOfFewest w labels counts asked fs i → NearestIs S L asked fs i
  unfolding Least
  named_true asked i p f = record {
    inside = f.place;
    away = joins_to w labels counts fs asked i;
    true_count = said_reached (Joins S L asked (get_or fs i 0)) _ (joins_true asked i p f.place) f.some;
    fewest = λ j m l c. omega (arith, f.fewest j l, (said_most (Joins S L asked (get_or fs j 0)) _ (joins_true asked j p l) m c).1);
    before = λ j m l c.
        let inside : j < length fs = omega (arith, f.place) in
        omega (arith, f.before j l, (said_most (Joins S L asked (get_or fs j 0)) _ (joins_true asked j p inside) m c).1);
  }

  pub nearest_true : (asked : ℕ) → asked < n → TrulyNearest S L asked fs (nearest_of n w labels counts asked fs)
  unfolding TrulyNearest
  nearest_true asked p =
      cases (nearest_literal w labels counts asked fs n (nearest_taken asked p))
      (λ x.
      let (i, e, f) = x in
      subst (TrulyNearest S L asked fs) (sym e) (named_true asked i p f))
      (λ x.
      let (e, all_apart) = x in
      subst (TrulyNearest S L asked fs) (sym e)
      (λ m t. absurd (omega (arith, all_apart t.place t.inside, (said_most (Joins S L asked (get_or fs t.place 0)) _ (joins_true asked t.place p t.inside) m t.chain).0))))

  -- and every frame is counted by the true count to its nearest target
  pub fewest_true : (v : ℕ) → v < n → Least (ToTarget S L fs v) (said apart (fewest_joins w labels counts fs v))
  unfolding fewest_joins Least said
  fewest_true v p =
      let f : ℕ → ℕ = joins_to w labels counts fs v in
      let fewest : ℕ = fewest_joins w labels counts fs v in
      let all : (m : ℕ) → ToTarget S L fs v m → (fewest < apart) × (fewest ≤ m) =
      λ m t.
      let (some, most) = said_most (Joins S L v (get_or fs t.place 0)) (f t.place) (joins_true v t.place p t.inside) m t.chain in
      let low : fewest ≤ f t.place = least_le apart (length fs) f t.place t.inside in
      (omega (arith, some), omega (arith, most)) in
      lt_or_ge fewest apart
      (λ b.
      let (i, inside, e) = least_found apart (length fs) f b in
      let here : Least (Joins S L v (get_or fs i 0)) (joins fewest) =
      subst (λ (m : ℕ). Least (Joins S L v (get_or fs i 0)) (joins m)) e (said_reached (Joins S L v (get_or fs i 0)) _ (joins_true v i p inside) (omega arith)) in
      subst (Least (ToTarget S L fs v)) (sym (cond_true _ _ (lt-ltb fewest apart b)))
      (record { place = i; inside = inside; chain = here.0 }, λ m t. (all m t).1))
      (λ b. subst (Least (ToTarget S L fs v)) (sym (cond_false _ _ (le-ltb fewest apart b))) (λ m t. absurd (omega (arith, (all m t).0))))

-- ---- of the rooms of an unrefused build to k = n

module _ (n w : ℕ) (S L O labels counts met queue : List ℕ) (entries : ℕ) (labels' counts' met' queue' : List ℕ)
    (built : build_outcome (Ok entries) labels' counts' met' queue' ≡ build_of n w n S L O labels counts met queue)
    (fs : List ℕ) (frames : FramesIn n fs) where
  made : Held n w n S L O labels' counts'
  made = built_held (built_tests n w n S L O labels counts met queue entries labels' counts' met' queue' built)

  pub built_nearest : (asked : ℕ) → asked < n → TrulyNearest S L asked fs (nearest_of n w labels' counts' asked fs)
  built_nearest = nearest_true made refl fs frames

  pub built_fewest : (v : ℕ) → v < n → Least (ToTarget S L fs v) (said apart (fewest_joins w labels' counts' fs v))
  built_fewest = fewest_true made refl fs frames
