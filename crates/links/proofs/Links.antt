-- The tests on a block of links: that sizes and lengths tested first leave tests 3 and 4, that these passed give what the
-- theory asks of a block, and that such a block passes.
use Rattle.std.specs.Prelude.{Err}
use Prim.Native.Nat.{ℕ, ◌+◌, ◌-◌, ◌≤◌, ◌<◌}
use mathlib.Core.Path.{◌≡◌, refl, sym, ap, ◌∙◌}
use mathlib.Core.Bool.{Bool, true, false, not, ◌||◌, ◌&&◌, and-false, or-true}
use mathlib.Core.List.{List}
use native.Mathlib.Omega.{arith}
use lib.ListN.{length, get_or}
use lib.Dec.{leb, ltb, eqb}
use borrow.Author.Tests.{le-leb, lt-leb, lt-ltb, le-ltb, eq-eqb, ne_eqb, leb-false, ltb-false, eqb-true, eqb-false, not-false, not-true}
use Rattle.basics.specs.Places.{first, some}
use Rattle.basics.proofs.Laws.{lt_or_ge, both, both_true, either_false, either_right, neither, not_of_true, not_of_false, cond_true, cond_false, never_falls, some_none, some_one, some_found, some_not, some_first, none_first}
use Rattle.refusal.specs.Numbers.{SIZE, LENGTH, STARTS, LINKS}
use Rattle.refusal.specs.Sizes.{frames_fit, places_fit}
use Rattle.refusal.specs.Tests.{test, ◌then◌, refusal, fine}
use Rattle.refusal.proofs.Laws.{test_fine, test_refused, test_held, after_fine, after_refused, then_fine, lowest_fine, lowest_refused, lowest_none, none_lowest}
use Rattle.refusal.proofs.SizeLaws.{frames_fit_lem, frames_held, places_fit_lem, places_held}
use Rattle.theory.specs.Links.{Block, Link}
use Rattle.theory.specs.Plain.{ones}
use Rattle.links.specs.Links.{falls, starts_right, degree, holds, faulty_link, faulty_list, sizes_test, starts_test, lists_test, check_links}
use Rattle.links.specs.Inner.{Fits, Starts, ListIn, floor_of, faulty_from}

-- ---- sizes and lengths

-- sizes that fit leave the length, and others are refused
pub sizes_in : (n : ℕ) (S L : List ℕ) → frames_fit n && places_fit (length L) ≡ true
    → sizes_test n S L ≡ test (eqb (length S) (n + 1)) LENGTH 0
unfolding sizes_test
sizes_in n S L e = after_fine _ (test_fine _ _ e)

pub sizes_out : (n : ℕ) (S L : List ℕ) → frames_fit n && places_fit (length L) ≡ false → sizes_test n S L ≡ Err (refusal SIZE 0)
unfolding sizes_test
sizes_out n S L e = after_refused _ (test_refused _ _ e)

-- sizes and lengths that fit pass tests 1 and 2, and no others do
pub sizes_pass : (n : ℕ) (S L : List ℕ) → Fits n S L → sizes_test n S L ≡ fine
sizes_pass n S L f =
    sizes_in n S L (both _ _ (frames_fit_lem n f.one f.frames) (places_fit_lem (length L) f.places))
    ∙ test_fine _ _ (eq-eqb (length S) (n + 1) f.long)

pub sizes_held : (n : ℕ) (S L : List ℕ) → sizes_test n S L ≡ fine → Fits n S L
unfolding sizes_test
sizes_held n S L fine =
    let (sizes, long) = then_fine _ _ fine in
    let (frames, places) = both_true (frames_fit n) (places_fit (length L)) (test_held _ _ _ sizes) in
    let (one, most) = frames_held n frames in
    record {
      one = one;
      frames = most;
      places = places_held _ places;
      long = eqb-true _ _ (test_held _ _ _ long);
    }

-- where sizes and lengths fit, check links is tests 3 and 4
pub links_alone : (n : ℕ) (S L : List ℕ) → Fits n S L → check_links n S L ≡ (starts_test n S L then lists_test n S L)
unfolding check_links
links_alone n S L f = after_fine _ (sizes_pass n S L f)

-- ---- start positions

pub starts_front : (n : ℕ) (S L : List ℕ) → (get_or S 0 0 ≡ 0 → ⊥) → starts_right n S L ≡ false
unfolding starts_right
starts_front n S L other = rw (ne_eqb (get_or S 0 0) 0 other) refl

pub starts_fall : (n : ℕ) (S L : List ℕ) → some (falls S) 0 n ≡ true → starts_right n S L ≡ false
unfolding starts_right
starts_fall n S L e = rw (e, and-false) refl

pub starts_last : (n : ℕ) (S L : List ℕ) → get_or S 0 0 ≡ 0 → some (falls S) 0 n ≡ false
    → starts_right n S L ≡ eqb (get_or S n 0) (length L)
unfolding starts_right
starts_last n S L front e = rw (eq-eqb (get_or S 0 0) 0 front, e) refl

-- ---- tests 3 and 4 in a row

pub right_starts : (n : ℕ) (S L : List ℕ) → starts_test n S L ≡ fine → starts_right n S L ≡ true
unfolding starts_test
right_starts n S L fine = test_held _ _ _ fine

pub tests_starts : (n : ℕ) (S L : List ℕ) → starts_right n S L ≡ false
    → (starts_test n S L then lists_test n S L) ≡ Err (refusal STARTS 0)
unfolding starts_test
tests_starts n S L e = after_refused _ (test_refused _ _ e)

pub tests_lists : (n : ℕ) (S L : List ℕ) (v : ℕ) → starts_right n S L ≡ true → v ≡ first (faulty_list n S L) 0 n
    → (v ≡ n → ⊥) → (starts_test n S L then lists_test n S L) ≡ Err (refusal LINKS v)
unfolding starts_test lists_test
tests_lists n S L v e here other =
    after_fine _ (test_fine _ _ e) ∙ lowest_refused _ n LINKS here other

pub tests_fine : (n : ℕ) (S L : List ℕ) (v : ℕ) → starts_right n S L ≡ true → v ≡ first (faulty_list n S L) 0 n
    → v ≡ n → (starts_test n S L then lists_test n S L) ≡ fine
unfolding starts_test lists_test
tests_fine n S L v e here whole =
    after_fine _ (test_fine _ _ e) ∙ lowest_fine _ n LINKS here whole

-- ---- start positions that are kept

-- start positions that keep their rule, at sizes and lengths that fit
pub starts_kept : (n : ℕ) (S L : List ℕ) → starts_right n S L ≡ true → Fits n S L → Starts n S L
unfolding starts_right
starts_kept n S L right fits =
    let (begin, last) =
    both_true (eqb (get_or S 0 0) 0 && not (some (falls S) 0 n)) (eqb (get_or S n 0) (length L)) right in
    let (front, rise) = both_true (eqb (get_or S 0 0) 0) (not (some (falls S) 0 n)) begin in
    record {
      fits = fits;
      front = eqb-true _ _ front;
      rise = λ v h. ltb-false _ _ (some_not (falls S) 0 n v (not-true _ rise) (omega arith) (omega arith));
      last = eqb-true _ _ last;
    }

-- start positions never fall
pub starts_rise : {n : ℕ} (S : List ℕ) {L : List ℕ} → Starts n S L → (u v : ℕ) → u ≤ v → v ≤ n → get_or S u 0 ≤ get_or S v 0
starts_rise {n} S s = never_falls (λ v. get_or S v 0) n s.rise

-- a list lies within the neighbour places
pub starts_within : {n : ℕ} (S : List ℕ) {L : List ℕ} → Starts n S L → (v : ℕ) → v ≤ n → get_or S v 0 ≤ length L
starts_within {n} S s v h = omega (arith, s.last, starts_rise S s v n h (omega arith))

pub list_in : {n : ℕ} (S : List ℕ) {L : List ℕ} → Starts n S L → (v : ℕ) → v < n → ListIn S L v
list_in S s v h = record {
  frame = omega (arith, s.fits.long);
  rise = s.rise v h;
  within = starts_within S s (v + 1) (omega arith);
  low = omega (arith, s.fits.frames);
  places = s.fits.places;
}

-- ---- the mirror

-- a place of w's list that holds v is enough
pub holds_at_lem : (S L : List ℕ) (w v i : ℕ) → get_or S w 0 ≤ i → i < get_or S (w + 1) 0 → get_or L i 0 ≡ v → holds S L w v ≡ true
unfolding holds degree
holds_at_lem S L w v i low high e =
    some_one (λ j. eqb (get_or L j 0) v) (get_or S w 0) (degree S w) i low (omega arith) (eq-eqb _ _ e)

-- a search of w's list that ends before its end has found v
pub holds_found : (S L : List ℕ) (w v i : ℕ) → get_or S w 0 ≤ get_or S (w + 1) 0
    → i ≡ first (λ j. eqb (get_or L j 0) v) (get_or S w 0) (get_or S (w + 1) 0 - get_or S w 0) → i < get_or S (w + 1) 0
    → holds S L w v ≡ true
unfolding holds degree
holds_found S L w v i rise e h = some_first (λ j. eqb (get_or L j 0) v) (get_or S w 0) (degree S w) (omega arith)

pub holds_not : (S L : List ℕ) (w v i : ℕ) → get_or S w 0 ≤ get_or S (w + 1) 0
    → i ≡ first (λ j. eqb (get_or L j 0) v) (get_or S w 0) (get_or S (w + 1) 0 - get_or S w 0) → get_or S (w + 1) 0 ≤ i
    → holds S L w v ≡ false
unfolding holds degree
holds_not S L w v i rise e h = none_first (λ j. eqb (get_or L j 0) v) (get_or S w 0) (degree S w) (omega arith)

-- ---- a faulty link, and a sound one

ltb_next : (a b : ℕ) → ltb a (b + 1) ≡ leb a b
ltb_next a b =
    lt_or_ge b a
    (λ l. le-ltb a (b + 1) (omega arith) ∙ sym (lt-leb a b l))
    (λ g. lt-ltb a (b + 1) (omega arith) ∙ sym (le-leb a b g))

module _ (n : ℕ) (S L : List ℕ) (v floor w : ℕ) where
  pub link_out : n ≤ w → faulty_from n S L v floor w ≡ true
  unfolding faulty_from
  link_out h = rw (le-leb n w h) refl

  pub link_self : w ≡ v → faulty_from n S L v floor w ≡ true
  unfolding faulty_from
  link_self e = rw (eq-eqb w v e, or-true) refl

  pub link_low : w < floor → faulty_from n S L v floor w ≡ true
  unfolding faulty_from
  link_low h = rw (lt-ltb w floor h, or-true) refl

  pub link_alone : holds S L w v ≡ false → faulty_from n S L v floor w ≡ true
  unfolding faulty_from
  link_alone e = either_right (leb n w || eqb w v || ltb w floor) _ (not_of_false e)

  pub link_fine : w < n → (w ≡ v → ⊥) → floor ≤ w → holds S L w v ≡ true → faulty_from n S L v floor w ≡ false
  unfolding faulty_from
  link_fine inside apart above mirror =
      neither _ _ (neither _ _ (neither _ _ (lt-leb n w inside) (ne_eqb w v apart)) (le-ltb w floor above)) (not_of_true mirror)

-- the least frame that may stand: at the front any, behind a link one above it
pub floor_front : (S L : List ℕ) (v i : ℕ) → i ≤ get_or S v 0 → floor_of S L v i ≡ 0
unfolding floor_of
floor_front S L v i h = cond_false _ _ (le-ltb (get_or S v 0) i h)

pub floor_behind : (S L : List ℕ) (v i : ℕ) → get_or S v 0 ≤ i → floor_of S L v (i + 1) ≡ get_or L i 0 + 1
unfolding floor_of
floor_behind S L v i h =
    cond_true _ _ (lt-ltb (get_or S v 0) (i + 1) (omega arith))
    ∙ ap (λ (k : ℕ). get_or L k 0 + 1) (let e : i + 1 - 1 ≡ i = omega arith in e)

-- a faulty link by the floor at its place
pub link_from : (n : ℕ) (S L : List ℕ) (v i : ℕ) → faulty_from n S L v (floor_of S L v i) (get_or L i 0) ≡ faulty_link n S L v i
unfolding faulty_from faulty_link floor_of
link_from n S L v i =
    lt_or_ge (get_or S v 0) i
    (λ l. rw (lt-ltb (get_or S v 0) i l, ltb_next (get_or L i 0) (get_or L (i - 1) 0)) refl)
    (λ g. rw (le-ltb (get_or S v 0) i g, le-ltb (get_or L i 0) 0 (omega arith)) refl)

-- what a link that is not faulty keeps
pub record Sound (n : ℕ) (S L : List ℕ) (v i : ℕ) : Type 0 where
  pub inside : get_or L i 0 < n
  pub apart : get_or L i 0 ≡ v → ⊥
  pub above : get_or S v 0 < i → get_or L (i - 1) 0 < get_or L i 0
  pub mirror : holds S L (get_or L i 0) v ≡ true

pub link_sound : (n : ℕ) (S L : List ℕ) (v i : ℕ) → faulty_link n S L v i ≡ false → Sound n S L v i
unfolding faulty_link
link_sound n S L v i fine =
    let w : ℕ = get_or L i 0 in
    let c : Bool = ltb (get_or S v 0) i && leb w (get_or L (i - 1) 0) in
    let (abc, d) = either_false (leb n w || eqb w v || c) (not (holds S L w v)) fine in
    let (ab, c-not) = either_false (leb n w || eqb w v) c abc in
    let (a, b) = either_false (leb n w) (eqb w v) ab in
    record {
      inside = leb-false n w a;
      apart = eqb-false w v b;
      above = λ h. leb-false w (get_or L (i - 1) 0) (sym (ap (λ (t : Bool). t && leb w (get_or L (i - 1) 0)) (lt-ltb _ _ h)) ∙ c-not);
      mirror = not-false _ d;
    }

-- test 4 passed leaves no faulty link
pub lists_sound : (n : ℕ) (S L : List ℕ) → lists_test n S L ≡ fine → (v i : ℕ) → v < n → get_or S v 0 ≤ i
    → i < get_or S (v + 1) 0 → Sound n S L v i
unfolding lists_test faulty_list degree
lists_sound n S L fine v i h low high =
    link_sound n S L v i
    (some_not (faulty_link n S L v) (get_or S v 0) (degree S v) i (lowest_none (faulty_list n S L) n LINKS fine v h) low (omega arith))

-- the mirror as the theory has it
pub holds_link : (S L : List ℕ) (w v : ℕ) → holds S L w v ≡ true → Link S L ones w v 1
unfolding holds degree
holds_link S L w v e =
    let (i, low, high, there) = some_found (λ i. eqb (get_or L i 0) v) (get_or S w 0) (degree S w) e in
    record { at = i; from = low; upto = omega arith; holds = eqb-true _ _ there; costs = refl }

-- tests 3 and 4 passed give a block
pub links_sound : (n : ℕ) (S L : List ℕ) → Fits n S L → starts_test n S L ≡ fine → lists_test n S L ≡ fine
    → Block n 1 S L ones
links_sound n S L fits starts lists =
    let s : Starts n S L = starts_kept n S L (right_starts n S L starts) fits in
    let at : (v i : ℕ) → v < n → get_or S v 0 ≤ i → i < get_or S (v + 1) 0 → Sound n S L v i = lists_sound n S L lists in
    record {
      some = fits.one;
      long = fits.long;
      front = s.front;
      rise = s.rise;
      last = s.last;
      rising = λ v i h low high.
          let e : i + 1 - 1 ≡ i = omega arith in
          omega
          (arith, ap (λ (k : ℕ). get_or L k 0) e, (at v (i + 1) h (omega arith) high).above (omega arith));
      inside = λ v i h low high. (at v i h low high).inside;
      apart = λ v i h low high. (at v i h low high).apart;
      mirror = λ v i h low high. holds_link S L (get_or L i 0) v (at v i h low high).mirror;
      least = λ i h. omega arith;
      most = λ i h. omega arith;
    }

-- ---- a block passes

module _ {n : ℕ} (S L : List ℕ) (b : Block n 1 S L ones) where
  block_starts : starts_right n S L ≡ true
  unfolding starts_right
  block_starts =
      both _ _
      (both _ _ (eq-eqb _ _ b.front)
      (not_of_false (some_none (falls S) 0 n (λ v low high. le-ltb _ _ (b.rise v (omega arith))))))
      (eq-eqb _ _ b.last)

  -- a link stands above the one before it
  block_above : (v i : ℕ) → v < n → get_or S v 0 ≤ i → i < get_or S (v + 1) 0 → floor_of S L v i ≤ get_or L i 0
  block_above v i h low high =
      lt_or_ge (get_or S v 0) i
      (λ l.
      let k : ℕ = i - 1 in
      let next : k + 1 ≡ i = omega arith in
      omega (
        arith,
        ap (floor_of S L v) next,
        ap (λ (j : ℕ). get_or L j 0) next,
        floor_behind S L v k (omega arith),
        b.rising v k h (omega arith) (omega arith),
      ))
      (λ g. omega (arith, floor_front S L v i g))

  block_link : (v i : ℕ) → v < n → get_or S v 0 ≤ i → i < get_or S (v + 1) 0 → faulty_link n S L v i ≡ false
  block_link v i h low high =
      let w : ℕ = get_or L i 0 in
      let m : Link S L ones w v 1 = b.mirror v i h low high in
      sym (link_from n S L v i)
      ∙ link_fine n S L v (floor_of S L v i) w (b.inside v i h low high) (b.apart v i h low high)
      (block_above v i h low high)
      (holds_at_lem S L w v m.at m.from m.upto m.holds)

  -- a block whose sizes fit passes check links
  pub links_whole : n ≤ 4096 → length L ≤ 65536 → check_links n S L ≡ fine
  unfolding starts_test lists_test faulty_list degree
  links_whole most room =
      links_alone n S L record { one = b.some; frames = most; places = room; long = b.long }
      ∙ after_fine _ (test_fine _ _ block_starts)
      ∙ none_lowest (faulty_list n S L) n LINKS
      (λ v h. some_none (faulty_link n S L v) (get_or S v 0) (degree S v) (λ i from upto. block_link v i h from (omega arith)))
