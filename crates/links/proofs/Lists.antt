-- What the scan of the lists keeps: the inner loop that whether v's list is faulty is decided from the present place on, the
-- outer one that the lowest faulty frame lies from v on.
use Rattle.refusal.specs.Tests.{fine}
use Prim.Native.Nat.{ℕ, ◌+◌, ◌-◌, ◌≤◌, ◌<◌}
use mathlib.Core.Path.{◌≡◌, refl, sym, ap, ◌∙◌}
use mathlib.Core.Bool.{Bool, true, false}
use mathlib.Core.List.{List}
use native.Mathlib.Omega.{arith}
use native.Mathlib.Nat.{sub-zero}
use lib.ListN.{length, get_or, set, length-set}
use Rattle.basics.specs.Places.{first, some}
use Rattle.basics.proofs.Laws.{cases, at_set, set_cases, first_here, first_step, first_over, some_here, some_step, some_over}
use Rattle.links.specs.Links.{degree, faulty_link, faulty_list}
use Rattle.links.specs.Inner.{Starts, Cursors, floor_of, faulty_from}
use Rattle.links.proofs.Links.{floor_front, floor_behind, link_from}

-- the frames below v have sound lists; C are the cursors
pub record Frames (n : ℕ) (S L C : List ℕ) (v : ℕ) : Type 0 where
  pub upto : v ≤ n
  pub cursors : Cursors S C
  pub rest : first (faulty_list n S L) v (n - v) ≡ first (faulty_list n S L) 0 n

-- the links of v's list before place i are sound, and `floor` is the least frame that may stand there
pub record Links (n : ℕ) (S L C : List ℕ) (v i floor : ℕ) : Type 0 where
  pub from : get_or S v 0 ≤ i
  pub upto : i ≤ get_or S (v + 1) 0
  pub cursors : Cursors S C
  pub least : floor ≡ floor_of S L v i
  pub rest : some (faulty_link n S L v) i (get_or S (v + 1) 0 - i) ≡ faulty_list n S L v

module _ {n : ℕ} {S L C : List ℕ} {v : ℕ} where
  -- no link of v's list passed yet
  pub links_first : Starts n S L → Cursors S C → v < n → Links n S L C v (get_or S v 0) 0
  unfolding faulty_list degree
  links_first s kept h = record {
    from = omega arith;
    upto = s.rise v h;
    cursors = kept;
    least = sym (floor_front S L v (get_or S v 0) (omega arith));
    rest = refl;
  }

  module _ {i floor : ℕ} (s : Links n S L C v i floor) where
    -- whether the next link is faulty, by the floor
    link_next : {b : Bool} → b ≡ faulty_from n S L v floor (get_or L i 0) → faulty_link n S L v i ≡ b
    link_next e =
        sym (e ∙ ap (λ (k : ℕ). faulty_from n S L v k (get_or L i 0)) s.least ∙ link_from n S L v i)

    -- a sound link passed
    pub links_on : {C₁ : List ℕ} {b : Bool} → i < get_or S (v + 1) 0 → b ≡ faulty_from n S L v floor (get_or L i 0) → b ≡ false
        → Cursors S C₁ → Links n S L C₁ v (i + 1) (get_or L i 0 + 1)
    links_on h e fine kept = record {
      from = omega (arith, s.from);
      upto = omega arith;
      cursors = kept;
      least = sym (floor_behind S L v i s.from);
      rest = some_step _ _ _ h (link_next e ∙ fine) ∙ s.rest;
    }

    -- a faulty link makes a faulty list
    pub links_stop : {b : Bool} → i < get_or S (v + 1) 0 → b ≡ faulty_from n S L v floor (get_or L i 0) → b ≡ true
        → faulty_list n S L v ≡ true
    links_stop h e bad = sym s.rest ∙ some_here _ _ _ h (link_next e ∙ bad)

    -- all links passed: a sound list
    pub links_end : get_or S (v + 1) 0 ≤ i → faulty_list n S L v ≡ false
    links_end h = sym s.rest ∙ some_over _ _ _ h

  -- a sound list passed
  pub frames_on : {C₁ : List ℕ} → Frames n S L C v → v < n → faulty_list n S L v ≡ false → Cursors S C₁
      → Frames n S L C₁ (v + 1)
  frames_on s h fine kept = record { upto = omega arith; cursors = kept; rest = first_step _ _ _ h fine ∙ s.rest }

  -- a faulty list is the lowest
  pub frames_stop : Frames n S L C v → v < n → faulty_list n S L v ≡ true → v ≡ first (faulty_list n S L) 0 n
  frames_stop s h bad = sym (first_here _ _ _ h bad) ∙ s.rest

  -- all lists passed
  pub frames_end : Frames n S L C v → n ≤ v → n ≡ first (faulty_list n S L) 0 n
  frames_end s h = let last : n ≡ v = omega (arith, s.upto) in last ∙ sym (first_over _ _ _ h) ∙ s.rest

-- no list passed yet
pub frames_first : {n : ℕ} (S L : List ℕ) {C : List ℕ} → Cursors S C → Frames n S L C 0
frames_first S L c = record { upto = omega arith; cursors = c; rest = rw sub-zero refl }

-- ---- the cursors

-- the cursors below w are set
pub record Setting (n : ℕ) (S C : List ℕ) (w : ℕ) : Type 0 where
  pub upto : w ≤ n
  pub long : length C ≡ 4096
  pub from : (u : ℕ) → u < w → get_or C u 0 ≡ get_or S u 0

pub setting_first : {n : ℕ} {S C : List ℕ} → length C ≡ 4096 → Setting n S C 0
setting_first long = record { upto = omega arith; long = long; from = λ u h. absurd (omega arith) }

pub setting_on : {n : ℕ} {S C : List ℕ} {w : ℕ} → Setting n S C w → n ≤ 4096 → w < n → Setting n S (set C w (get_or S w 0)) (w + 1)
setting_on {n} {S} {C} {w} s most h = record {
  upto = omega arith;
  long = length-set C w (get_or S w 0) ∙ s.long;
  from = λ u l.
      at_set C w u (get_or S w 0) 0 (get_or S u 0) (omega (arith, s.long))
      (λ (q : u ≡ w). ap (λ (k : ℕ). get_or S k 0) (sym q))
      (λ q. s.from u (omega arith));
}

pub setting_end : {n : ℕ} {S C : List ℕ} {w : ℕ} → Setting n S C w → n ≤ w → length S ≡ n + 1 → Cursors S C
setting_end s h long = record { long = s.long; from = λ u l. omega (arith, s.from u (omega arith)) }

-- a cursor moved to a place that is not before its list
pub cursors_on : {S C : List ℕ} → Cursors S C → (w at : ℕ) → w < 4096 → get_or S w 0 ≤ at → Cursors S (set C w at)
cursors_on {S} {C} c w at frame low = record {
  long = length-set C w at ∙ c.long;
  from = λ u l.
      cases (set_cases C w u at 0 (omega (arith, c.long)))
      (λ (q : (u ≡ w) × (get_or (set C w at) u 0 ≡ at)). omega (arith, ap (λ (k : ℕ). get_or S k 0) q.0, q.1))
      (λ q. omega (arith, q.1, c.from u l));
}
