-- One frame of the walk, the one at place `head` of the queue. Whether it is dropped or kept, what was done before it stays
-- done.
use Prim.Native.Nat.{ℕ, ◌+◌, ◌-◌, ◌%◌, ◌<◌}
use mathlib.Core.Path.{◌≡◌, ap, ◌∙◌}
use mathlib.Core.Logic.{◌⊎◌, inl, inr}
use mathlib.Core.Bool.{Bool}
use mathlib.Core.List.{List}
use native.Mathlib.Omega.{arith}
use lib.ListN.{get_or}
use Rattle.basics.proofs.Laws.{cases, once_same}
use Rattle.walk.specs.Inner.{Bfs, Kept, Dropped, Parent, met_at}

-- ---- what is done stays done

-- met frames stay met at their levels, and the first `head` places of the queue and what is held for them stay
pub record Carried (M Q : List ℕ) (head : ℕ) (M' Q' : List ℕ) : Type 0 where
  pub same : (i : ℕ) → i < head → get_or M' (get_or Q i 0) 0 ≡ get_or M (get_or Q i 0) 0
  pub stay : (v : ℕ) → 0 < get_or M v 0 → 0 < get_or M' v 0
  pub met_at : (v : ℕ) → 0 < get_or M v 0 → met_at M' v ≡ met_at M v
  pub front : (i : ℕ) → i < head → get_or Q' i 0 ≡ get_or Q i 0

pub done_stays : {S L : List ℕ} {drop : ℕ → ℕ → Bool} {M Q : List ℕ} {head : ℕ} {M' Q' : List ℕ} → Carried M Q head M' Q'
    → (i : ℕ) → i < head → Kept S L drop M (get_or Q i 0) ⊎ Dropped drop M (get_or Q i 0)
    → Kept S L drop M' (get_or Q' i 0) ⊎ Dropped drop M' (get_or Q' i 0)
done_stays {drop = drop} {M} {Q} {head} {M'} c i p was =
    let s = c.same i p in
    let at : met_at M' (get_or Q i 0) ≡ met_at M (get_or Q i 0) = ap (λ (k : ℕ). k % 65536) s in
    rw (c.front i p)
    (cases was
    (λ k.
    inl
    (record {
      plain = omega (arith, k.plain);
      free = ap (λ (l : ℕ). drop (get_or Q i 0) (l - 1)) at ∙ k.free;
      met_all = λ v l. c.stay v (k.met_all v l);
      next = λ v l. omega (arith, k.next v l, c.met_at v (k.met_all v l));
    }))
    (λ d.
    inr
    (record { over = omega (arith, d.over); found = ap (λ (l : ℕ). drop (get_or Q i 0) (l - 1)) at ∙ d.found })))

pub parent_stays : {S L M Q : List ℕ} {head : ℕ} {M' Q' : List ℕ} → Carried M Q head M' Q' → (v : ℕ) → 0 < get_or M v 0
    → Parent S L M Q head v → Parent S L M' Q' (head + 1) v
parent_stays c v m p =
    let f = c.front p.place p.before in
    let s = c.same p.place p.before in
    record {
      place = p.place;
      before = omega (arith, p.before);
      link = rw f p.link;
      kept = rw f (omega (arith, p.kept));
      met_at = rw f (omega (arith, p.met_at, c.met_at v m));
    }

module _ {n : ℕ} {S L : List ℕ} {drop : ℕ → ℕ → Bool} {hub : ℕ} {M Q : List ℕ} {head tail : ℕ}
    (b : Bfs n S L drop hub M Q head tail) (more : head < tail) where
  -- another place of the queue holds another frame
  pub apart : (i : ℕ) → i < tail → (i ≡ head → ⊥) → get_or Q i 0 ≡ get_or Q head 0 → ⊥
  apart i p q e = q (once_same tail (λ k. get_or Q k 0) b.line.once i head p more e)

  -- the frame at the head is one of the n
  pub head_in : get_or Q head 0 < n
  head_in = omega (arith, b.line.low head more, b.long)
