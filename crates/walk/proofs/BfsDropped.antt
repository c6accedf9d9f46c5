-- The frame at the head of the queue is dropped: it gets its mark, and the walk has one frame more done. Levels stay, and
-- so does every other frame.
use Prim.Native.Nat.{ℕ, ◌+◌, ◌-◌, ◌≤◌, ◌<◌}
use mathlib.Core.Path.{◌≡◌, refl, sym, ap, ◌∙◌}
use mathlib.Core.Logic.{inl, inr}
use mathlib.Core.Bool.{Bool, true}
use mathlib.Core.List.{List}
use native.Mathlib.Decide.{ℕ_discrete}
use native.Mathlib.Omega.{arith}
use lib.ListN.{length, get_or, set, length-set}
use lib.Seq.{get_or-set_same, get_or-set_other}
use borrow.Author.Count.{below_more}
use Rattle.basics.proofs.Laws.{by_cases, cases}
use Rattle.walk.specs.Inner.{Queued, Bfs, met_at}
use Rattle.walk.proofs.BfsStep.{Carried, done_stays, parent_stays, apart}

module _ {n : ℕ} {S L : List ℕ} {drop : ℕ → ℕ → Bool} {hub : ℕ} {M Q : List ℕ} {head tail : ℕ}
    (b : Bfs n S L drop hub M Q head tail) (more : head < tail) where
  module _ (mark : ℕ) (is : get_or M (get_or Q head 0) 0 ≡ mark) {r : Bool} (says : r ≡ drop (get_or Q head 0) (mark - 1))
      (hit : r ≡ true) where
    inside : get_or Q head 0 < length M
    inside = b.line.low head more

    first_met : 1 ≤ mark
    first_met = omega (arith, is, b.line.is_met head more)

    not_over : mark < 65536
    not_over = omega (arith, is, b.plain head (omega arith) more)

    M' : List ℕ
    M' = set M (get_or Q head 0) (mark + 65536)

    long : length M' ≡ length M
    unfolding M'
    long = length-set M (get_or Q head 0) (mark + 65536)

    here : get_or M' (get_or Q head 0) 0 ≡ mark + 65536
    unfolding M'
    here = get_or-set_same M (get_or Q head 0) (mark + 65536) 0 inside

    other : (v : ℕ) → (v ≡ get_or Q head 0 → ⊥) → get_or M' v 0 ≡ get_or M v 0
    unfolding M'
    other v p = get_or-set_other M (get_or Q head 0) v (mark + 65536) 0 p

    at_frame {ℓ} : {C : Type ℓ} (v : ℕ) → (get_or M' v 0 ≡ get_or M v 0 + 65536 → get_or M v 0 ≡ mark → C) → (get_or M' v 0 ≡ get_or M v 0 → C) → C
    at_frame v f g =
        by_cases (ℕ_discrete v (get_or Q head 0))
        (λ (q : v ≡ get_or Q head 0).
        let old : get_or M v 0 ≡ mark = ap (λ (k : ℕ). get_or M k 0) q ∙ is in
        let new : get_or M' v 0 ≡ mark + 65536 = ap (λ (k : ℕ). get_or M' k 0) q ∙ here in
        f (omega arith) old)
        (λ q. g (other v q))

    met_at_lem : (v : ℕ) → met_at M' v ≡ met_at M v
    met_at_lem v = at_frame v (λ s o. omega (arith, not_over)) (λ s. omega arith)

    stays : (v : ℕ) → 0 < get_or M v 0 → 0 < get_or M' v 0
    stays v m = at_frame v (λ s o. omega arith) (λ s. omega arith)

    was : (v : ℕ) → 0 < get_or M' v 0 → 0 < get_or M v 0
    was v m = at_frame v (λ s o. omega (arith, first_met)) (λ s. omega arith)

    same : (i : ℕ) → i < tail → (i ≡ head → ⊥) → get_or M' (get_or Q i 0) 0 ≡ get_or M (get_or Q i 0) 0
    same i p q = other (get_or Q i 0) (apart b more i p q)

    carried : Carried M Q head M' Q
    carried =
        record {
          same = λ i q. same i (omega arith) (λ e. omega arith);
          stay = stays;
          met_at = λ v m. met_at_lem v;
          front = λ i q. refl;
        }

    line' : Queued M' Q tail
    unfolding M'
    line' =
        record {
          long = b.line.long ∙ sym long;
          few = omega (arith, long, b.line.few);
          low = λ i p. omega (arith, long, b.line.low i p);
          is_met = λ i p. stays (get_or Q i 0) (b.line.is_met i p);
          all = λ v p m. b.line.all v (omega (arith, long)) (was v m);
          once = b.line.once;
          rest = b.line.rest;
        }

    pub bfs_drop : Bfs n S L drop hub (set M (get_or Q head 0) (mark + 65536)) Q (head + 1) tail
    unfolding M'
    bfs_drop =
        record {
          long = long ∙ b.long;
          line = line';
          ahead = omega arith;
          some = b.some;
          first = b.first;
          start = met_at_lem hub ∙ b.start;
          small = λ i p.
              by_cases (ℕ_discrete i head)
              (λ (q : i ≡ head). rw q (omega (arith, here, not_over)))
              (λ q. omega (arith, same i p q, b.small i p));
          least = λ i p. omega (arith, met_at_lem (get_or Q i 0), b.least i p);
          rise = λ i j p q. omega (arith, met_at_lem (get_or Q i 0), met_at_lem (get_or Q j 0), b.rise i j p q);
          near = λ j p q.
              omega (
                arith,
                met_at_lem (get_or Q j 0),
                met_at_lem (get_or Q (head + 1) 0),
                b.near j more q,
                b.rise head (head + 1) (omega arith) p,
              );
          short = λ j p. omega (arith, met_at_lem (get_or Q j 0), b.short j p);
          plain = λ j p q. omega (arith, same j q (λ e. omega arith), b.plain j (omega arith) q);
          reason = λ j p.
              cases (b.reason j p) inl
              (λ r. inr (parent_stays carried (get_or Q j 0) (b.line.is_met j p) r));
          done = below_more _ head (λ i p. done_stays carried i p (b.done i p))
              (inr
              (record {
                over = omega (arith, here);
                found =
                    ap (drop (get_or Q head 0))
                    (let l : met_at M' (get_or Q head 0) - 1 ≡ mark - 1 = omega (arith, here, not_over) in l)
                    ∙ sym says
                    ∙ hit;
              }));
        }
