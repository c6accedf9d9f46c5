-- The frame at the head of the queue is kept: its neighbours not met yet stand behind the queue, one level on, and the
-- walk has one frame more done.
use Prim.Native.Nat.{ℕ, ◌+◌, ◌-◌, ◌%◌, ◌≤◌, ◌<◌}
use mathlib.Core.Path.{◌≡◌, sym, ap, ◌∙◌}
use mathlib.Core.Logic.{inl, inr}
use mathlib.Core.Bool.{Bool, false}
use mathlib.Core.List.{List}
use native.Mathlib.Omega.{arith}
use lib.ListN.{length, get_or}
use borrow.Author.Count.{below_more}
use Rattle.basics.proofs.Laws.{cases, lt_or_ge}
use Rattle.theory.specs.Links.{Block, Link}
use Rattle.theory.specs.Plain.{ones}
use Rattle.theory.proofs.DistWeight.{link_inside}
use Rattle.walk.specs.Inner.{list_at, Grown, Bfs, Kept, met_at}
use Rattle.walk.proofs.BfsLists.{list_link, link_listed}
use Rattle.walk.proofs.BfsStep.{Carried, done_stays, parent_stays}

module _ {n : ℕ} {S L : List ℕ} {drop : ℕ → ℕ → Bool} {hub : ℕ} {M Q : List ℕ} {head tail : ℕ}
    (b : Bfs n S L drop hub M Q head tail) (more : head < tail) where
  module _ (mark : ℕ) (is : get_or M (get_or Q head 0) 0 ≡ mark) {r : Bool} (says : r ≡ drop (get_or Q head 0) (mark - 1))
      (free : r ≡ false) (frames : n ≤ 4096) (block : Block n 1 S L ones)
      {list M' Q' : List ℕ} {tail' : ℕ} (listed : list ≡ list_at S L (get_or Q head 0))
      (g : Grown list (length list) (mark + 1) M Q tail M' Q' tail') where
    inside : get_or Q head 0 < n
    inside = omega (arith, b.line.low head more, b.long)

    old_met : (i : ℕ) → i < tail → get_or M' (get_or Q i 0) 0 ≡ get_or M (get_or Q i 0) 0
    old_met i p = g.old (get_or Q i 0) (b.line.is_met i p)

    -- a frame of the new queue is an old one, or one that this frame met
    along {ℓ} : {C : Type ℓ} (i : ℕ) → i < tail'
        → (i < tail → get_or Q' i 0 ≡ get_or Q i 0 → get_or M' (get_or Q' i 0) 0 ≡ get_or M (get_or Q i 0) 0 → C)
        → (tail ≤ i → get_or M' (get_or Q' i 0) 0 ≡ mark + 1 → Link S L ones (get_or Q head 0) (get_or Q' i 0) 1 → C) → C
    along i p old new =
        lt_or_ge i tail
        (λ l. old l (g.front i l) (ap (λ (k : ℕ). get_or M' k 0) (g.front i l) ∙ old_met i l))
        (λ l.
        let (e, at, h, k) = g.new (get_or Q' i 0) (g.fresh i l p) (g.line.is_met i p) in
        new l e (list_link block inside (get_or Q' i 0) at (omega (arith, ap length listed)) (ap (λ (k : List ℕ). get_or k at 0) (sym listed) ∙ k)))

    -- the mark that this frame was met with
    own : met_at M (get_or Q head 0) ≡ mark
    own = omega (arith, is, b.plain head (omega arith) more)

    few : mark + 1 ≤ 4097
    few = omega (arith, own, b.short head more, b.line.few, b.long)

    met_at_lem : (v : ℕ) → 0 < get_or M v 0 → met_at M' v ≡ met_at M v
    met_at_lem v m = ap (λ (k : ℕ). k % 65536) (g.old v m)

    kept_carried : Carried M Q head M' Q'
    kept_carried =
        record {
          same = λ i p. old_met i (omega arith);
          stay = λ v m. omega (arith, g.old v m);
          met_at = met_at_lem;
          front = λ i p. g.front i (omega arith);
        }

    this : get_or Q' head 0 ≡ get_or Q head 0
    this = g.front head more

    -- a neighbour is met, and at most one level on
    met_next : (v : ℕ) → Link S L ones (get_or Q head 0) v 1 → 0 < get_or M' v 0
    met_next v l =
        let (at, h, is) = link_listed block inside v l in
        rw (ap (λ (k : List ℕ). get_or k at 0) listed ∙ is) at (g.all at (omega (arith, ap length listed)))

    met_most : (v : ℕ) → v < n → 0 < get_or M' v 0 → met_at M' v ≤ mark + 1
    met_most v p m =
        lt_or_ge 0 (get_or M v 0)
        (λ o.
        let (i, l, q) = b.line.all v (omega (arith, b.long)) o in
        let e : met_at M (get_or Q i 0) ≡ met_at M v = ap (met_at M) q in
        omega (arith, met_at_lem v o, b.near i more l, own))
        (λ z.
        let (e, at, h, k) = g.new v (omega arith) m in
        omega (arith, few))

    own_kept : Kept S L drop M' (get_or Q head 0)
    own_kept =
        let at : met_at M' (get_or Q head 0) ≡ mark = met_at_lem (get_or Q head 0) (b.line.is_met head more) ∙ own in
        record {
          plain = omega (arith, old_met head more, is, few);
          free = ap (λ (l : ℕ). drop (get_or Q head 0) (l - 1)) at ∙ sym says ∙ free;
          met_all = met_next;
          next = λ v l. omega (arith, met_most v (link_inside block inside l) (met_next v l));
        }

    pub bfs_keep : Bfs n S L drop hub M' Q' (head + 1) tail'
    bfs_keep =
        record {
          long = g.long ∙ b.long;
          line = g.line;
          ahead = omega (arith, g.more);
          some = omega (arith, g.more);
          first = g.front 0 (omega arith) ∙ b.first;
          start = met_at_lem hub (rw b.first at (b.line.is_met 0 (omega arith))) ∙ b.start;
          small = λ i p. along i p (λ l q e. omega (arith, b.small i l)) (λ l e k. omega (arith, few));
          least = λ i p. along i p (λ l q e. omega (arith, b.least i l)) (λ l e k. omega (arith, few));
          rise = λ i j p q.
              along j q
              (λ l r e. along i (omega arith) (λ l' r' e'. omega (arith, b.rise i j p l)) (λ l' e' k'. omega arith))
              (λ l e k.
              along i (omega arith)
              (λ l' r' e'. omega (arith, b.near i more l', own, few))
              (λ l' e' k'. omega arith));
          near = λ j p q.
              along (head + 1) p
              (λ l r e.
              let up = b.rise head (head + 1) (omega arith) l in
              along j q
              (λ l' r' e'. omega (arith, b.near j more l', own))
              (λ l' e' k'. omega (arith, own, few)))
              (λ l e k.
              along j q
              (λ l' r' e'. omega (arith, b.near j more l', own, few))
              (λ l' e' k'. omega (arith, few)));
          short = λ j p.
              along j p
              (λ l q e. omega (arith, b.short j l))
              (λ l e k. omega (arith, own, few, b.short head more));
          plain = λ j p q.
              along j q
              (λ l r e. omega (arith, b.plain j (omega arith) l))
              (λ l e k. omega (arith, few));
          reason = λ j p.
              along j p
              (λ l q e.
              rw q
              (cases (b.reason j l) inl
              (λ r. inr (parent_stays kept_carried (get_or Q j 0) (b.line.is_met j l) r))))
              (λ l e k.
              inr
              (record {
                place = head;
                before = omega arith;
                link = rw this k;
                kept = rw this (omega (arith, old_met head more, is, few));
                met_at = rw this (omega (arith, met_at_lem (get_or Q head 0) (b.line.is_met head more), own, few));
              }));
          done = below_more _ head (λ i p. done_stays kept_carried i p (b.done i p)) (rw this (inl own_kept));
        }
