-- Meeting the neighbours of a frame, one place of its list a turn: the queue as it was, then the frames that this list
-- added.
use Prim.Native.Nat.{ℕ, ◌+◌, ◌<◌}
use mathlib.Core.Path.{◌≡◌, refl, sym, ap, ◌∙◌}
use mathlib.Core.List.{List}
use native.Mathlib.Decide.{ℕ_discrete}
use native.Mathlib.Omega.{arith}
use lib.ListN.{length, get_or, set, length-set}
use lib.Seq.{get_or-set_same, get_or-set_other}
use Rattle.basics.proofs.Laws.{by_cases, cases, lt_or_ge, set_cases}
use Rattle.walk.specs.Inner.{Queued, Grown}
use Rattle.walk.proofs.BfsQueue.{push, room}

module _ (list : List ℕ) (mark : ℕ) {M Q : List ℕ} {tail : ℕ} where
  pub grown_none : Queued M Q tail → Grown list 0 mark M Q tail M Q tail
  grown_none line =
      record {
        line = line;
        long = refl;
        more = omega arith;
        front = λ i h. refl;
        old = λ v h. refl;
        fresh = λ i h k. absurd (omega arith);
        new = λ v e h. absurd (omega arith);
        all = λ i h. absurd (omega arith);
      }

  module _ {at tail' : ℕ} {M' Q' : List ℕ} (g : Grown list at mark M Q tail M' Q' tail') (v : ℕ) (e : v ≡ get_or list at 0) where
    -- the frame at this place is met already
    pub grown_old : 0 < get_or M' v 0 → Grown list (at + 1) mark M Q tail M' Q' tail'
    grown_old met =
        record {
          line = g.line;
          long = g.long;
          more = g.more;
          front = g.front;
          old = g.old;
          fresh = g.fresh;
          new = g.new;
          all = λ i k.
              by_cases (ℕ_discrete i at)
              (λ (q : i ≡ at). rw (q, ← e) met)
              (λ q. g.all i (omega arith));
        }

    -- it is not met yet
    module _ (place : at < length list) (h : v < length M) (none : get_or M' v 0 ≡ 0) (some : 0 < mark) where
      inside : v < length M'
      inside = omega (arith, g.long)

      long_queue : tail' < length Q'
      long_queue = omega (arith, room g.line v inside none, g.line.long)

      now_met : (w : ℕ) → 0 < get_or M' w 0 → 0 < get_or (set M' v mark) w 0
      now_met w m =
          cases (set_cases M' v w mark 0 inside) (λ s. omega (arith, s.1)) (λ s. omega (arith, s.1))

      was_none : get_or M v 0 ≡ 0
      was_none = lt_or_ge 0 (get_or M v 0) (λ p. absurd (omega (arith, g.old v p))) (λ p. omega arith)

      pub grown_new : Grown list (at + 1) mark M Q tail (set M' v mark) (set Q' tail' v) (tail' + 1)
      grown_new =
          record {
            line = push g.line v mark inside none some;
            long = length-set M' v mark ∙ g.long;
            more = omega (arith, g.more);
            front = λ i p. get_or-set_other Q' tail' i v 0 (λ q. omega (arith, g.more)) ∙ g.front i p;
            old = λ w p.
                get_or-set_other M' v w mark 0 (λ q. omega (arith, was_none, ap (λ (k : ℕ). get_or M k 0) q)) ∙ g.old w p;
            fresh = λ i p q.
                cases (set_cases Q' tail' i v 0 long_queue)
                (λ s. ap (λ (k : ℕ). get_or M k 0) s.1 ∙ was_none)
                (λ s. ap (λ (k : ℕ). get_or M k 0) s.1 ∙ g.fresh i p (omega (arith, s.0)));
            new = λ w p q.
                cases (set_cases M' v w mark 0 inside)
                (λ s. (s.1, at, place, sym e ∙ sym s.0))
                (λ s.
                let (l, i, k, q) = g.new w p (omega (arith, s.1)) in
                (s.1 ∙ l, i, k, q));
            all = λ i q.
                by_cases (ℕ_discrete i at)
                (λ (z : i ≡ at). rw (z, ← e, get_or-set_same M' v mark 0 inside) some)
                (λ z. now_met (get_or list i 0) (g.all i (omega arith)));
          }
