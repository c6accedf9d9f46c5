-- The queue of a walk: its frames differ and are all met, so there is room for a frame that is not met.
use Prim.Native.Nat.{ℕ, ◌+◌, ◌<◌}
use mathlib.Core.Path.{◌≡◌, sym, ap, ◌∙◌}
use mathlib.Core.List.{List}
use native.Mathlib.Decide.{ℕ_discrete}
use native.Mathlib.Omega.{arith}
use lib.ListN.{length, get_or, set, length-set}
use lib.Seq.{get_or-set_same, get_or-set_other}
use Rattle.basics.proofs.Laws.{by_cases, cases, set_cases}
use Rattle.theory.proofs.Ranks.{fewer}
use Rattle.walk.specs.Inner.{Queued}

module _ {M Q : List ℕ} {tail : ℕ} (line : Queued M Q tail) where
  -- no place of the queue holds a frame that is not met
  other_frame : (v : ℕ) → get_or M v 0 ≡ 0 → (i : ℕ) → i < tail → get_or Q i 0 ≡ v → ⊥
  other_frame v e i p q = omega (arith, line.is_met i p, ap (λ (k : ℕ). get_or M k 0) q)

  pub room : (v : ℕ) → v < length M → get_or M v 0 ≡ 0 → tail < length M
  room v h e = fewer tail (length M) (λ i. get_or Q i 0) line.low line.once v h (other_frame v e)

  module _ (v mark : ℕ) (h : v < length M) (e : get_or M v 0 ≡ 0) (some : 0 < mark) where
    new_met : get_or (set M v mark) v 0 ≡ mark
    new_met = get_or-set_same M v mark 0 h

    old_met : (u : ℕ) → 0 < get_or M u 0 → get_or (set M v mark) u 0 ≡ get_or M u 0
    old_met u p = get_or-set_other M v u mark 0 (λ q. omega (arith, ap (λ (k : ℕ). get_or M k 0) q))

    last_place : get_or (set Q tail v) tail 0 ≡ v
    last_place = get_or-set_same Q tail v 0 (omega (arith, room v h e, line.long))

    old_place : (i : ℕ) → (i ≡ tail → ⊥) → get_or (set Q tail v) i 0 ≡ get_or Q i 0
    old_place i p = get_or-set_other Q tail i v 0 p

    -- what holds of every old frame and of the new one holds along the new queue
    along {ℓ} : {C : Type ℓ} (i : ℕ) → i < tail + 1
        → (i < tail → get_or (set Q tail v) i 0 ≡ get_or Q i 0 → C)
        → (i ≡ tail → get_or (set Q tail v) i 0 ≡ v → C) → C
    along i p old new =
        by_cases (ℕ_discrete i tail)
        (λ q. new q (ap (λ (k : ℕ). get_or (set Q tail v) k 0) q ∙ last_place))
        (λ q. old (omega arith) (old_place i q))

    pub push : Queued (set M v mark) (set Q tail v) (tail + 1)
    push =
        let long : length (set M v mark) ≡ length M = length-set M v mark in
        record {
          long = length-set Q tail v ∙ line.long ∙ sym long;
          few = omega (arith, room v h e);
          low = λ i p.
              along i p
              (λ l q. omega (arith, line.low i l))
              (λ l q. omega arith);
          is_met = λ i p.
              along i p
              (λ l q.
              let was = line.is_met i l in
              omega (arith, old_met (get_or Q i 0) was, ap (λ (k : ℕ). get_or (set M v mark) k 0) q))
              (λ l q. omega (arith, new_met, ap (λ (k : ℕ). get_or (set M v mark) k 0) q));
          all = λ u p m.
              cases (set_cases M v u mark 0 h)
              (λ s. (tail, omega arith, last_place ∙ sym s.0))
              (λ s.
              let (i, l, q) = line.all u (omega arith) (omega (arith, s.1)) in
              (i, omega arith, old_place i (λ z. omega arith) ∙ q));
          once = λ i j p q r.
              along i (omega arith)
              (λ l a.
              along j q
              (λ k b. line.once i j p k (sym a ∙ r ∙ b))
              (λ k b. other_frame v e i l (sym a ∙ r ∙ b)))
              (λ l a. omega arith);
          rest = λ i p. old_place i (λ z. omega arith) ∙ line.rest i (omega arith);
        }
