-- A room being cleared from its front: the places passed are 0 and the rest is as lent.
use Prim.Native.Nat.{ℕ, ◌+◌, ◌≤◌, ◌<◌}
use mathlib.Core.Path.{◌≡◌, refl, sym, ◌∙◌}
use mathlib.Core.List.{List}
use native.Mathlib.Omega.{arith}
use lib.ListN.{length, get_or, set, replicate, length-set, length-replicate, get_or-replicate, get_or-eq_default}
use lib.Seq.{ext_get_or, get_or-set_other}
use Rattle.basics.proofs.Laws.{lt_or_ge, at_set}

pub zero_at : (n i : ℕ) → ◌≡◌ {A = ℕ} (get_or (replicate n 0) i 0) 0
zero_at n i =
    lt_or_ge i n
    (get_or-replicate n i 0 0)
    (λ h. get_or-eq_default (replicate n 0) 0 (omega (arith, length-replicate {A = ℕ} n 0)))

pub record Cleared (room₀ room : List ℕ) (at : ℕ) : Type 0 where
  pub long : length room ≡ length room₀
  pub front : (i : ℕ) → i < at → get_or room i 0 ≡ 0
  pub back : (i : ℕ) → at ≤ i → get_or room i 0 ≡ get_or room₀ i 0

pub clear_none : (room : List ℕ) → Cleared room room 0
clear_none room = record { long = refl; front = λ i h. absurd (omega arith); back = λ i h. refl }

module _ {room₀ room : List ℕ} {at : ℕ} (so_far : Cleared room₀ room at) where
  pub clear_more : at < length room → Cleared room₀ (set room at 0) (at + 1)
  clear_more h =
      record {
        long = length-set room at 0 ∙ so_far.long;
        front = λ i l. at_set room at i 0 0 0 h (λ e. refl) (λ ne. so_far.front i (omega arith));
        back = λ i l. get_or-set_other room at i 0 0 (λ e. omega arith) ∙ so_far.back i (omega arith);
      }

  -- where the rest was 0 as lent, the room is 0
  pub clear_rest : ((i : ℕ) → at ≤ i → get_or room₀ i 0 ≡ 0) → room ≡ replicate (length room₀) 0
  clear_rest rest =
      ext_get_or 0 room (replicate (length room₀) 0) (so_far.long ∙ sym (length-replicate (length room₀) 0))
      (λ i h. lt_or_ge i at (so_far.front i) (λ l. so_far.back i l ∙ rest i l) ∙ sym (zero_at (length room₀) i))

  pub clear_all : length room ≤ at → room ≡ replicate (length room₀) 0
  clear_all h = clear_rest (λ i l. get_or-eq_default room₀ 0 (omega (arith, so_far.long)))
