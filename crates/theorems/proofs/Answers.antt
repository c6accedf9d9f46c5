-- Demand 3 of rooms that hold the rows of the rule, in chains: the least over chains through a used hub, and what chains put
-- together give from it.
use Prim.Native.Nat.{ℕ, ◌+◌, ◌*◌, ◌≤◌, ◌<◌}
use mathlib.Core.Path.{◌≡◌, refl, sym, ap, subst, ◌∙◌}
use mathlib.Core.List.{List}
use native.Mathlib.Omega.{arith}
use Rattle.theory.specs.Links.{Block, hub_of}
use Rattle.theory.specs.Chains.{Count, joins, none, Least, Through}
use Rattle.theory.specs.Distance.{far, said}
use Rattle.theory.specs.Plain.{ones, answer_by}
use Rattle.theory.proofs.DistVia.{chain_join}
use Rattle.theory.proofs.DistPlain.{counted, uncounted}
use Rattle.theory.proofs.Distance.{chain_back}
use Rattle.theory.proofs.Plain.{plain_fewest, plain_true_count}
use Rattle.theorems.specs.Demands.{asked_of, Joins}
use Rattle.theorems.proofs.Held.{Held, held_answer}

-- where Q holds of j, the least is a number, and at most j
pub least_some : (Q : ℕ → Type 0) (c : Count) (j : ℕ) → Least Q c → Q j → (m : ℕ) × (c ≡ joins m) × (m ≤ j)
unfolding Least
least_some Q (joins m) j l q = (m, refl, l.1 j q)
least_some Q none j l q = absurd (l j q)

-- where the least is m, Q holds of m
pub least_holds : (Q : ℕ → Type 0) (c : Count) (m : ℕ) → Least Q c → c ≡ joins m → Q m
unfolding Least
least_holds Q c m l e = (subst (Least Q) e l).0

-- ---- chains put together

module _ {S L : List ℕ} where
  -- one chain behind another
  pub behind : {a b c m j : ℕ} → Joins S L a b m → Joins S L b c j → Joins S L a c (m + j)
  behind x y = counted (chain_join (uncounted x) (uncounted y) refl)

  -- a chain through a hub is a chain
  pub through : {h : ℕ → ℕ} {k s t m : ℕ} → Through (Joins S L) h k s t m → Joins S L s t m
  through {s} {t} c = subst (Joins S L s t) (sym c.whole) (behind c.to_hub c.from_hub)

  -- a chain gone back
  pub back : {n a b m : ℕ} → Block n 1 S L ones → a < n → Joins S L a b m → Joins S L b a m
  back block p c = counted (chain_back block p (uncounted c))

-- ---- the clauses

module _ {n w k : ℕ} {S L O labels counts : List ℕ} (h : Held n w k S L O labels counts) where
  -- the fewest joins of a chain of the links handed in through one of the first k hubs, none exactly if there is no such chain
  pub answer_through : (s t : ℕ) → s < n → t < n → Least (Through (Joins S L) (hub_of O) k s t) (asked_of n w labels counts s t)
  answer_through s t p q =
      subst (Least (Through (Joins S L) (hub_of O) k s t)) (sym (held_answer h s t p q))
      (plain_fewest h.block h.order k s t h.stop p q)

  -- never below the true count
  pub answer_never_below : (s t m : ℕ) → s < n → t < n → asked_of n w labels counts s t ≡ joins m → (c : Count)
      → Least (Joins S L s t) c → (d : ℕ) × (c ≡ joins d) × (d ≤ m)
  answer_never_below s t m p q e c l =
      least_some (Joins S L s t) c m l
      (through (least_holds (Through (Joins S L) (hub_of O) k s t) _ m (answer_through s t p q) e))

  -- no more than any chain through a used hub
  at_most : (s t m : ℕ) → s < n → t < n → Through (Joins S L) (hub_of O) k s t m
      → (j : ℕ) × (asked_of n w labels counts s t ≡ joins j) × (j ≤ m)
  at_most s t m p q way = least_some (Through (Joins S L) (hub_of O) k s t) _ m (answer_through s t p q) way

  -- at most the chain to a used hub there and back, and the chain on
  pub answer_near_first : (s t d r j : ℕ) → s < n → t < n → Joins S L s t d → r < k → Joins S L s (hub_of O r) j
      → (m : ℕ) × (asked_of n w labels counts s t ≡ joins m) × (m ≤ d + 2 * j)
  answer_near_first s t d r j p q c g to =
      at_most s t (d + 2 * j) p q
      record {
        rank = r;
        used = g;
        there = j;
        on = j + d;
        to_hub = to;
        from_hub = behind (back h.block p to) c;
        whole = omega arith;
      }

  pub answer_near_second : (s t d r j : ℕ) → s < n → t < n → Joins S L s t d → r < k → Joins S L t (hub_of O r) j
      → (m : ℕ) × (asked_of n w labels counts s t ≡ joins m) × (m ≤ d + 2 * j)
  answer_near_second s t d r j p q c g to =
      at_most s t (d + 2 * j) p q
      record {
        rank = r;
        used = g;
        there = d + j;
        on = j;
        to_hub = behind c to;
        from_hub = back h.block q to;
        whole = omega arith;
      }

  -- at k = n the true count of every pair, none for a pair without a chain
  pub answer_true : k ≡ n → (s t : ℕ) → s < n → t < n → Least (Joins S L s t) (asked_of n w labels counts s t)
  answer_true e s t p q =
      subst (Least (Joins S L s t))
      (sym (held_answer h s t p q ∙ ap (λ (j : ℕ). said (far 1 n) (answer_by n S L O j s t)) e))
      (plain_true_count h.block h.order s t p q)
