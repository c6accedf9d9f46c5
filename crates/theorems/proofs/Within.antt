-- Over an index of all hubs the question within so many joins says yes exactly if a chain of at most so many links leads from one
-- frame to the other.
use Rattle.std.specs.Prelude.{true, Ok}
use Prim.Native.Nat.{ℕ, ◌≤◌, ◌<◌}
use mathlib.Core.Path.{◌≡◌, refl, ap, subst}
use mathlib.Core.Logic.{◌↔◌}
use mathlib.Core.List.{List}
use native.Mathlib.Omega.{arith}
use Rattle.theory.specs.Chains.{Least}
use Rattle.rows.specs.Pair.{pair_of, said_of}
use Rattle.rows.specs.Within.{within_of}
use Rattle.rows.proofs.WithinLaws.{acase, within_pair, within_yes}
use Rattle.build.specs.Build.{build_outcome, build_of}
use Rattle.theorems.specs.Demands.{Joins}
use Rattle.theorems.specs.Within.{Chained}
use Rattle.theorems.proofs.Answers.{answer_true}
use Rattle.theorems.proofs.Built.{built_tests, built_held}
use Rattle.theorems.proofs.Held.{Held}

pub within_true : {n w k : ℕ} {S L O labels counts : List ℕ} → Held n w k S L O labels counts → k ≡ n → (s t limit : ℕ) → s < n → t < n
    → (within_of n w labels counts s t limit ≡ Ok true) ↔ Chained S L s t limit
unfolding Least said_of
within_true {n} {w} {k} {S} {L} {O} {labels} {counts} h whole s t limit p q =
    let true_count : Least (Joins S L s t) (said_of (pair_of n w labels counts s t)) = answer_true h whole s t p q in (
      λ yes.
          let (j, e, few) = (within_pair n w labels counts s t limit).0 yes in
          record { links = j; few = few; chain = (subst (Least (Joins S L s t)) (ap said_of e) true_count).0 },
      λ c.
          acase (pair_of n w labels counts s t)
          (λ j e.
          let most : j ≤ c.links = (subst (Least (Joins S L s t)) (ap said_of e) true_count).1 c.links c.chain in
          within_yes n w labels counts s t limit j e (omega (arith, c.few)))
          (λ e. absurd (subst (Least (Joins S L s t)) (ap said_of e) true_count c.links c.chain))
          (λ r e. absurd (subst (Least (Joins S L s t)) (ap said_of e) true_count c.links c.chain)),
    )

-- of the rooms of an unrefused build to k = n
pub built_within : (n w : ℕ) (S L O labels counts met queue : List ℕ) (entries : ℕ) (labels' counts' met' queue' : List ℕ)
    → build_outcome (Ok entries) labels' counts' met' queue' ≡ build_of n w n S L O labels counts met queue
    → (s t limit : ℕ) → s < n → t < n → (within_of n w labels' counts' s t limit ≡ Ok true) ↔ Chained S L s t limit
built_within n w S L O labels counts met queue entries labels' counts' met' queue' e =
    within_true (built_held (built_tests n w n S L O labels counts met queue entries labels' counts' met' queue' e)) refl
