-- What "any two outcomes allowed are equal" says of a contract: the function's own postcondition, twice, from the same
-- arguments. Nothing of a contract is repeated here.
use Prim.Native.Nat.{ℕ}
use mathlib.Core.Path.{◌≡◌, sym, ap, ◌∙◌}
use mathlib.Core.List.{List}
use contract.Lifetimes.{Lfts}
use borrow.Fn.Kinds.{ParamKind, ResultKind, Out, Dens, ended_of, res_t}
use denote.Triple.Clauses.{AtExit}

-- two outcomes that the contract `post` allows agree; an outcome is what comes back (r) and what the parameters hold at
-- exit (s: `s.0` the first of them, `s.1.0` the second, and so on)
abbrev pub Same : (m : ℕ) (ps : List (ParamKind m)) (rk : ResultKind m) → Out m ps rk
    → ((κs : Lfts m) (r₁ r₂ : (res_t rk κs).Denot) (s₁ s₂ : AtExit (ended_of m ps rk) κs) → Type 0) → Type 0
Same m ps rk post agree =
    (κs : Lfts m) (a : Dens κs ps) (r₁ r₂ : (res_t rk κs).Denot) (s₁ s₂ : AtExit (ended_of m ps rk) κs)
    → post κs a r₁ s₁ → post κs a r₂ s₂ → agree κs r₁ r₂ s₁ s₂

-- where nothing is lent to be written: the answer is the whole outcome
abbrev pub SameAnswer : (m : ℕ) (ps : List (ParamKind m)) (rk : ResultKind m) → Out m ps rk → Type 0
SameAnswer m ps rk post = Same m ps rk post (λ κs r₁ r₂ s₁ s₂. r₁ ≡ r₂)

-- two things that equal a third look the same
pub both {ℓ k} : {A : Type ℓ} {B : Type k} (f : A → B) {x y z : A} → x ≡ z → y ≡ z → f x ≡ f y
both f p q = ap f (p ∙ sym q)
