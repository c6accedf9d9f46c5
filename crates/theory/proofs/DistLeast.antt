-- The least number of which something holds, or none: there is one answer, and it is the same for two things that come
-- with one another. What a number says: itself below B, else none; so it says the least.
use Prim.Native.Nat.{ℕ, ◌≤◌, ◌<◌}
use mathlib.Core.Path.{◌≡◌, refl, sym, ap, subst, ◌∙◌}
use native.Mathlib.Omega.{arith}
use borrow.Author.Tests.{lt-ltb, le-ltb}
use Rattle.basics.proofs.Laws.{lt_or_ge, cond_true, cond_false}
use Rattle.theory.specs.Chains.{Count, joins, none, Least}
use Rattle.theory.specs.Distance.{said}

pub least_same : {Q R : ℕ → Type 0} (c : Count) → ((j : ℕ) → Q j → R j) → ((j : ℕ) → R j → Q j) → Least Q c → Least R c
unfolding Least
least_same (joins m) there back (q, low) = (there m q, λ j r. low j (back j r))
least_same none there back lacks = λ j r. lacks j (back j r)

-- two least numbers of one thing are the same
pub least_one : (Q : ℕ → Type 0) (c e : Count) → Least Q c → Least Q e → c ≡ e
unfolding Least
least_one Q (joins m) (joins k) (q, low) (r, under) =
    let f : m ≡ k = omega (arith, low k r, under m q) in
    ap joins f
least_one Q (joins m) none (q, low) lacks = absurd (lacks m q)
least_one Q none (joins k) lacks (r, under) = absurd (lacks k r)
least_one Q none none lacks lacks₁ = refl

-- ---- said

pub said_joins : (B m : ℕ) → m < B → said B m ≡ joins m
unfolding said
said_joins B m h = cond_true (joins m) none (lt-ltb m B h)

pub said_none : (B m : ℕ) → B ≤ m → said B m ≡ none
unfolding said
said_none B m h = cond_false (joins m) none (le-ltb m B h)

-- what says m joins is m
pub said_is : (B a m : ℕ) → said B a ≡ joins m → (a ≡ m) × (a < B)
said_is B a m e =
    lt_or_ge a B
    (λ h.
    let same : joins a ≡ joins m = sym (said_joins B a h) ∙ e in
    (cc, h))
    (λ h.
    let other : none ≡ joins m = sym (said_none B a h) ∙ e in
    let z : ◌≡◌ {A = ℕ} 0 1 = cc in
    absurd (omega arith))

-- a number is the least of Q, or none is, by what it is below and not below B
pub said_least : (Q : ℕ → Type 0) (B m : ℕ) → (m < B → Q m) → ((j : ℕ) → Q j → m ≤ j) → ((j : ℕ) → Q j → m < B) → Least Q (said B m)
unfolding Least
said_least Q B m has low reach =
    lt_or_ge m B
    (λ h. subst (Least Q) (sym (said_joins B m h)) (has h, low))
    (λ h. subst (Least Q) (sym (said_none B m h)) (λ j q. omega (arith, reach j q)))
