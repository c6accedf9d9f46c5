-- The laws of tests in a row: what a passed test shows, what a failed one gives, and that a verdict is told by the paper's
-- number and place.
use Rattle.std.specs.Prelude.{Ok, Err}
use Prim.Native.Nat.{ℕ, zero, suc, ◌+◌, ◌-◌, ◌≤◌, ◌<◌}
use mathlib.Core.Path.{◌≡◌, refl, sym, ap, ◌∙◌}
use mathlib.Core.Bool.{Bool, true, false}
use mathlib.Core.List.{List}
use native.Mathlib.Numerals.{add-one}
use native.Mathlib.Decide.{ℕ_discrete}
use native.Mathlib.Omega.{arith}
use borrow.Author.Tests.{eq-eqb, ne_eqb}
use Rattle.basics.specs.Places.{first}
use Rattle.basics.proofs.Laws.{by_cases, less_one, end_none, none_end}
use Rattle.refusal.specs.Tests.{test, ◌then◌, refusal, tests_from, lowest_test, Verdict, fine, Refusal}
use Rattle.refusal.specs.Told.{Told, gives, refuses, verdict_told}
use Rattle.refusal.specs.Numbers.{number_of}
use Rattle.refusal.specs.declared.Reason.{Reason}
use Rattle.refusal.proofs.NumberLaws.{some_number, numbers_apart}

-- a test that holds is fine
pub test_fine : {b : Bool} (reason : Reason) (place : ℕ) → b ≡ true → test b reason place ≡ fine
unfolding test
test_fine reason place e = ap (λ (b : Bool). test b reason place) e

-- one that does not is refused with its number and place
pub test_refused : {b : Bool} (reason : Reason) (place : ℕ) → b ≡ false → test b reason place ≡ Err (refusal reason place)
unfolding test
test_refused reason place e = ap (λ (b : Bool). test b reason place) e

-- fine is not refused
pub fine_not_refused {ℓ} : {C : Type ℓ} {r : Refusal} → fine ≡ Err r → C
fine_not_refused e = let z : ◌≡◌ {A = ℕ} 0 1 = cc in absurd (omega arith)

-- a test that is fine held
pub test_held : (b : Bool) (reason : Reason) (place : ℕ) → test b reason place ≡ fine → b ≡ true
unfolding test
test_held true reason place e = refl
test_held false reason place e = fine_not_refused (sym e)

-- behind a fine verdict the next one decides
pub after_fine : {v : Verdict} (next : Verdict) → v ≡ fine → (v then next) ≡ next
unfolding ◌then◌
after_fine next e = ap (λ (v : Verdict). v then next) e

-- a refusal stands
pub after_refused : {v : Verdict} {r : Refusal} (next : Verdict) → v ≡ Err r → (v then next) ≡ Err r
unfolding ◌then◌
after_refused next e = ap (λ (v : Verdict). v then next) e

-- a row of tests is fine exactly if each is
pub then_fine : (v next : Verdict) → (v then next) ≡ fine → (v ≡ fine) × (next ≡ fine)
unfolding ◌then◌
then_fine (Ok _) next e = (refl, e)
then_fine (Err r) next e = fine_not_refused (sym e)

pub then_assoc : (a b d : Verdict) → ((a then b) then d) ≡ (a then (b then d))
unfolding ◌then◌
then_assoc (Ok _) b d = refl
then_assoc (Err r) b d = refl

-- ---- tests of one place after another

-- up to an end, as a loop goes
module _ (t : ℕ → Verdict) (v end : ℕ) where
  pub tests_stop : {r : Refusal} → v < end → t v ≡ Err r → tests_from t v (end - v) ≡ Err r
  unfolding tests_from
  tests_stop h e = ap (tests_from t v) (less_one h) ∙ after_refused _ e

  pub tests_on : v < end → t v ≡ fine → tests_from t (v + 1) (end - (v + 1)) ≡ tests_from t v (end - v)
  unfolding tests_from
  tests_on h e =
      ap (λ (u : ℕ). tests_from t u (end - (v + 1))) (add-one v) ∙ sym (ap (tests_from t v) (less_one h) ∙ after_fine _ e)

  pub tests_end : end ≤ v → tests_from t v (end - v) ≡ fine
  unfolding tests_from
  tests_end h = let none : end - v ≡ 0 = omega arith in ap (tests_from t v) none

-- fine exactly if each is
fine_from : (t : ℕ → Verdict) (v left : ℕ) → ((u : ℕ) → v ≤ u → u < v + left → t u ≡ fine) → tests_from t v left ≡ fine
unfolding tests_from
fine_from t v zero each = refl
fine_from t v (suc left) each =
    after_fine _ (each v (omega arith) (omega arith)) ∙ fine_from t (suc v) left (λ u h k. each u (omega arith) (omega arith))

each_from : (t : ℕ → Verdict) (v left : ℕ) → tests_from t v left ≡ fine → (u : ℕ) → v ≤ u → u < v + left → t u ≡ fine
unfolding tests_from
each_from t v zero e u h k = absurd (omega arith)
each_from t v (suc left) e u h k =
    let (here, rest) = then_fine _ _ e in
    by_cases (ℕ_discrete v u)
    (λ (q : v ≡ u). ap t (sym q) ∙ here)
    (λ q. each_from t (suc v) left rest u (omega arith) (omega arith))

pub tests_fine : (t : ℕ → Verdict) (n : ℕ) → ((u : ℕ) → u < n → t u ≡ fine) → tests_from t 0 n ≡ fine
tests_fine t n each = fine_from t 0 n (λ u _ h. each u (omega arith))

pub tests_each : (t : ℕ → Verdict) (n : ℕ) → tests_from t 0 n ≡ fine → (u : ℕ) → u < n → t u ≡ fine
tests_each t n e u h = each_from t 0 n e u (omega arith) (omega arith)

pub tests_ext : (t u : ℕ → Verdict) (v left : ℕ) → ((j : ℕ) → v ≤ j → j < v + left → t j ≡ u j) → tests_from t v left ≡ tests_from u v left
unfolding tests_from
tests_ext t u v zero same = refl
tests_ext t u v (suc left) same =
    let here : t v ≡ u v = same v (omega arith) (omega arith) in
    let rest : tests_from t (suc v) left ≡ tests_from u (suc v) left =
    tests_ext t u (suc v) left (λ j h k. same j (omega arith) (omega arith)) in
    λ i. here i then rest i

-- the lowest of n that is marked: n where none is, else it is refused
module _ (marked : ℕ → Bool) (n : ℕ) (reason : Reason) {v : ℕ} (e : v ≡ first marked 0 n) where
  pub lowest_fine : v ≡ n → lowest_test marked n reason ≡ fine
  lowest_fine h = test_fine reason _ (eq-eqb _ n (sym e ∙ h))

  pub lowest_refused : (v ≡ n → ⊥) → lowest_test marked n reason ≡ Err (refusal reason v)
  lowest_refused h = test_refused reason _ (ne_eqb _ n (λ q. h (e ∙ q))) ∙ ap (λ (u : ℕ). Err (refusal reason u)) (sym e)

-- fine, exactly if none is marked
pub lowest_none : (marked : ℕ → Bool) (n : ℕ) (reason : Reason) → lowest_test marked n reason ≡ fine → (v : ℕ) → v < n → marked v ≡ false
lowest_none marked n reason e = end_none marked n (test_held _ reason _ e)

pub none_lowest : (marked : ℕ → Bool) (n : ℕ) (reason : Reason) → ((v : ℕ) → v < n → marked v ≡ false) → lowest_test marked n reason ≡ fine
none_lowest marked n reason none = test_fine reason _ (none_end marked n none)

-- by cases on a verdict, with the equation
pub vcase {ℓ} : {C : Type ℓ} (v : Verdict) → (v ≡ fine → C) → ((r : Refusal) → v ≡ Err r → C) → C
vcase (Ok _) f g = f refl
vcase (Err r) f g = g r refl

-- a refusal is told by its number and place
pub refusal_told : (r s : Refusal) → number_of r.reason ≡ number_of s.reason → r.place ≡ s.place → r ≡ s
refusal_told r s p q = λ i. record { reason = numbers_apart p i; place = q i }

-- ---- success is 0, and nothing else

-- an answer whose refusal, if it is one, has a number; `refused` makes an answer of a refusal
abbrev pub Named : {A : Type 0} → (Refusal → A) → A → Type 0
Named refused a = (r : Refusal) → a ≡ refused r → 0 < number_of r.reason

-- each refusal has one, whatever the answer
pub named : {A : Type 0} (refused : Refusal → A) (a : A) → Named refused a
named refused a r e = some_number r.reason

-- what is told of two calls that both succeed differs where their values do
pub gives_apart : {xs ys : List ℕ} → gives xs ≡ gives ys → xs ≡ ys
gives_apart e = ap (λ (t : Told). t.values) e

-- of two refusals where they do
pub refuses_apart : {r s : Refusal} (others : ℕ) → refuses r others ≡ refuses s others → r ≡ s
refuses_apart others e = refusal_told _ _ (ap (λ (t : Told). t.number) e) (ap (λ (t : Told). t.place) e)

-- and number 0 is no refusal
pub gives_refuses {ℓ} : {C : Type ℓ} {xs : List ℕ} (r : Refusal) (others : ℕ) → gives xs ≡ refuses r others → C
gives_refuses r others e =
    let none : 0 ≡ number_of r.reason = ap (λ (t : Told). t.number) e in
    let some : 0 < number_of r.reason = some_number r.reason in
    absurd (omega arith)

-- so number 0 means fine
pub numbered_fine : (v : Verdict) → (verdict_told v).number ≡ 0 → v ≡ fine
unfolding verdict_told
numbered_fine (Ok _) e = refl
numbered_fine (Err r) e = let some : 0 < number_of r.reason = some_number r.reason in absurd (omega arith)

-- and the numbers tell two verdicts apart
pub verdicts_apart : (a b : Verdict) → verdict_told a ≡ verdict_told b → a ≡ b
unfolding verdict_told
verdicts_apart (Ok _) (Ok _) e = refl
verdicts_apart (Ok _) (Err s) e = gives_refuses s 0 e
verdicts_apart (Err r) (Ok _) e = gives_refuses r 0 (sym e)
verdicts_apart (Err r) (Err s) e = ap Err (refuses_apart 0 e)

-- ---- a row of tests, as a function makes it

-- a test that refuses ends the row with its refusal
pub then_stops : {v t x : Verdict} {r : Refusal} (next : Verdict) → v ≡ t → v ≡ Err r → x ≡ Err r → x ≡ (t then next)
unfolding ◌then◌
then_stops next e f g = g ∙ sym (ap (λ (u : Verdict). u then next) (sym e ∙ f))

-- behind one that is fine the rest decides
pub then_goes : {v t x next : Verdict} → v ≡ t → v ≡ fine → x ≡ next → x ≡ (t then next)
unfolding ◌then◌
then_goes {next = next} e f g = g ∙ sym (ap (λ (u : Verdict). u then next) (sym e ∙ f))
