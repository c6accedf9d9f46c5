-- A test and what it refuses with; tests in a row, of which the first that fails decides.
use Rattle.std.specs.Prelude.{ℕ, zero, suc, Bool, true, false, eqb, Result, Ok, Err}
use Rattle.basics.specs.Places.{first}
use Rattle.refusal.specs.declared.Reason.{Reason}
use Rattle.refusal.specs.declared.RefusedFor.{RefusedFor}

infixr 20 ◌then◌
abbrev pub Refusal : Type 0
Refusal = RefusedFor Reason

-- what a test, or several in a row, found: nothing, or the first refusal
abbrev pub Verdict : Type 0
Verdict = Result Unit Refusal

abbrev pub fine : Verdict
fine = Ok tt

-- the refusal with this reason, of whatever kind, and place
abbrev pub refusal : {R : Type 0} → R → ℕ → RefusedFor R
refusal reason place = record { reason = reason; place = place }

-- fine where it holds, else refused with this reason and place
unfoldable pub test : Bool → Reason → ℕ → Verdict
test true reason place = fine
test false reason place = Err (refusal reason place)

-- one test after another: the first refusal stands
unfoldable pub ◌then◌ : Verdict → Verdict → Verdict
(Ok _) then next = next
(Err r) then next = Err r

-- `left` tests from place v on, one after another
unfoldable pub tests_from : (ℕ → Verdict) → ℕ → ℕ → Verdict
tests_from t v zero = fine
tests_from t v (suc left) =
    let rest : Verdict = tests_from t (suc v) left in
    t v then rest

-- the lowest of n that is marked is refused for this reason; fine where none is
abbrev pub lowest_test : (ℕ → Bool) → ℕ → Reason → Verdict
lowest_test marked n reason =
    let lowest : ℕ = first marked 0 n in
    test (eqb lowest n) reason lowest

-- what holds behind fine tests, and what else
unfoldable pub if_fine {ℓ} : {A : Type ℓ} → Verdict → A → A → A
if_fine (Ok _) made lent = made
if_fine (Err r) made lent = lent
