-- What a test shows as a function makes it, and a truth value as a number.
use Rattle.std.specs.Prelude.{Err}
use mathlib.Core.Path.{◌≡◌, refl, sym}
use Prim.Native.Nat.{ℕ, ◌≤◌}
use native.Mathlib.Omega.{arith}
use mir.Val.{bool_byte}
use mathlib.Core.Bool.{Bool, true, false, cond, ◌&&◌, true≢false}
use Rattle.refusal.specs.Tests.{test, refusal, Refusal}
use Rattle.refusal.specs.declared.Reason.{Reason}
use Rattle.refusal.proofs.Laws.{fine_not_refused}

-- a test that is refused did not hold, and its refusal is the one named
pub test_failed : (b : Bool) (reason : Reason) (place : ℕ) {r : Refusal} → test b reason place ≡ Err r
    → (b ≡ false) × (r ≡ refusal reason place)
unfolding test
test_failed true reason place e = fine_not_refused e
test_failed false reason place e = (refl, cc)

-- two tests at once, of which the second is made only where the first holds
pub both_made : {a x : Bool} (b : Bool) → a ≡ true → x ≡ b → x ≡ (a && b)
both_made {a = true} b e f = f
both_made {a = false} b e f = absurd (true≢false (sym e))

pub first_made : {a x : Bool} (b : Bool) → a ≡ false → x ≡ a → x ≡ (a && b)
first_made {a = true} b e f = absurd (true≢false e)
first_made {a = false} b e f = f

-- a truth value as a number
pub by_byte : (b : Bool) → bool_byte b ≡ cond b 1 0
by_byte true = refl
by_byte false = refl

pub byte_small : (b : Bool) → bool_byte b ≤ 1
byte_small true = omega arith
byte_small false = omega arith
