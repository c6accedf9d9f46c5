-- The laws of one field and of one step: what a step that went on shows, and what one that did not gives.
use Rattle.std.specs.Prelude.{Ok, Err}
use Prim.Native.Nat.{ℕ, ◌+◌, ◌≤◌, ◌<◌}
use mathlib.Core.Path.{◌≡◌, refl, sym, ap, ◌∙◌}
use mathlib.Core.Bool.{Bool, true, false}
use mathlib.Core.List.{List}
use native.Mathlib.Omega.{arith}
use lib.ListN.{length}
use lib.Dec.{ltb}
use borrow.Author.Tests.{le-leb, lt-leb, leb-true, ltb-true}
use Rattle.basics.proofs.Laws.{not_both}
use Rattle.refusal.specs.Numbers.{SHORT, FIELD}
use Rattle.refusal.specs.Tests.{◌then◌, refusal, test, Verdict, fine, Refusal}
use Rattle.refusal.specs.declared.Reason.{Reason}
use Rattle.refusal.proofs.Laws.{test_fine, test_refused, test_held, then_fine, after_fine, after_refused, fine_not_refused, vcase}
use Rattle.fields.specs.Bits.{field_at, byte_len}
use Rattle.file.specs.Reader.{short_test, field_test}
use Rattle.file.specs.Inner.{step, Step}

-- ---- one field

pub short_fine : (s : List ℕ) (p w : ℕ) → byte_len (p + w) ≤ length s → short_test s p w ≡ fine
unfolding short_test
short_fine s p w h = test_fine SHORT p (le-leb _ _ h)

pub short_refused : (s : List ℕ) (p w : ℕ) → length s < byte_len (p + w) → short_test s p w ≡ Err (refusal SHORT p)
unfolding short_test
short_refused s p w h = test_refused SHORT p (lt-leb _ _ h)

pub short_there : (s : List ℕ) (p w : ℕ) → short_test s p w ≡ fine → byte_len (p + w) ≤ length s
unfolding short_test
short_there s p w e = leb-true _ _ (test_held _ SHORT p e)

pub field_fine : (s : List ℕ) (p w : ℕ) {legal : Bool} → short_test s p w ≡ fine → legal ≡ true
    → field_test s p w legal ≡ fine
unfolding field_test
field_fine s p w e h = after_fine _ e ∙ test_fine FIELD p h

pub field_refused : (s : List ℕ) (p w : ℕ) {legal : Bool} → short_test s p w ≡ fine → legal ≡ false
    → field_test s p w legal ≡ Err (refusal FIELD p)
unfolding field_test
field_refused s p w e h = after_fine _ e ∙ test_refused FIELD p h

pub field_short : (s : List ℕ) (p w : ℕ) (legal : Bool) {r : Refusal} → short_test s p w ≡ Err r
    → field_test s p w legal ≡ Err r
unfolding field_test
field_short s p w legal e = after_refused _ e

-- refused by one test, so by every test that asks for more
pub field_more : (s : List ℕ) (p w : ℕ) (legal more : Bool) {r : Refusal} → (more ≡ true → legal ≡ true)
    → field_test s p w legal ≡ Err r → field_test s p w more ≡ Err r
unfolding field_test
field_more s p w true more asks e =
    vcase (short_test s p w)
    (λ f. fine_not_refused (sym (field_fine s p w f refl) ∙ e))
    (λ r f. field_short s p w more f ∙ sym (field_short s p w true f) ∙ e)
field_more s p w false true asks e = not_both (asks refl) refl
field_more s p w false false asks e = e

-- a field that is fine is there, and legal
pub field_there : (s : List ℕ) (p w : ℕ) (legal : Bool) → field_test s p w legal ≡ fine → byte_len (p + w) ≤ length s
unfolding field_test
field_there s p w legal e = short_there s p w (then_fine _ _ e).0

pub field_legal : (s : List ℕ) (p w : ℕ) (legal : Bool) → field_test s p w legal ≡ fine → legal ≡ true
unfolding field_test
field_legal s p w legal e = test_held legal FIELD p (then_fine _ _ e).1

-- ---- one step

pub step_fine : {v : Verdict} {x y : ℕ} → v ≡ fine → x ≡ y → Ok x ≡ step v y
unfolding step
step_fine {v} {x} {y} e f = ap Ok f ∙ sym (ap (λ (a : Verdict). step a y) e)

pub step_refused : {v : Verdict} {r : Refusal} (x : ℕ) → v ≡ Err r → Err r ≡ step v x
unfolding step
step_refused x e = sym (ap (λ (a : Verdict). step a x) e)

-- a step that went on: its tests were fine, and its number is theirs
pub went_on : (v : Verdict) (y : ℕ) {x : Step} {z : ℕ} → x ≡ step v y → x ≡ Ok z → (v ≡ fine) × (z ≡ y)
unfolding step
went_on (Ok _) y e f = (refl, cc)
went_on (Err r) y e f = absurd cc

-- the same for a field below a bound
pub below : (s : List ℕ) (p w bound : ℕ) {x : Step} {z : ℕ} → x ≡ step (field_test s p w (ltb (field_at s p w) bound)) (field_at s p w) → x ≡ Ok z
    → (short_test s p w ≡ fine) × (z ≡ field_at s p w) × (z < bound)
unfolding field_test
below s p w bound e f =
    let (fine, is) = went_on _ _ e f in
    let less : field_at s p w < bound = ltb-true _ _ (field_legal s p w _ fine) in
    ((then_fine _ _ fine).0, is, omega arith)

-- one that did not gives the tests' refusal
pub stopped : (v : Verdict) (y : ℕ) {x : Step} {r : Refusal} → x ≡ step v y → x ≡ Err r → v ≡ Err r
unfolding step
stopped (Ok _) y e f = cc
stopped (Err r) y e f = cc

-- a refusal handed on
pub refused_by : {x t : Verdict} {r : Refusal} → t ≡ Err r → x ≡ Err r → x ≡ t
refused_by e f = f ∙ sym e

pub step_refuses : {x : Step} {v : Verdict} {r : Refusal} (y : ℕ) → v ≡ Err r → x ≡ Err r → x ≡ step v y
step_refuses y e f = f ∙ step_refused y e

-- ---- a row of tests and steps, as a function makes it

-- one that refuses ends the row with its refusal, and behind one that is fine the rest decides
pub test_stops : {v t : Verdict} {r : Refusal} (next : Verdict) → v ≡ t → v ≡ Err r → (t then next) ≡ Err r
test_stops next e f = after_refused next (sym e ∙ f)

pub test_goes : {v t : Verdict} (next : Verdict) → v ≡ t → v ≡ fine → (t then next) ≡ next
test_goes next e f = after_fine next (sym e ∙ f)

pub held : (b : Bool) (reason : Reason) (place : ℕ) {v : Verdict} → v ≡ test b reason place → v ≡ fine → b ≡ true
held b reason place e f = test_held b reason place (sym e ∙ f)

pub step_stops : {x : Step} {r : Refusal} (t : Verdict) (y : ℕ) (next : Verdict) → x ≡ step t y → x ≡ Err r → (t then next) ≡ Err r
step_stops t y next e f = after_refused next (stopped t y e f)

pub step_goes : {x : Step} {v : ℕ} (t : Verdict) (y : ℕ) (next : Verdict) → x ≡ step t y → x ≡ Ok v → (t then next) ≡ next
step_goes t y next e f = after_fine next (went_on t y e f).0

-- behind the bytes of a field its bound decides
pub field_left : (s : List ℕ) (p w bound : ℕ) {x : Step} {v : ℕ} → x ≡ step (short_test s p w) (field_at s p w) → x ≡ Ok v
    → field_test s p w (ltb (field_at s p w) bound) ≡ test (ltb v bound) FIELD p
unfolding field_test
field_left s p w bound e f =
    step_goes _ _ _ e f ∙ ap (λ (y : ℕ). test (ltb y bound) FIELD p) (sym (went_on _ _ e f).1)
