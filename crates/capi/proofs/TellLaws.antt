-- What a call writes out beside the number and place of its answer, the answer's own values or 0, is what the paper's
-- definition tells of it.
use Prim.Native.Nat.{ℕ}
use mathlib.Core.Path.{◌≡◌, ap}
use mathlib.Core.List.{List, [], ◌∷◌}
use lib.ListN.{replicate}
use mir.Val.{bool_byte}
use Rattle.std.specs.Prelude.{Ok, Err, Some, None, false, true, is_some}
use Rattle.std.specs.Option.{unwrap_or}
use Rattle.std.specs.Result.{result_unwrap_or}
use Rattle.refusal.specs.Tests.{Verdict}
use Rattle.refusal.specs.Told.{Told, verdict_told}
use Rattle.rows.specs.Pair.{Answer, pair_told}
use Rattle.rows.specs.Spread.{SpreadAnswer, spread_told}
use Rattle.rows.specs.Within.{WithinAnswer, within_told}
use Rattle.targets.specs.Nearest.{NearestTarget, nearest_told}
use Rattle.targets.specs.Sixteen.{SixteenCounts, sixteen_told}
use Rattle.build.specs.Build.{Built, built_told}
use Rattle.file.specs.Writer.{Written, written_told}
use Rattle.file.specs.Reader.{Opened, opened_told}
use Rattle.file.specs.declared.Index.{Index}
use Rattle.capi.specs.Outs.{tells, answer_told}

-- values beside a number and a place
pub tells_on : {number place number' place' : ℕ} {vs ws : List ℕ} → tells number place [] ≡ tells number' place' [] → vs ≡ ws
    → tells number place vs ≡ tells number' place' ws
tells_on e f = λ i. tells (ap (λ (t : Told). t.number) e i) (ap (λ (t : Told). t.place) e i) (f i)

one : {x y : ℕ} → x ≡ y → x ∷ [] ≡ y ∷ []
one e = ap (λ (v : ℕ). v ∷ []) e

two : {x y x' y' : ℕ} → x ≡ x' → y ≡ y' → x ∷ y ∷ [] ≡ x' ∷ y' ∷ []
two e f = λ i. e i ∷ f i ∷ []

-- a test has no other value
pub verdict_tells : (v : Verdict) {number place : ℕ} → tells number place [] ≡ answer_told v → tells number place [] ≡ verdict_told v
unfolding answer_told verdict_told
verdict_tells (Ok _) e = e
verdict_tells (Err r) e = e

-- one number
pub built_tells : (a : Built) {number place x : ℕ} → x ≡ result_unwrap_or a 0 → tells number place [] ≡ answer_told a
    → tells number place (x ∷ []) ≡ built_told a
unfolding answer_told built_told
built_tells (Ok _) f e = tells_on e (one f)
built_tells (Err r) f e = tells_on e (one f)

pub written_tells : (a : Written) {number place x : ℕ} → x ≡ result_unwrap_or a 0 → tells number place [] ≡ answer_told a
    → tells number place (x ∷ []) ≡ written_told a
unfolding answer_told written_told
written_tells (Ok _) f e = tells_on e (one f)
written_tells (Err r) f e = tells_on e (one f)

pub spread_tells : (a : SpreadAnswer) {number place x : ℕ} → x ≡ result_unwrap_or a 0 → tells number place [] ≡ answer_told a
    → tells number place (x ∷ []) ≡ spread_told a
unfolding answer_told spread_told
spread_tells (Ok _) f e = tells_on e (one f)
spread_tells (Err r) f e = tells_on e (one f)

-- yes or no
pub within_tells : (a : WithinAnswer) {number place x : ℕ} → x ≡ bool_byte (result_unwrap_or a false)
    → tells number place [] ≡ answer_told a → tells number place (x ∷ []) ≡ within_told a
unfolding answer_told within_told
within_tells (Ok true) f e = tells_on e (one f)
within_tells (Ok false) f e = tells_on e (one f)
within_tells (Err r) f e = tells_on e (one f)

-- whether there is one, and which
pub pair_tells : (a : Answer) {number place x y : ℕ} → x ≡ bool_byte (is_some (result_unwrap_or a None))
    → y ≡ unwrap_or (result_unwrap_or a None) 0 → tells number place [] ≡ answer_told a
    → tells number place (x ∷ y ∷ []) ≡ pair_told a
unfolding answer_told pair_told
pair_tells (Ok (Some j)) f g e = tells_on e (two f g)
pair_tells (Ok None) f g e = tells_on e (two f g)
pair_tells (Err r) f g e = tells_on e (two f g)

pub nearest_tells : (a : NearestTarget) {number place x y : ℕ} → x ≡ bool_byte (is_some (result_unwrap_or a None))
    → y ≡ unwrap_or (result_unwrap_or a None) 0 → tells number place [] ≡ answer_told a
    → tells number place (x ∷ y ∷ []) ≡ nearest_told a
unfolding answer_told nearest_told
nearest_tells (Ok (Some j)) f g e = tells_on e (two f g)
nearest_tells (Ok None) f g e = tells_on e (two f g)
nearest_tells (Err r) f g e = tells_on e (two f g)

-- n and k
pub opened_tells : (a : Opened) {number place : ℕ} {x : Index} → x ≡ result_unwrap_or a (record { n = 0; k = 0 })
    → tells number place [] ≡ answer_told a → tells number place (x.n ∷ x.k ∷ []) ≡ opened_told a
unfolding answer_told opened_told
opened_tells (Ok _) f e = tells_on e (two (ap (λ (x : Index). x.n) f) (ap (λ (x : Index). x.k) f))
opened_tells (Err r) f e = tells_on e (two (ap (λ (x : Index). x.n) f) (ap (λ (x : Index). x.k) f))

-- the sixteen counts
pub sixteen_tells : (a : SixteenCounts) {number place : ℕ} {xs : List ℕ} → xs ≡ result_unwrap_or a (replicate 16 0)
    → tells number place [] ≡ answer_told a → tells number place xs ≡ sixteen_told a
unfolding answer_told sixteen_told
sixteen_tells (Ok _) f e = tells_on e f
sixteen_tells (Err r) f e = tells_on e f
