-- Any two outcomes that the contracts of the two calls on records allow are equal: the number returned, and what is written
-- through each `&mut`. What their contracts allow is written out here, and each is shown to be its contract's own clause.
use Prim.Native.Nat.{ℕ}
use mathlib.Core.Path.{◌≡◌, refl, sym, ap, ◌∙◌}
use mathlib.Core.List.{[], ◌∷◌}
use seplogic.Ra.Ura.{Ura}
use base.Logic.{SProp}
use prog.Memory.{Memory}
use prog.Routine.{Routine}
use types.Logic.{Logic}
use contract.Lifetimes.{Lfts}
use contract.Monad.{Fun, fact}
use denote.Triple.Clauses.{AtExit}
use denote.Triple.Entry.{Args}
use lib.ListN.{get_or}
use Rattle.refusal.specs.Told.{Told}
use Rattle.targets.specs.Nearest.{nearest_of, nearest_told}
use Rattle.targets.specs.Sixteen.{sixteen_of, sixteen_told}
use Rattle.targets.specs.Targets.{frames_of}
use Rattle.capi.specs.Outs.{tells}
use Rattle.capi.specs.contracts.target_calls.seam_nearest as nearest
use Rattle.capi.specs.contracts.target_calls.seam_sixteen as sixteen

-- that the number r is allowed with the parameters s at exit, for the arguments a: found, target and place are the seventh to
-- ninth, the sixteen counts and place the sixth and seventh
abbrev pub NearestAllowed : (κs : Lfts 6) → Args nearest.signature κs → ℕ → AtExit nearest.ended κs → Type 0
NearestAllowed κs a r s =
    tells r s.1.1.1.1.1.1.1.1.0.now (s.1.1.1.1.1.1.0.now ∷ s.1.1.1.1.1.1.1.0.now ∷ [])
    ≡ nearest_told
    (nearest_of a.0 a.1.0 a.1.1.0.now a.1.1.1.0.now a.1.1.1.1.0
    (frames_of a.1.1.1.1.1.0.now))

abbrev pub SixteenAllowed : (κs : Lfts 5) → Args sixteen.signature κs → ℕ → AtExit sixteen.ended κs → Type 0
SixteenAllowed κs a r s =
    tells r s.1.1.1.1.1.1.0.now s.1.1.1.1.1.0.now
    ≡ sixteen_told
    (sixteen_of a.0 a.1.0 a.1.1.0.now a.1.1.1.0.now (frames_of a.1.1.1.1.0.now))

-- it is the clause
module _ {M : Type 1} {𝓤 : Ura M} (𝓛 : Logic 𝓤) (mem : Memory → SProp 𝓤) (run : Routine → Fun 𝓤) where
  pub nearest_clause : (κs : Lfts 6) (a : Args nearest.signature κs) (r : ℕ) (s : AtExit nearest.ended κs)
      → (nearest.clauses 𝓛 mem run κs a).ensures tt r s ≡ fact 𝓤 (NearestAllowed κs a r s)
  nearest_clause κs a r s = refl

  pub sixteen_clause : (κs : Lfts 5) (a : Args sixteen.signature κs) (r : ℕ) (s : AtExit sixteen.ended κs)
      → (sixteen.clauses 𝓛 mem run κs a).ensures tt r s ≡ fact 𝓤 (SixteenAllowed κs a r s)
  sixteen_clause κs a r s = refl

both : {A : Type 0} (f : Told → A) {x y z : Told} → x ≡ z → y ≡ z → f x ≡ f y
both f p q = ap f (p ∙ sym q)

pub seam_nearest_same : (κs : Lfts 6) (a : Args nearest.signature κs) (r₁ r₂ : ℕ) (s₁ s₂ : AtExit nearest.ended κs)
    → NearestAllowed κs a r₁ s₁ → NearestAllowed κs a r₂ s₂
    → (r₁ ≡ r₂)
    × (s₁.1.1.1.1.1.1.1.1.0.now ≡ s₂.1.1.1.1.1.1.1.1.0.now)
    × (s₁.1.1.1.1.1.1.0.now ≡ s₂.1.1.1.1.1.1.0.now)
    × (s₁.1.1.1.1.1.1.1.0.now ≡ s₂.1.1.1.1.1.1.1.0.now)
seam_nearest_same κs a r₁ r₂ s₁ s₂ p q = (
  both (λ (t : Told). t.number) p q,
  both (λ (t : Told). t.place) p q,
  both (λ (t : Told). get_or t.values 0 0) p q,
  both (λ (t : Told). get_or t.values 1 0) p q,
)

pub seam_sixteen_same : (κs : Lfts 5) (a : Args sixteen.signature κs) (r₁ r₂ : ℕ) (s₁ s₂ : AtExit sixteen.ended κs)
    → SixteenAllowed κs a r₁ s₁ → SixteenAllowed κs a r₂ s₂
    → (r₁ ≡ r₂)
    × (s₁.1.1.1.1.1.1.0.now ≡ s₂.1.1.1.1.1.1.0.now)
    × (s₁.1.1.1.1.1.0.now ≡ s₂.1.1.1.1.1.0.now)
seam_sixteen_same κs a r₁ r₂ s₁ s₂ p q = (
  both (λ (t : Told). t.number) p q,
  both (λ (t : Told). t.place) p q,
  both (λ (t : Told). t.values) p q,
)
