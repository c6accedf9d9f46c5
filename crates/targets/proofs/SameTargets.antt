-- Any two answers that a contract of the functions on records allows are equal. What their contracts allow is written out
-- here, and each is shown to be its contract's own clause.
use mathlib.Core.Path.{◌≡◌, refl, sym, ◌∙◌}
use seplogic.Ra.Ura.{Ura}
use base.Logic.{SProp}
use prog.Memory.{Memory}
use prog.Routine.{Routine}
use types.Logic.{Logic}
use contract.Lifetimes.{Lfts}
use contract.Monad.{Fun, fact}
use denote.Triple.Clauses.{AtExit}
use denote.Triple.Entry.{Args}
use Rattle.targets.specs.Inner.{listed_of}
use Rattle.targets.specs.Nearest.{nearest_of, nearest_told, NearestTarget}
use Rattle.targets.specs.Sixteen.{sixteen_of, sixteen_told, SixteenCounts}
use Rattle.targets.specs.Targets.{frames_of}
use Rattle.targets.specs.declared.record.Listed.{Listed}
use Rattle.targets.specs.contracts.nearest.nearest as nearest
use Rattle.targets.specs.contracts.record.take_apart as take-apart
use Rattle.targets.specs.contracts.sixteen.sixteen as sixteen

-- what each answer is to be
abbrev nearest_answer : (κs : Lfts 3) → Args nearest.signature κs → NearestTarget
nearest_answer κs a =
    nearest_of a.0 a.1.0 a.1.1.0.now a.1.1.1.0.now a.1.1.1.1.0
    (frames_of a.1.1.1.1.1.0.now)

abbrev sixteen_answer : (κs : Lfts 3) → Args sixteen.signature κs → SixteenCounts
sixteen_answer κs a =
    sixteen_of a.0 a.1.0 a.1.1.0.now a.1.1.1.0.now (frames_of a.1.1.1.1.0.now)

-- that r is allowed for the arguments a
abbrev pub ApartAllowed : (κs : Lfts 1) → Args take-apart.signature κs → Listed → Type 0
ApartAllowed κs a r = r ≡ listed_of a.0.now

abbrev pub NearestAllowed : (κs : Lfts 3) → Args nearest.signature κs → NearestTarget → Type 0
NearestAllowed κs a r = (r ≡ nearest_answer κs a) × (nearest_told r ≡ nearest_told (nearest_answer κs a))

abbrev pub SixteenAllowed : (κs : Lfts 3) → Args sixteen.signature κs → SixteenCounts → Type 0
SixteenAllowed κs a r = (r ≡ sixteen_answer κs a) × (sixteen_told r ≡ sixteen_told (sixteen_answer κs a))

-- it is the clause
module _ {M : Type 1} {𝓤 : Ura M} (𝓛 : Logic 𝓤) (mem : Memory → SProp 𝓤) (run : Routine → Fun 𝓤) where
  pub apart_clause : (κs : Lfts 1) (a : Args take-apart.signature κs) (r : Listed) (s : AtExit take-apart.ended κs)
      → (take-apart.clauses 𝓛 mem run κs a).ensures tt r s ≡ fact 𝓤 (ApartAllowed κs a r)
  apart_clause κs a r s = refl

  pub nearest_clause : (κs : Lfts 3) (a : Args nearest.signature κs) (r : NearestTarget) (s : AtExit nearest.ended κs)
      → (nearest.clauses 𝓛 mem run κs a).ensures tt r s ≡ fact 𝓤 (NearestAllowed κs a r)
  nearest_clause κs a r s = refl

  pub sixteen_clause : (κs : Lfts 3) (a : Args sixteen.signature κs) (r : SixteenCounts) (s : AtExit sixteen.ended κs)
      → (sixteen.clauses 𝓛 mem run κs a).ensures tt r s ≡ fact 𝓤 (SixteenAllowed κs a r)
  sixteen_clause κs a r s = refl

pub take_apart_same : (κs : Lfts 1) (a : Args take-apart.signature κs) (r₁ r₂ : Listed)
    → ApartAllowed κs a r₁ → ApartAllowed κs a r₂ → r₁ ≡ r₂
take_apart_same κs a r₁ r₂ p q = p ∙ sym q

pub nearest_same : (κs : Lfts 3) (a : Args nearest.signature κs) (r₁ r₂ : NearestTarget)
    → NearestAllowed κs a r₁ → NearestAllowed κs a r₂ → r₁ ≡ r₂
nearest_same κs a r₁ r₂ p q = p.0 ∙ sym q.0

pub sixteen_same : (κs : Lfts 3) (a : Args sixteen.signature κs) (r₁ r₂ : SixteenCounts)
    → SixteenAllowed κs a r₁ → SixteenAllowed κs a r₂ → r₁ ≡ r₂
sixteen_same κs a r₁ r₂ p q = p.0 ∙ sym q.0
