-- Any two answers allowed by a contract of `targets` on numbers, and on records taken apart, are equal. For those on records see
-- the crate's own `SameTargets`, and for the C calls on them `SameTargetCalls` of the C interface.
use mathlib.Core.Path.{sym, ◌∙◌}
use Rattle.targets.proofs.nearest.nearest_of.Kinds as nearest-of-kinds
use Rattle.targets.proofs.nearest.nearest_of.Reads as nearest-of-reads
use Rattle.targets.proofs.nearest.nearest_listed.Kinds as nearest-listed-kinds
use Rattle.targets.proofs.nearest.nearest_listed.Reads as nearest-listed-reads
use Rattle.targets.proofs.sixteen.sixteen_of.Kinds as sixteen-of-kinds
use Rattle.targets.proofs.sixteen.sixteen_of.Reads as sixteen-of-reads
use Rattle.targets.proofs.sixteen.sixteen_listed.Kinds as sixteen-listed-kinds
use Rattle.targets.proofs.sixteen.sixteen_listed.Reads as sixteen-listed-reads
use Rattle.theorems.proofs.Same.{SameAnswer}

pub nearest_of_same : SameAnswer 3 nearest-of-kinds.ps nearest-of-kinds.r nearest-of-reads.Post
nearest_of_same κs a r₁ r₂ s₁ s₂ p q = p ∙ sym q

pub nearest_listed_same : SameAnswer 2 nearest-listed-kinds.ps nearest-listed-kinds.r nearest-listed-reads.Post
nearest_listed_same κs a r₁ r₂ s₁ s₂ p q = p ∙ sym q

pub sixteen_of_same : SameAnswer 3 sixteen-of-kinds.ps sixteen-of-kinds.r sixteen-of-reads.Post
sixteen_of_same κs a r₁ r₂ s₁ s₂ p q = p ∙ sym q

pub sixteen_listed_same : SameAnswer 2 sixteen-listed-kinds.ps sixteen-listed-kinds.r sixteen-listed-reads.Post
sixteen_listed_same κs a r₁ r₂ s₁ s₂ p q = p ∙ sym q
