-- Any two outcomes allowed by a contract of `refusal` are equal.
use mathlib.Core.Path.{sym, ◌∙◌}
use denote.RattleType.{RattleType}
use denote.Param.Laws.{Laws}
use mir.Syntax.{Dict}
use Rattle.refusal.proofs.Reason.at.Kinds as at-kinds
use Rattle.refusal.proofs.Reason.at.Reads as at-reads
use Rattle.refusal.proofs.Refusal.number.Kinds as number-kinds
use Rattle.refusal.proofs.Refusal.number.Reads as number-reads
use Rattle.refusal.proofs.test.Kinds as test-kinds
use Rattle.refusal.proofs.test.Reads as test-reads
use Rattle.refusal.proofs.refused.Kinds as refused-kinds
use Rattle.refusal.proofs.refused.Reads as refused-reads
use Rattle.refusal.proofs.sizes.frames_fit.Kinds as frames-fit-kinds
use Rattle.refusal.proofs.sizes.frames_fit.Reads as frames-fit-reads
use Rattle.refusal.proofs.sizes.width_fits.Kinds as width-fits-kinds
use Rattle.refusal.proofs.sizes.width_fits.Reads as width-fits-reads
use Rattle.refusal.proofs.sizes.places_fit.Kinds as places-fit-kinds
use Rattle.refusal.proofs.sizes.places_fit.Reads as places-fit-reads
use Rattle.refusal.proofs.sizes.sizes_fit.Kinds as sizes-fit-kinds
use Rattle.refusal.proofs.sizes.sizes_fit.Reads as sizes-fit-reads
use Rattle.theorems.proofs.Same.{SameAnswer}

pub at_same : SameAnswer 0 at-kinds.ps at-kinds.r at-reads.Post
at_same κs a r₁ r₂ s₁ s₂ p q = p ∙ sym q

pub number_same : SameAnswer 0 number-kinds.ps number-kinds.r number-reads.Post
number_same κs a r₁ r₂ s₁ s₂ p q = p ∙ sym q

pub test_same : SameAnswer 0 test-kinds.ps test-kinds.r test-reads.Post
test_same κs a r₁ r₂ s₁ s₂ p q = p ∙ sym q

-- a reason of whatever type
pub refused_same : (T : RattleType) (laws : Laws T) (drop : Dict)
    → SameAnswer 1 (refused-kinds.ps T laws) (refused-kinds.r T laws) (refused-reads.Post T laws drop)
refused_same T laws drop κs a r₁ r₂ s₁ s₂ p q = p ∙ sym q

pub frames_fit_same : SameAnswer 0 frames-fit-kinds.ps frames-fit-kinds.r frames-fit-reads.Post
frames_fit_same κs a r₁ r₂ s₁ s₂ p q = p ∙ sym q

pub width_fits_same : SameAnswer 0 width-fits-kinds.ps width-fits-kinds.r width-fits-reads.Post
width_fits_same κs a r₁ r₂ s₁ s₂ p q = p ∙ sym q

pub places_fit_same : SameAnswer 0 places-fit-kinds.ps places-fit-kinds.r places-fit-reads.Post
places_fit_same κs a r₁ r₂ s₁ s₂ p q = p ∙ sym q

pub sizes_fit_same : SameAnswer 0 sizes-fit-kinds.ps sizes-fit-kinds.r sizes-fit-reads.Post
sizes_fit_same κs a r₁ r₂ s₁ s₂ p q = p ∙ sym q
