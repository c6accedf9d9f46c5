-- Any two outcomes allowed by the contract of the listing are equal: the length given back, and the text room, its second
-- parameter.
use mathlib.Core.Path.{◌≡◌, sym, ◌∙◌}
use Rattle.listing.proofs.listing.Kinds as listing-kinds
use Rattle.listing.proofs.listing.Reads as listing-reads
use Rattle.theorems.proofs.Same.{Same}

pub listing_same : Same 2 listing-kinds.ps listing-kinds.r listing-reads.Post
    (λ κs r₁ r₂ s₁ s₂. (r₁ ≡ r₂) × (s₁.1.0.now ≡ s₂.1.0.now))
listing_same κs a r₁ r₂ s₁ s₂ p q = (p.1.0 ∙ sym q.1.0, p.1.1 ∙ sym q.1.1)
