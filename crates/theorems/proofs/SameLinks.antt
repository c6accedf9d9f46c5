-- Any two outcomes allowed by a contract of `links` are equal.
use mathlib.Core.Path.{◌≡◌, sym, ◌∙◌}
use Rattle.links.specs.Order.{Ordered}
use Rattle.links.proofs.check_links.Kinds as check-links-kinds
use Rattle.links.proofs.check_links.Reads as check-links-reads
use Rattle.links.proofs.check_order.Kinds as check-order-kinds
use Rattle.links.proofs.check_order.Reads as check-order-reads
use Rattle.links.proofs.order_by_degree.Kinds as order-by-degree-kinds
use Rattle.links.proofs.order_by_degree.Reads as order-by-degree-reads
use Rattle.links.proofs.order_scattered.Kinds as order-scattered-kinds
use Rattle.links.proofs.order_scattered.Reads as order-scattered-reads
use Rattle.theorems.proofs.Same.{Same, SameAnswer, both}

pub check_links_same : SameAnswer 2 check-links-kinds.ps check-links-kinds.r check-links-reads.Post
check_links_same κs a r₁ r₂ s₁ s₂ p q = p.0 ∙ sym q.0

pub check_order_same : SameAnswer 1 check-order-kinds.ps check-order-kinds.r check-order-reads.Post
check_order_same κs a r₁ r₂ s₁ s₂ p q = p.0 ∙ sym q.0

-- the order room is the fourth parameter
pub order_by_degree_same : Same 3 order-by-degree-kinds.ps order-by-degree-kinds.r order-by-degree-reads.Post
    (λ κs r₁ r₂ s₁ s₂. (r₁ ≡ r₂) × (s₁.1.1.1.0.now ≡ s₂.1.1.1.0.now))
order_by_degree_same κs a r₁ r₂ s₁ s₂ p q =
    (both (λ (o : Ordered). o.verdict) p.0 q.0, both (λ (o : Ordered). o.room) p.0 q.0)

pub order_scattered_same : Same 3 order-scattered-kinds.ps order-scattered-kinds.r order-scattered-reads.Post
    (λ κs r₁ r₂ s₁ s₂. (r₁ ≡ r₂) × (s₁.1.1.1.0.now ≡ s₂.1.1.1.0.now))
order_scattered_same κs a r₁ r₂ s₁ s₂ p q =
    (both (λ (o : Ordered). o.verdict) p.0 q.0, both (λ (o : Ordered). o.room) p.0 q.0)
