-- Any two outcomes that a contract of the C interface allows are equal: the number returned, what is written through each
-- `&mut` (the place first, then the other values), and each lent room.
use Prim.Native.Nat.{ℕ}
use mathlib.Core.Path.{◌≡◌}
use mathlib.Core.List.{List, []}
use lib.ListN.{get_or}
use Rattle.refusal.specs.Told.{Told}
use Rattle.capi.specs.Outs.{Outs}
use Rattle.capi.proofs.link_calls.seam_check_links.Kinds as seam-check-links-kinds
use Rattle.capi.proofs.link_calls.seam_check_links.Reads as seam-check-links-reads
use Rattle.capi.proofs.link_calls.seam_check_order.Kinds as seam-check-order-kinds
use Rattle.capi.proofs.link_calls.seam_check_order.Reads as seam-check-order-reads
use Rattle.capi.proofs.link_calls.seam_order_by_degree.Kinds as seam-order-by-degree-kinds
use Rattle.capi.proofs.link_calls.seam_order_by_degree.Reads as seam-order-by-degree-reads
use Rattle.capi.proofs.link_calls.seam_order_scattered.Kinds as seam-order-scattered-kinds
use Rattle.capi.proofs.link_calls.seam_order_scattered.Reads as seam-order-scattered-reads
use Rattle.capi.proofs.build_calls.seam_build.Kinds as seam-build-kinds
use Rattle.capi.proofs.build_calls.seam_build.Reads as seam-build-reads
use Rattle.capi.proofs.row_calls.seam_pair.Kinds as seam-pair-kinds
use Rattle.capi.proofs.row_calls.seam_pair.Reads as seam-pair-reads
use Rattle.capi.proofs.row_calls.seam_check_row.Kinds as seam-check-row-kinds
use Rattle.capi.proofs.row_calls.seam_check_row.Reads as seam-check-row-reads
use Rattle.capi.proofs.row_calls.seam_row.Kinds as seam-row-kinds
use Rattle.capi.proofs.row_calls.seam_row.Reads as seam-row-reads
use Rattle.capi.proofs.row_calls.seam_spread.Kinds as seam-spread-kinds
use Rattle.capi.proofs.row_calls.seam_spread.Reads as seam-spread-reads
use Rattle.capi.proofs.row_calls.seam_within.Kinds as seam-within-kinds
use Rattle.capi.proofs.row_calls.seam_within.Reads as seam-within-reads
use Rattle.capi.proofs.file_calls.seam_write.Kinds as seam-write-kinds
use Rattle.capi.proofs.file_calls.seam_write.Reads as seam-write-reads
use Rattle.capi.proofs.file_calls.seam_header.Kinds as seam-header-kinds
use Rattle.capi.proofs.file_calls.seam_header.Reads as seam-header-reads
use Rattle.capi.proofs.file_calls.seam_read.Kinds as seam-read-kinds
use Rattle.capi.proofs.file_calls.seam_read.Reads as seam-read-reads
use Rattle.theorems.proofs.Same.{Same, both}

-- what is told of a call, and the rooms beside it
abbrev number : Told → ℕ
number t = t.number

abbrev place : Told → ℕ
place t = t.place

abbrev value : ℕ → Told → ℕ
value i t = get_or t.values i 0

abbrev saying : {A : Type 0} → (Told → A) → Outs → A
saying f o = f o.told

abbrev room : ℕ → Outs → List ℕ
room i o = get_or o.rooms i []

pub seam_check_links_same : Same 3 seam-check-links-kinds.ps seam-check-links-kinds.r seam-check-links-reads.Post
    (λ κs r₁ r₂ s₁ s₂. (r₁ ≡ r₂) × (s₁.1.1.1.0.now ≡ s₂.1.1.1.0.now))
seam_check_links_same κs a r₁ r₂ s₁ s₂ p q = (both number p q, both place p q)

pub seam_check_order_same : Same 2 seam-check-order-kinds.ps seam-check-order-kinds.r seam-check-order-reads.Post
    (λ κs r₁ r₂ s₁ s₂. (r₁ ≡ r₂) × (s₁.1.1.0.now ≡ s₂.1.1.0.now))
seam_check_order_same κs a r₁ r₂ s₁ s₂ p q = (both number p q, both place p q)

pub seam_order_by_degree_same : Same 4 seam-order-by-degree-kinds.ps seam-order-by-degree-kinds.r seam-order-by-degree-reads.Post
    (λ κs r₁ r₂ s₁ s₂. (r₁ ≡ r₂)
    × (s₁.1.1.1.1.0.now ≡ s₂.1.1.1.1.0.now)
    × (s₁.1.1.1.0.now ≡ s₂.1.1.1.0.now))
seam_order_by_degree_same κs a r₁ r₂ s₁ s₂ p q = (both (saying number) p q, both (saying place) p q, both (room 0) p q)

pub seam_order_scattered_same : Same 4 seam-order-scattered-kinds.ps seam-order-scattered-kinds.r seam-order-scattered-reads.Post
    (λ κs r₁ r₂ s₁ s₂. (r₁ ≡ r₂)
    × (s₁.1.1.1.1.0.now ≡ s₂.1.1.1.1.0.now)
    × (s₁.1.1.1.0.now ≡ s₂.1.1.1.0.now))
seam_order_scattered_same κs a r₁ r₂ s₁ s₂ p q = (both (saying number) p q, both (saying place) p q, both (room 0) p q)

pub seam_build_same : Same 9 seam-build-kinds.ps seam-build-kinds.r seam-build-reads.Post
    (λ κs r₁ r₂ s₁ s₂. (r₁ ≡ r₂)
    × (s₁.1.1.1.1.1.1.1.1.1.1.1.0.now ≡ s₂.1.1.1.1.1.1.1.1.1.1.1.0.now)
    × (s₁.1.1.1.1.1.1.1.1.1.1.0.now ≡ s₂.1.1.1.1.1.1.1.1.1.1.0.now)
    × (s₁.1.1.1.1.1.1.0.now ≡ s₂.1.1.1.1.1.1.0.now)
    × (s₁.1.1.1.1.1.1.1.0.now ≡ s₂.1.1.1.1.1.1.1.0.now)
    × (s₁.1.1.1.1.1.1.1.1.0.now ≡ s₂.1.1.1.1.1.1.1.1.0.now)
    × (s₁.1.1.1.1.1.1.1.1.1.0.now ≡ s₂.1.1.1.1.1.1.1.1.1.0.now))
seam_build_same κs a r₁ r₂ s₁ s₂ p q = (both (saying number) p q, both (saying place) p q, both (saying (value 0)) p q, both (room 0) p q, both (room 1) p q, both (room 2) p q, both (room 3) p q)

pub seam_pair_same : Same 5 seam-pair-kinds.ps seam-pair-kinds.r seam-pair-reads.Post
    (λ κs r₁ r₂ s₁ s₂. (r₁ ≡ r₂)
    × (s₁.1.1.1.1.1.1.1.1.0.now ≡ s₂.1.1.1.1.1.1.1.1.0.now)
    × (s₁.1.1.1.1.1.1.0.now ≡ s₂.1.1.1.1.1.1.0.now)
    × (s₁.1.1.1.1.1.1.1.0.now ≡ s₂.1.1.1.1.1.1.1.0.now))
seam_pair_same κs a r₁ r₂ s₁ s₂ p q = (both number p q, both place p q, both (value 0) p q, both (value 1) p q)

pub seam_check_row_same : Same 3 seam-check-row-kinds.ps seam-check-row-kinds.r seam-check-row-reads.Post
    (λ κs r₁ r₂ s₁ s₂. (r₁ ≡ r₂) × (s₁.1.1.1.1.1.0.now ≡ s₂.1.1.1.1.1.0.now))
seam_check_row_same κs a r₁ r₂ s₁ s₂ p q = (both number p q, both place p q)

pub seam_row_same : Same 5 seam-row-kinds.ps seam-row-kinds.r seam-row-reads.Post
    (λ κs r₁ r₂ s₁ s₂. (r₁ ≡ r₂)
    × (s₁.1.1.1.1.1.1.1.0.now ≡ s₂.1.1.1.1.1.1.1.0.now)
    × (s₁.1.1.1.1.1.0.now ≡ s₂.1.1.1.1.1.0.now)
    × (s₁.1.1.1.1.1.1.0.now ≡ s₂.1.1.1.1.1.1.0.now))
seam_row_same κs a r₁ r₂ s₁ s₂ p q = (both number p q, both place p q, both (value 0) p q, both (value 1) p q)

pub seam_spread_same : Same 4 seam-spread-kinds.ps seam-spread-kinds.r seam-spread-reads.Post
    (λ κs r₁ r₂ s₁ s₂. (r₁ ≡ r₂)
    × (s₁.1.1.1.1.1.0.now ≡ s₂.1.1.1.1.1.0.now)
    × (s₁.1.1.1.1.0.now ≡ s₂.1.1.1.1.0.now))
seam_spread_same κs a r₁ r₂ s₁ s₂ p q = (both number p q, both place p q, both (value 0) p q)

pub seam_within_same : Same 4 seam-within-kinds.ps seam-within-kinds.r seam-within-reads.Post
    (λ κs r₁ r₂ s₁ s₂. (r₁ ≡ r₂)
    × (s₁.1.1.1.1.1.1.1.1.0.now ≡ s₂.1.1.1.1.1.1.1.1.0.now)
    × (s₁.1.1.1.1.1.1.1.0.now ≡ s₂.1.1.1.1.1.1.1.0.now))
seam_within_same κs a r₁ r₂ s₁ s₂ p q = (both number p q, both place p q, both (value 0) p q)

pub seam_write_same : Same 6 seam-write-kinds.ps seam-write-kinds.r seam-write-reads.Post
    (λ κs r₁ r₂ s₁ s₂. (r₁ ≡ r₂)
    × (s₁.1.1.1.1.1.1.1.1.1.0.now ≡ s₂.1.1.1.1.1.1.1.1.1.0.now)
    × (s₁.1.1.1.1.1.1.1.1.0.now ≡ s₂.1.1.1.1.1.1.1.1.0.now)
    × (s₁.1.1.1.1.1.1.0.now ≡ s₂.1.1.1.1.1.1.0.now))
seam_write_same κs a r₁ r₂ s₁ s₂ p q = (both (saying number) p q, both (saying place) p q, both (saying (value 0)) p q, both (room 0) p q)

pub seam_header_same : Same 4 seam-header-kinds.ps seam-header-kinds.r seam-header-reads.Post
    (λ κs r₁ r₂ s₁ s₂. (r₁ ≡ r₂)
    × (s₁.1.1.1.0.now ≡ s₂.1.1.1.0.now)
    × (s₁.1.0.now ≡ s₂.1.0.now)
    × (s₁.1.1.0.now ≡ s₂.1.1.0.now))
seam_header_same κs a r₁ r₂ s₁ s₂ p q = (both number p q, both place p q, both (value 0) p q, both (value 1) p q)

pub seam_read_same : Same 7 seam-read-kinds.ps seam-read-kinds.r seam-read-reads.Post
    (λ κs r₁ r₂ s₁ s₂. (r₁ ≡ r₂)
    × (s₁.1.1.1.1.1.1.1.0.now ≡ s₂.1.1.1.1.1.1.1.0.now)
    × (s₁.1.1.1.1.1.0.now ≡ s₂.1.1.1.1.1.0.now)
    × (s₁.1.1.1.1.1.1.0.now ≡ s₂.1.1.1.1.1.1.0.now)
    × (s₁.1.1.0.now ≡ s₂.1.1.0.now)
    × (s₁.1.1.1.0.now ≡ s₂.1.1.1.0.now)
    × (s₁.1.1.1.1.0.now ≡ s₂.1.1.1.1.0.now))
seam_read_same κs a r₁ r₂ s₁ s₂ p q = (both (saying number) p q, both (saying place) p q, both (saying (value 0)) p q, both (saying (value 1)) p q, both (room 0) p q, both (room 1) p q, both (room 2) p q)
