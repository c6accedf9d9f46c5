-- Any two outcomes allowed by a contract of `rows` are equal. A part handed back is equal in its entries and in the place
-- where it lies.
use mathlib.Core.Path.{◌≡◌, sym, ◌∙◌}
use Rattle.entry.proofs.rank_of.Kinds as rank-of-kinds
use Rattle.entry.proofs.rank_of.Reads as rank-of-reads
use Rattle.entry.proofs.joins_of.Kinds as joins-of-kinds
use Rattle.entry.proofs.joins_of.Reads as joins-of-reads
use Rattle.entry.proofs.entry_of.Kinds as entry-of-kinds
use Rattle.entry.proofs.entry_of.Reads as entry-of-reads
use Rattle.rows.proofs.part.row_part.Kinds as row-part-kinds
use Rattle.rows.proofs.part.row_part.Reads as row-part-reads
use Rattle.rows.proofs.check.check_rows.Kinds as check-rows-kinds
use Rattle.rows.proofs.check.check_rows.Reads as check-rows-reads
use Rattle.rows.proofs.check.check_row.Kinds as check-row-kinds
use Rattle.rows.proofs.check.check_row.Reads as check-row-reads
use Rattle.rows.proofs.pair.pair.Kinds as pair-kinds
use Rattle.rows.proofs.pair.pair.Reads as pair-reads
use Rattle.rows.proofs.lookup.row.Kinds as row-kinds
use Rattle.rows.proofs.lookup.row.Reads as row-reads
use Rattle.rows.proofs.spread.spread.Kinds as spread-kinds
use Rattle.rows.proofs.spread.spread.Reads as spread-reads
use Rattle.rows.proofs.within.within.Kinds as within-kinds
use Rattle.rows.proofs.within.within.Reads as within-reads
use Rattle.rows.proofs.rooms.check_rooms.Kinds as check-rooms-kinds
use Rattle.rows.proofs.rooms.check_rooms.Reads as check-rooms-reads
use Rattle.rows.proofs.rooms.total.Kinds as total-kinds
use Rattle.rows.proofs.rooms.total.Reads as total-reads
use Rattle.theorems.proofs.Same.{Same, SameAnswer}

pub rank_of_same : SameAnswer 0 rank-of-kinds.ps rank-of-kinds.r rank-of-reads.Post
rank_of_same κs a r₁ r₂ s₁ s₂ p q = p ∙ sym q

pub joins_of_same : SameAnswer 0 joins-of-kinds.ps joins-of-kinds.r joins-of-reads.Post
joins_of_same κs a r₁ r₂ s₁ s₂ p q = p ∙ sym q

pub entry_of_same : SameAnswer 0 entry-of-kinds.ps entry-of-kinds.r entry-of-reads.Post
entry_of_same κs a r₁ r₂ s₁ s₂ p q = p ∙ sym q

pub row_part_same : Same 1 row-part-kinds.ps row-part-kinds.r row-part-reads.Post
    (λ κs r₁ r₂ s₁ s₂. (r₁.now ≡ r₂.now) × (r₁.ref_ptr ≡ r₂.ref_ptr))
row_part_same κs a r₁ r₂ s₁ s₂ p q = (p.0 ∙ sym q.0, p.1 ∙ sym q.1)

pub check_rooms_same : SameAnswer 2 check-rooms-kinds.ps check-rooms-kinds.r check-rooms-reads.Post
check_rooms_same κs a r₁ r₂ s₁ s₂ p q = p.0 ∙ sym q.0

pub total_same : SameAnswer 1 total-kinds.ps total-kinds.r total-reads.Post
total_same κs a r₁ r₂ s₁ s₂ p q = p.0 ∙ sym q.0

pub check_rows_same : SameAnswer 2 check-rows-kinds.ps check-rows-kinds.r check-rows-reads.Post
check_rows_same κs a r₁ r₂ s₁ s₂ p q = p.0 ∙ sym q.0

pub check_row_same : SameAnswer 2 check-row-kinds.ps check-row-kinds.r check-row-reads.Post
check_row_same κs a r₁ r₂ s₁ s₂ p q = p.0 ∙ sym q.0

pub pair_same : SameAnswer 2 pair-kinds.ps pair-kinds.r pair-reads.Post
pair_same κs a r₁ r₂ s₁ s₂ p q = p.0 ∙ sym q.0

pub row_same : Same 2 row-kinds.ps row-kinds.r row-reads.Post
    (λ κs r₁ r₂ s₁ s₂. (r₁.now ≡ r₂.now) × (r₁.ref_ptr ≡ r₂.ref_ptr))
row_same κs a r₁ r₂ s₁ s₂ p q = (p.0 ∙ sym q.0, p.1 ∙ sym q.1)

pub spread_same : SameAnswer 2 spread-kinds.ps spread-kinds.r spread-reads.Post
spread_same κs a r₁ r₂ s₁ s₂ p q = p.0 ∙ sym q.0

pub within_same : SameAnswer 2 within-kinds.ps within-kinds.r within-reads.Post
within_same κs a r₁ r₂ s₁ s₂ p q = p.0 ∙ sym q.0
