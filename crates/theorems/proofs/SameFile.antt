-- Any two outcomes allowed by a contract of `file` are equal. The output room is the writer's seventh parameter; the order
-- room, the label room and the count room are the reader's third to fifth.
use mathlib.Core.Path.{◌≡◌, sym, ◌∙◌}
use Rattle.file.specs.Reader.{ReadOutcome}
use Rattle.file.proofs.Writing.{write_same as wrote-same}
use Rattle.file.proofs.write.Kinds as write-kinds
use Rattle.file.proofs.write.Reads as write-reads
use Rattle.file.proofs.header.Kinds as header-kinds
use Rattle.file.proofs.header.Reads as header-reads
use Rattle.file.proofs.read.Kinds as read-kinds
use Rattle.file.proofs.read.Reads as read-reads
use Rattle.theorems.proofs.Same.{Same, SameAnswer, both}

-- the paper's numbers tell the writer's answers apart: no refusal has number 0, and no file is empty
pub write_same : Same 4 write-kinds.ps write-kinds.r write-reads.Post
    (λ κs r₁ r₂ s₁ s₂. (r₁ ≡ r₂) × (s₁.1.1.1.1.1.1.0.now ≡ s₂.1.1.1.1.1.1.0.now))
write_same κs a r₁ r₂ s₁ s₂ p q = wrote-same _ _ _ _ _ _ _ _ r₁ r₂ _ _ p q

pub header_same : SameAnswer 1 header-kinds.ps header-kinds.r header-reads.Post
header_same κs a r₁ r₂ s₁ s₂ p q = p.0 ∙ sym q.0

pub read_same : Same 4 read-kinds.ps read-kinds.r read-reads.Post
    (λ κs r₁ r₂ s₁ s₂. (r₁ ≡ r₂)
    × (s₁.1.1.0.now ≡ s₂.1.1.0.now)
    × (s₁.1.1.1.0.now ≡ s₂.1.1.1.0.now)
    × (s₁.1.1.1.1.0.now ≡ s₂.1.1.1.1.0.now))
read_same κs a r₁ r₂ s₁ s₂ p q = (
  both (λ (o : ReadOutcome). o.answer) p.0 q.0,
  both (λ (o : ReadOutcome). o.order) p.0 q.0,
  both (λ (o : ReadOutcome). o.labels) p.0 q.0,
  both (λ (o : ReadOutcome). o.counts) p.0 q.0,
)
