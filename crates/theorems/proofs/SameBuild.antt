-- Any two outcomes allowed by the contract of `build` are equal: the answer, and the label room, the count room and the two
-- work rooms, its seventh to tenth parameter.
use mathlib.Core.Path.{◌≡◌}
use Rattle.build.specs.Build.{BuildOutcome}
use Rattle.build.proofs.build.Kinds as build-kinds
use Rattle.build.proofs.build.Reads as build-reads
use Rattle.theorems.proofs.Same.{Same, both}

pub build_same : Same 7 build-kinds.ps build-kinds.r build-reads.Post
    (λ κs r₁ r₂ s₁ s₂. (r₁ ≡ r₂)
    × (s₁.1.1.1.1.1.1.0.now ≡ s₂.1.1.1.1.1.1.0.now)
    × (s₁.1.1.1.1.1.1.1.0.now ≡ s₂.1.1.1.1.1.1.1.0.now)
    × (s₁.1.1.1.1.1.1.1.1.0.now ≡ s₂.1.1.1.1.1.1.1.1.0.now)
    × (s₁.1.1.1.1.1.1.1.1.1.0.now ≡ s₂.1.1.1.1.1.1.1.1.1.0.now))
build_same κs a r₁ r₂ s₁ s₂ p q = (
  both (λ (o : BuildOutcome). o.answer) p q,
  both (λ (o : BuildOutcome). o.labels) p q,
  both (λ (o : BuildOutcome). o.counts) p q,
  both (λ (o : BuildOutcome). o.met) p q,
  both (λ (o : BuildOutcome). o.queue) p q,
)
