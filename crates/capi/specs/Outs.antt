-- What a C caller sees of a call: what is told of it, in the record that every answer has its numbers in, and the lent rooms.
use Rattle.std.specs.Prelude.{ℕ, List, [], ◌∷◌, Result, Ok, Err}
use Rattle.refusal.specs.Told.{Told, gives, refuses, verdict_told}
use Rattle.refusal.specs.Tests.{Refusal}
use Rattle.links.specs.Order.{Ordered}
use Rattle.build.specs.Build.{BuildOutcome}
use Rattle.file.specs.Writer.{WriteOutcome}
use Rattle.file.specs.Reader.{ReadOutcome}

-- the rooms in the order of the parameters
pub record Outs : Type 0 where
  pub told : Told
  pub rooms : List (List ℕ)

-- what is told, and the rooms
abbrev pub outs : Told → List (List ℕ) → Outs
outs told rooms = record { told = told; rooms = rooms }

-- the number returned, `*place`, and the other out values in the order of the parameters
abbrev pub tells : ℕ → ℕ → List ℕ → Told
tells number place values = record { number = number; place = place; values = values }

-- the number and place of any answer
unfoldable pub answer_told : {A : Type 0} → Result A Refusal → Told
answer_told (Ok _) = gives []
answer_told (Err r) = refuses r 0

-- order by degree, order scattered: the order room
unfoldable pub order_outs : Ordered → Outs
order_outs o = outs (verdict_told o.verdict) (o.room ∷ [])

-- the build: labels, counts and the two work rooms
unfoldable pub build_outs : BuildOutcome → Outs
build_outs o = outs o.told (o.labels ∷ o.counts ∷ o.met ∷ o.queue ∷ [])

-- the writer: the output room
unfoldable pub write_outs : WriteOutcome → Outs
write_outs o = outs o.told (o.room ∷ [])

-- the reader: the order room, the label room and the count room
unfoldable pub read_outs : ReadOutcome → Outs
read_outs o = outs o.told (o.order ∷ o.labels ∷ o.counts ∷ [])
