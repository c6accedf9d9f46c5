-- What the inner functions of the build ask of each other and promise: what the tests show, the rooms cleared, and the rooms
-- that the walks leave.
use Rattle.std.specs.Prelude.{ℕ, ◌*◌, ◌≤◌, ◌≡◌, List, length, replicate, Ok, Err}
use Rattle.refusal.specs.Numbers.{ROOM, FAR}
use Rattle.refusal.specs.Inner.{Sizes}
use Rattle.refusal.specs.Sizes.{most_frames}
use Rattle.refusal.specs.Tests.{refusal, Verdict, fine, Refusal}
use Rattle.theory.specs.Links.{Block, Order}
use Rattle.theory.specs.Plain.{ones, row_by}
use Rattle.rows.specs.Inner.{Laid}
use Rattle.walk.specs.Inner.{lacking}
use Rattle.walk.specs.Walk.{Walked}
use Rattle.walk.specs.declared.Unmade.{Unmade}
use Rattle.walk.specs.declared.Unmade.TheVariants.{Full, Far}
use Rattle.build.specs.Build.{stop_at, walks_test}

-- what the tests show of what is only read: a block and an order
pub record Tested (n w k : ℕ) (S L O : List ℕ) : Type 0 where
  pub sizes : Sizes n w
  pub stop : k ≤ n
  pub block : Block n 1 S L ones
  pub order : Order n O

-- and of the rooms to fill: they have the right length
pub record MakeIn (n w k : ℕ) (S L O labels counts met queue : List ℕ) : Type 0 where
  pub given : Tested n w k S L O
  pub labels_long : length labels ≡ n * w
  pub counts_long : length counts ≡ n
  pub met_long : length met ≡ n
  pub queue_long : length queue ≡ n

-- the same with the rooms cleared
pub record RunIn (n w k : ℕ) (S L O labels counts met queue noted : List ℕ) : Type 0 where
  pub given : Tested n w k S L O
  pub labels_zero : labels ≡ replicate (n * w) 0
  pub counts_zero : counts ≡ replicate n 0
  pub met_zero : met ≡ replicate n 0
  pub queue_zero : queue ≡ replicate n 0
  pub noted_lacking : noted ≡ replicate most_frames lacking

-- what a walk of this rank that is not made makes of the build: ROOM at the rank, FAR at 0
unfoldable pub refusal_of : Unmade → ℕ → Refusal
refusal_of Full rank = refusal ROOM rank
refusal_of Far rank = refusal FAR 0

-- and what any walk does
unfoldable pub walk_verdict : Walked → ℕ → Verdict
walk_verdict (Ok _) rank = fine
walk_verdict (Err unmade) rank = Err (refusal_of unmade rank)

-- what the walks give back, and the rooms after them: the rows of the rule at the rank where they stopped
pub record RunOut (n w k : ℕ) (S L O : List ℕ) (verdict : Verdict)
    (labels_after counts_after met_after queue_after : List ℕ) : Type 0 where
  pub answer : verdict ≡ walks_test n w k S L O
  pub laid : Laid n w (row_by n S L O (stop_at n w k S L O)) labels_after counts_after
  pub met_zero : met_after ≡ replicate n 0
  pub queue_zero : queue_after ≡ replicate n 0
