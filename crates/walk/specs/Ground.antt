-- The walk over a ground, in the words of Inner.
use Rattle.std.specs.Prelude.{ℕ, ◌<◌, ◌≤◌, ◌≡◌, Bool, List, length, replicate}
use Rattle.theory.specs.Links.{Block}
use Rattle.theory.specs.Plain.{ones}
use Rattle.walk.specs.Inner.{drops, Bfs}
use Rattle.walk.specs.declared.ground.Ground.{Ground}

-- how many frames it has
abbrev pub frames : Ground → ℕ
frames g = length g.rows.counts.now

-- the drop test by its rows and notes
abbrev pub drops_on : Ground → ℕ → ℕ → Bool
drops_on g = drops g.rows.w g.rows.labels.now g.rows.counts.now g.noted.now

-- its lists are a block
pub record Linked (g : Ground) : Type 0 where
  pub few : frames g ≤ 4096
  pub block : Block (frames g) 1 g.lists.starts.now g.lists.places.now ones

-- the walk over it from this hub, with the frames before place `head` of the queue done
abbrev pub Walking : Ground → ℕ → List ℕ → List ℕ → ℕ → ℕ → Type 0
Walking g = Bfs (frames g) g.lists.starts.now g.lists.places.now (drops_on g)

-- a walk under way, with a frame to come
pub record StepIn (g : Ground) (hub : ℕ) (met queue : List ℕ) (head tail : ℕ) : Type 0 where
  pub given : Linked g
  pub so_far : Walking g hub met queue head tail
  pub more : head < tail

-- a walk to begin
pub record ReachIn (g : Ground) (hub : ℕ) (met queue : List ℕ) : Type 0 where
  pub given : Linked g
  pub hub_in : hub < frames g
  pub met_zero : met ≡ replicate (frames g) 0
  pub queue_zero : queue ≡ replicate (frames g) 0
