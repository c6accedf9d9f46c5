-- An index as it lies in the rooms: their lengths, and when two indexes are the same.
use Rattle.std.specs.Prelude.{ℕ, ◌*◌, ◌<◌, ◌≡◌, Bool, ◌&&◌, List, eqb}
use Rattle.rows.specs.Rooms.{row_at}

-- the lengths of an index's rooms: the order n, the labels n * W, the counts n
unfoldable pub lengths_fit : ℕ → ℕ → ℕ → ℕ → ℕ → Bool
lengths_fit n w order labels counts = eqb order n && eqb labels (n * w) && eqb counts n

-- an index as it lies in the rooms
pub record Stored : Type 0 where
  pub frames : ℕ
  pub width : ℕ
  pub stop : ℕ
  pub order : List ℕ
  pub labels : List ℕ
  pub counts : List ℕ

abbrev pub stored : ℕ → ℕ → ℕ → List ℕ → List ℕ → List ℕ → Stored
stored n w k O labels counts = record { frames = n; width = w; stop = k; order = O; labels = labels; counts = counts }

-- two indexes are the same if n, k, the order, the counts and the used entries agree
pub record SameIndex (a b : Stored) : Type 0 where
  pub frames : a.frames ≡ b.frames
  pub stop : a.stop ≡ b.stop
  pub order : a.order ≡ b.order
  pub counts : a.counts ≡ b.counts
  pub entries : (v : ℕ) → v < a.frames → row_at a.width a.labels a.counts v ≡ row_at b.width b.labels b.counts v
