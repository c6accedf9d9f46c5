-- What the inner functions of the listing ask of each other and promise: text put behind what a room holds, and rooms that
-- can be listed.
use Rattle.std.specs.Prelude.{ℕ, ◌+◌, ◌*◌, ◌≤◌, ◌<◌, ◌≡◌, true, List, ◌++◌, length, take, drop}
use Rattle.rows.specs.Rooms.{sound_row}
use Rattle.listing.specs.Lines.{WIDTH, MOST}

-- text put behind the first `at` bytes of a room, up to `end`; behind it the room stays as it was
pub record PutText (before : List ℕ) (at : ℕ) (text after : List ℕ) (end : ℕ) : Type 0 where
  pub long : length after ≡ length before
  pub ends : end ≡ at + length text
  pub holds : take end after ≡ take at before ++ text
  pub rest : drop end after ≡ drop end before

-- rooms cut to one number of frames, at most 256
pub record Cut (order labels counts : List ℕ) : Type 0 where
  pub frames : length counts ≤ MOST
  pub ordered : length order ≡ length counts
  pub places : length labels ≡ length counts * WIDTH

-- rooms that can be listed: cut, and each row is sound for the bound n
pub record Shown (order labels counts : List ℕ) : Type 0 where
  pub cut : Cut order labels counts
  pub sound : (v : ℕ) → v < length counts → sound_row (length counts) WIDTH (length counts) labels counts v ≡ true
