-- The laws of the listing's lines: one entry or line more, and the rows of rooms that can be listed.
use Prim.Native.Nat.{ℕ, ◌+◌, ◌≤◌, ◌<◌}
use native.Mathlib.Numerals.{add-one}
use native.Mathlib.Omega.{arith}
use mathlib.Core.Path.{◌≡◌, refl}
use mathlib.Core.List.{List}
use lib.ListN.{length, get_or}
use Rattle.entry.specs.Inner.{RanksIn}
use Rattle.rows.specs.Inner.{Rooms}
use Rattle.rows.specs.Rooms.{part_of, row_at}
use Rattle.rows.proofs.Laws.{Sound, row_sound}
use Rattle.rows.proofs.RoomLaws.{part_is_row, length_row}
use Rattle.listing.specs.Inner.{PutText, Shown}
use Rattle.listing.specs.Lines.{WIDTH, texts}
use Rattle.listing.proofs.TextLaws.{put_more}

-- one text more put
pub put_text : {room mid last : List ℕ} {at next end : ℕ} (text : ℕ → List ℕ) (i : ℕ) → PutText room at (texts text i) mid next
    → PutText mid next (text i) last end → PutText room at (texts text (i + 1)) last end
unfolding texts
put_text text i p q = rw add-one (put_more p q)

-- ---- the rows of rooms that can be listed

module _ {order labels counts : List ℕ} (s : Shown order labels counts) (v : ℕ) (h : v < length counts) where
  rooms : Rooms (length counts) WIDTH labels counts
  rooms =
      record {
        sizes = record {
          some_frames = omega arith;
          frames = omega (arith, s.cut.frames);
          some_width = omega arith;
          width = omega arith;
        };
        places = s.cut.places;
        each = refl;
      }

  sound : (get_or counts v 0 ≤ WIDTH) × Sound (length counts) (length counts) (row_at WIDTH labels counts v) (get_or counts v 0)
  sound = row_sound (length counts) WIDTH (length counts) labels counts v (s.sound v h)

  -- a row's part is the row
  pub shown_row : part_of WIDTH labels v (get_or counts v 0) ≡ row_at WIDTH labels counts v
  shown_row = part_is_row rooms v h sound.0

  -- it has at most 32 entries
  pub shown_few : length (row_at WIDTH labels counts v) ≤ WIDTH
  shown_few = omega (arith, length_row rooms v h sound.0, sound.0)

  -- each rank has its frame in the order
  pub shown_ranks : RanksIn (row_at WIDTH labels counts v) order
  shown_ranks i k =
      let inside : i < get_or counts v 0 = omega (arith, length_row rooms v h sound.0) in
      omega (arith, sound.1.rank i inside, s.cut.ordered)
