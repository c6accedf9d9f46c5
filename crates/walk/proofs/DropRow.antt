-- The row of a frame: it lies in the label room, and its ranks have notes.
use Prim.Native.Nat.{ℕ, ◌+◌, ◌*◌, ◌≤◌, ◌<◌}
use mathlib.Core.Path.{◌≡◌}
use mathlib.Core.List.{List}
use native.Mathlib.Omega.{arith}
use lib.ListN.{length, get_or}
use Rattle.entry.specs.Entry.{rank_of}
use Rattle.entry.specs.Inner.{RanksIn}
use Rattle.rows.specs.Rooms.{row_at}
use Rattle.rows.proofs.Laws.{row_ends, length_used}
use Rattle.walk.specs.Inner.{RowsRise}

module _ {n w : ℕ} {labels counts : List ℕ} {v : ℕ} (r : RowsRise n w labels counts) (frame : v < n) where
  pub row_long : length (row_at w labels counts v) ≡ get_or counts v 0
  row_long = length_used labels counts r.long frame (r.rows.fits v frame)

  pub row_low : (i : ℕ) → i < length (row_at w labels counts v) → rank_of (get_or (row_at w labels counts v) i 0) < n
  row_low i h = r.rows.ranks v i frame (omega (arith, row_long))

  pub row_lies : v * w + get_or counts v 0 ≤ length labels
  row_lies = row_ends r.long frame (r.rows.fits v frame)

  -- of a list that is the row, every rank has its note
  pub row_noted : (noted : List ℕ) {row : List ℕ} → n ≤ length noted → row ≡ row_at w labels counts v → RanksIn row noted
  row_noted noted notes same = rw same (λ i h. omega (arith, row_low i h))
