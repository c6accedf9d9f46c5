-- An index that is read without refusal has a spread: the spread question refuses none of its rows.
use Rattle.refusal.specs.Tests.{fine}
use Rattle.std.specs.Prelude.{Ok}
use Prim.Native.Nat.{ℕ}
use mathlib.Core.Path.{◌≡◌}
use mathlib.Core.List.{List}
use Rattle.rows.specs.Rooms.{check_rows}
use Rattle.rows.specs.Spread.{spread_figure, spread_of}
use Rattle.rows.proofs.SpreadLaws.{spread_sound}
use Rattle.file.specs.Reader.{frames_of, read_test, labels_read, counts_read, read_outcome, read_of, indexed}
use Rattle.file.proofs.Fit.{fit_rows}
use Rattle.file.proofs.Reader.{readable}
use Rattle.file.proofs.ReadFit.{read_fit}
use Rattle.file.proofs.ReadWrite.{read_takes}

pub read_spread : (s : List ℕ) (w order labels counts : ℕ) → read_test s w order labels counts ≡ fine
    → let n : ℕ = frames_of s in
    spread_of n w (labels_read s n w) (counts_read s n)
    ≡ Ok (spread_figure n w (labels_read s n w) (counts_read s n))
read_spread s w order labels counts e = spread_sound _ w _ _ (fit_rows _ w _ _ _ _ (read_fit (readable s w order labels counts e)))

-- the rows that the reader hands over are sound
pub read_rows : (s : List ℕ) (w : ℕ) (order labels counts : List ℕ) (n k : ℕ) {order₂ labels₂ counts₂ : List ℕ}
    → read_outcome (indexed n k) order₂ labels₂ counts₂ ≡ read_of s w order labels counts
    → check_rows n w n labels₂ counts₂ ≡ fine
read_rows s w order labels counts n k given = fit_rows n w k _ _ _ (read_takes s w order labels counts n k _ _ _ given)
