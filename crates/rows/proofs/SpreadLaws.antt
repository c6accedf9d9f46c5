-- The laws of the spread: in a row of rising ranks, rank 0 can only stand first.
use Rattle.refusal.specs.Tests.{fine, Refusal}
use Rattle.std.specs.Prelude.{Ok, Err}
use Prim.Native.Nat.{ℕ, zero, suc, ◌*◌, ◌<◌}
use mathlib.Core.Path.{◌≡◌, refl, sym, ap}
use mathlib.Core.Bool.{true}
use mathlib.Core.List.{List, [], ◌∷◌}
use native.Mathlib.Numerals.{add-one}
use native.Mathlib.Omega.{arith}
use borrow.Author.Tests.{ne_eqb}
use lib.ListN.{length, get_or}
use lib.Dec.{eqb}
use lib.Seq.{drop-cons}
use Rattle.basics.proofs.Laws.{bcase}
use Rattle.refusal.proofs.Laws.{Named, named, gives_apart, refuses_apart, gives_refuses}
use Rattle.entry.specs.Entry.{rank_of}
use Rattle.rows.specs.Inner.{Rises, Rooms, front_joins}
use Rattle.rows.specs.Rooms.{part, row_at, sound_row, check_rows}
use Rattle.rows.specs.Spread.{joins_at_zero, farthest_in, farthest, spread_figure, spread_by, spread_of, spread_told, SpreadAnswer}
use Rattle.entry.proofs.Laws.{joins_small}
use Rattle.rows.proofs.PairLaws.{row_in}

-- ---- one row

no_first : (row : List ℕ) → ((i : ℕ) → i < length row → 0 < rank_of (get_or row i 0)) → farthest_in row ≡ 0
unfolding farthest_in joins_at_zero
no_first [] h = refl
no_first (e ∷ es) h =
    let rest : farthest_in es ≡ 0 = no_first es (λ i k. h (suc i) (omega arith)) in
    rw (ne_eqb (rank_of e) 0 (omega (arith, h zero (omega arith)))) (omega arith)

-- in a row of rising ranks only the first entry counts
farthest_front : (row : List ℕ) → Rises row → farthest_in row ≡ front_joins row
unfolding farthest_in front_joins
farthest_front [] r = refl
farthest_front (e ∷ es) r =
    let rest : farthest_in es ≡ 0 =
    no_first es
    (λ i k.
    let up : rank_of (get_or (e ∷ es) i 0) < rank_of (get_or (e ∷ es) (suc i) 0) = rw add-one at (r.next i (omega arith)) in
    omega arith) in
    omega arith

pub sound_front : {n w : ℕ} {labels counts : List ℕ} {v : ℕ} → Rooms n w labels counts → v < n
    → sound_row n w n labels counts v ≡ true → farthest_in (row_at w labels counts v) ≡ front_joins (row_at w labels counts v)
sound_front r h e = farthest_front _ (row_in r h e).rises

-- the front of a row as it lies in the room
pub no_front : (w : ℕ) (labels counts : List ℕ) (v : ℕ) → get_or counts v 0 ≡ 0 → front_joins (row_at w labels counts v) ≡ 0
unfolding front_joins row_at part
no_front w labels counts v e = rw e refl

front_part : (w : ℕ) (labels : List ℕ) (v count : ℕ) → 0 < count → v * w < length labels
    → front_joins (part w labels v count) ≡ joins_at_zero (get_or labels (v * w) 0)
unfolding front_joins part
front_part w labels v zero h k = absurd (omega arith)
front_part w labels v (suc count) h k = rw (drop-cons labels (v * w) 0 k) refl

pub front_entry : (w : ℕ) (labels counts : List ℕ) (v : ℕ) → 0 < get_or counts v 0 → v * w < length labels
    → front_joins (row_at w labels counts v) ≡ joins_at_zero (get_or labels (v * w) 0)
unfolding row_at
front_entry w labels counts v h k = front_part w labels v (get_or counts v 0) h k

-- ---- all rows

small_in : (row : List ℕ) → farthest_in row < 65536
unfolding farthest_in joins_at_zero
small_in [] = omega arith
small_in (e ∷ es) =
    bcase (eqb (rank_of e) 0)
    (λ q. rw q (omega (arith, joins_small e, small_in es)))
    (λ q. rw q (omega (arith, small_in es)))

pub farthest_small : (w : ℕ) (labels counts : List ℕ) (v : ℕ) → farthest w labels counts v < 65536
unfolding farthest
farthest_small w labels counts zero = omega arith
farthest_small w labels counts (suc v) = omega (arith, small_in (row_at w labels counts v), farthest_small w labels counts v)

-- the answer behind the tests
module _ (n w : ℕ) (labels counts : List ℕ) where
  pub spread_fine : {d : ℕ} → check_rows n w n labels counts ≡ fine → d ≡ farthest w labels counts n
      → Ok (2 * d) ≡ spread_of n w labels counts
  unfolding spread_of spread_by spread_figure
  spread_fine e f = λ i. spread_by (sym e i) (2 * f i)

  -- so it is the figure where every row is sound
  pub spread_sound : check_rows n w n labels counts ≡ fine → spread_of n w labels counts ≡ Ok (spread_figure n w labels counts)
  unfolding spread_figure
  spread_sound e = sym (spread_fine e refl)

  pub spread_refused : {r : Refusal} → check_rows n w n labels counts ≡ Err r
      → Err r ≡ spread_of n w labels counts
  unfolding spread_of spread_by
  spread_refused e = λ i. spread_by (sym e i) (spread_figure n w labels counts)

-- ---- the paper's numbers tell

-- answers with the same numbers are the same
pub spread_apart : (a b : SpreadAnswer) → spread_told a ≡ spread_told b → a ≡ b
unfolding spread_told
spread_apart (Ok d) (Ok k) e = ap (λ (vs : List ℕ). Ok (get_or vs 0 0)) (gives_apart e)
spread_apart (Ok d) (Err r) e = gives_refuses r 1 e
spread_apart (Err r) (Ok k) e = gives_refuses r 1 (sym e)
spread_apart (Err r) (Err s) e = ap Err (refuses_apart 1 e)

-- every refusal of the spread question has a number
pub spread_named : (n w : ℕ) (labels counts : List ℕ) → Named Err (spread_of n w labels counts)
spread_named n w labels counts = named Err _
