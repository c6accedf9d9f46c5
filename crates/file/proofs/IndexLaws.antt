-- The lengths of an index's rooms, and where its rows stand in the file.
use Prim.Native.Nat.{ℕ, ◌+◌, ◌*◌}
use mathlib.Core.Path.{◌≡◌}
use mathlib.Core.Bool.{true}
use mathlib.Core.List.{List}
use native.Mathlib.Omega.{arith}
use borrow.Author.Tests.{eq-eqb, eqb-true}
use lib.ListN.{length, get_or}
use Rattle.basics.proofs.Laws.{both, both_true}
use Rattle.rows.specs.Rooms.{row_at}
use Rattle.fields.specs.Bits.{field_at, bit_len}
use Rattle.fields.specs.Layout.{row_fields}
use Rattle.fields.proofs.LayoutLaws.{row_bits}
use Rattle.file.specs.Index.{lengths_fit}
use Rattle.file.specs.Reader.{bit_behind}

-- the next row stands behind one whose count was read
pub row_behind : (s : List ℕ) (p w : ℕ) (labels counts : List ℕ) (v : ℕ) → length (row_at w labels counts v) ≡ get_or counts v 0
    → field_at s p 9 ≡ get_or counts v 0 → p + bit_len (row_fields w labels counts v) ≡ bit_behind s p
unfolding bit_behind
row_behind s p w labels counts v long count = omega (arith, row_bits w labels counts v long)

module _ (n w order labels counts : ℕ) where
  pub lengths_fit_lem : order ≡ n → labels ≡ n * w → counts ≡ n → lengths_fit n w order labels counts ≡ true
  unfolding lengths_fit
  lengths_fit_lem a b c = both _ _ (both _ _ (eq-eqb order n a) (eq-eqb labels (n * w) b)) (eq-eqb counts n c)

  pub fit_lengths : lengths_fit n w order labels counts ≡ true → (order ≡ n) × (labels ≡ n * w) × (counts ≡ n)
  unfolding lengths_fit
  fit_lengths e =
      let (front, c) = both_true _ _ e in
      let (a, b) = both_true _ _ front in
      (eqb-true _ _ a, eqb-true _ _ b, eqb-true _ _ c)
