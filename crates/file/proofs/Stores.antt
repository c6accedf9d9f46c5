-- A room being filled: the places before the next one hold what they are to hold, and a room filled to its end is a table.
use Prim.Native.Nat.{ℕ, suc, ◌+◌, ◌-◌, ◌*◌, ◌≤◌, ◌<◌}
use mathlib.Core.Path.{◌≡◌, sym, ap, ap₂, subst, ◌∙◌}
use mathlib.Core.List.{List, ◌++◌}
use native.Mathlib.Omega.{arith}
use native.Mathlib.Decide.{dec_lt}
use native.Mathlib.Numerals.{add-one}
use native.Mathlib.Nat.{suc-mul}
use lib.ListN.{length, get_or, set, take, drop, replicate, length-append, length-drop, length-replicate, get_or-append, get_or-replicate}
use lib.Seq.{get_or-take, get_or-append_right, length-take-le}
use lib.Arith.{digits_div, digits_mod}
use borrow.Author.Tests.{lt-ltb, le-ltb}
use Rattle.basics.specs.Places.{table}
use Rattle.basics.proofs.Laws.{by_cases, cond_true, cond_false, is_table, at_set, get_d_table, length_table}
use Rattle.rows.specs.Rooms.{part}
use Rattle.rows.proofs.Laws.{row_inside, part_table}
use Rattle.fields.specs.Bits.{field_at, byte_len}
use Rattle.file.specs.Reader.{entry_at, cell_of, count_at, label_at, labels_read, bit_behind, row_bit}
use Rattle.file.specs.Inner.{RowThere, RowsThere}
use Rattle.file.proofs.Inversion.{bit_near}

-- ---- the places before the next one

pub record Before (f : ℕ → ℕ) (l : List ℕ) (at : ℕ) : Type 0 where
  pub holds : (i : ℕ) → i < at → get_or l i 0 ≡ f i

pub before_none : {f : ℕ → ℕ} {l : List ℕ} → Before f l 0
before_none = record { holds = λ i h. absurd (omega arith) }

-- one place more
pub before_more : {f : ℕ → ℕ} {l : List ℕ} {at x : ℕ} → Before f l at → at < length l → x ≡ f at → Before f (set l at x) (at + 1)
before_more {f} {l} {at} {x} b h e =
    record { holds = λ i k. at_set l at i x 0 (f i) h (λ q. e ∙ ap f (sym q)) (λ q. b.holds i (omega arith)) }

-- a stretch more
pub before_on : {f : ℕ → ℕ} {l : List ℕ} {at end m : ℕ} (part rest : List ℕ) → Before f l at → at ≤ length l → end ≡ at + m → length part ≡ m
    → ((i : ℕ) → i < m → get_or part i 0 ≡ f (at + i)) → Before f (take at l ++ (part ++ rest)) end
before_on {f} {l} {at} {end} {m} part rest b h e long same =
    let front : length (take at l) ≡ at = length-take-le at l h in
    record {
      holds = λ i k.
          by_cases (dec_lt i at)
          (λ (low : i < at). get_or-append (take at l) (part ++ rest) 0 i (omega arith) ∙ get_or-take at l i 0 low ∙ b.holds i low)
          (λ high.
          let j : at + (i - at) ≡ i = omega arith in
          get_or-append_right (take at l) (part ++ rest) i 0 (omega arith)
          ∙ ap (λ (x : ℕ). get_or (part ++ rest) (i - x) 0) front
          ∙ get_or-append part rest 0 (i - at) (omega arith) ∙ same (i - at) (omega arith) ∙ ap f j);
    }

-- all places
pub before_all : {f : ℕ → ℕ} {l : List ℕ} {at n : ℕ} → Before f l at → n ≤ at → length l ≡ n → l ≡ table n f
before_all {f} {l} {at} {n} b h e = is_table 0 l n f e (λ i k. b.holds i (omega arith))

-- ---- a row

-- place i of row v in the label room
pub label_cell : (s : List ℕ) (n w v i : ℕ) → i < w → label_at s n w (v * w + i) ≡ cell_of s (row_bit s n v) (count_at s n v) i
unfolding label_at
label_cell s n w v i h =
    ap₂ (λ (u x : ℕ). cell_of s (row_bit s n u) (count_at s n u) x) (digits_div v h) (digits_mod v h)

-- a used one of the room read holds its entry
pub entry_read : (s : List ℕ) (n w v count i : ℕ) → v < n → count ≤ w → i < count → count ≡ count_at s n v
    → get_or (part w (labels_read s n w) v count) i 0 ≡ entry_at s (row_bit s n v + 9 + 24 * i)
unfolding labels_read label_at cell_of
entry_read s n w v count i h fits low e =
    part_table n w (λ u x. cell_of s (row_bit s n u) (count_at s n u) x) v count i h fits low
    ∙ cond_true _ 0 (lt-ltb i (count_at s n v) (omega arith))

-- its entries, and behind them 0, are its cells
pub row_made : (s : List ℕ) (p count w m rest : ℕ) {used unused : List ℕ} → used ≡ table m (λ i. entry_at s (p + 9 + 24 * i))
    → unused ≡ replicate rest 0 → m ≡ count → rest + count ≡ w → used ++ unused ≡ table w (cell_of s p count)
unfolding cell_of
row_made s p count w m rest {used} {unused} e f q r =
    let front : length used ≡ count = ap length e ∙ length_table m (λ i. entry_at s (p + 9 + 24 * i)) ∙ q in
    let back : length unused ≡ rest = ap length f ∙ length-replicate rest 0 in
    is_table 0 (used ++ unused) w (cell_of s p count) (omega (arith, length-append used unused))
    (λ i k.
    by_cases (dec_lt i count)
    (λ (low : i < count).
    get_or-append used unused 0 i (omega arith) ∙ ap (λ (l : List ℕ). get_or l i 0) e
    ∙ get_d_table m (λ j. entry_at s (p + 9 + 24 * j)) i 0 (omega arith) ∙ sym (cond_true (entry_at s (p + 9 + 24 * i)) 0 (lt-ltb i count low)))
    (λ high.
    get_or-append_right used unused i 0 (omega arith) ∙ ap (λ (l : List ℕ). get_or l (i - length used) 0) f
    ∙ get_or-replicate rest (i - length used) 0 0 (omega arith) ∙ sym (cond_false (entry_at s (p + 9 + 24 * i)) 0 (le-ltb i count (omega arith)))))

-- ---- all rows

pub row_next : (v w : ℕ) → (v + 1) * w ≡ v * w + w
row_next v w = ap (λ (x : ℕ). x * w) (add-one v) ∙ omega (arith, suc-mul v w)

-- row v, as the label room holds it
pub row_cells : (s : List ℕ) (n w v : ℕ) {p count : ℕ} {row : List ℕ} → p ≡ row_bit s n v → count ≡ count_at s n v
    → row ≡ table w (cell_of s p count) → (i : ℕ) → i < w → get_or row i 0 ≡ label_at s n w (v * w + i)
row_cells s n w v {p} {count} e c g i h =
    ap (λ (l : List ℕ). get_or l i 0) g ∙ get_d_table w (cell_of s p count) i 0 h
    ∙ ap₂ (λ (x y : ℕ). cell_of s x y i) e c ∙ sym (label_cell s n w v i h)

module _ {s : List ℕ} {n w labels p v : ℕ} (asked : RowsThere s n w labels) (e : p ≡ row_bit s n v) (h : v < n) where
  -- the row's bytes are there, and its count fits
  pub next_row : {count : ℕ} → count ≡ field_at s p 9 → RowThere s p count w
  unfolding row_bit bit_behind count_at
  next_row {count} q =
      let c : count ≡ count_at s n v = q ∙ ap (λ (x : ℕ). field_at s x 9) e in
      record {
        near = omega (arith, bit_near s n v, asked.most);
        wide = asked.wide;
        fits = omega (arith, asked.fits v h);
        there =
            subst (λ (x : ℕ). byte_len x ≤ length s) (ap₂ (λ (x y : ℕ). x + 9 + 24 * y) (sym e) (sym c))
            (asked.there (suc v) (omega arith));
      }

  -- it has its place
  pub next_room : v * w + w ≤ labels
  next_room = omega (arith, row_inside {v = v} {n = n} {c = w} {w = w} h (omega arith), asked.room)

  -- and behind it the next row begins
  pub next_bit : {count : ℕ} → count ≡ field_at s p 9 → p + (9 + 24 * count) ≡ row_bit s n (v + 1)
  unfolding row_bit bit_behind
  next_bit {count} q =
      let next : row_bit s n (suc v) ≡ row_bit s n (v + 1) = ap (row_bit s n) (sym (add-one v)) in
      let here : p + (9 + 24 * count) ≡ p + 9 + 24 * field_at s p 9 = omega arith in
      here ∙ ap (λ (x : ℕ). x + 9 + 24 * field_at s x 9) e ∙ next

-- the places of row v, lent
pub row_lent : (labels : List ℕ) (v w : ℕ) → v * w + w ≤ length labels → length (take ((v + 1) * w - v * w) (drop (v * w) labels)) ≡ w
row_lent labels v w h =
    let next : (v + 1) * w ≡ v * w + w = row_next v w in
    let part : (v + 1) * w - v * w ≡ w = omega arith in
    ap (λ (m : ℕ). length (take m (drop (v * w) labels))) part
    ∙ length-take-le w (drop (v * w) labels) (omega (arith, length-drop (v * w) labels))
