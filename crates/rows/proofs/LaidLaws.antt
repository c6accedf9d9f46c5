-- The label room and the count room as tables of rows: what one more entry changes, and when two are the same.
use Prim.Native.Nat.{ℕ, ◌+◌, ◌*◌, ◌/◌, ◌%◌, ◌≤◌, ◌<◌}
use mathlib.Core.Path.{◌≡◌, sym, ap, ◌∙◌}
use mathlib.Core.List.{List, [], ◌∷◌, ◌++◌}
use native.Mathlib.Nat.{div-add-mod', div-lt_iff_lt-mul}
use native.Mathlib.Decide.{ℕ_discrete}
use native.Mathlib.Omega.{arith}
use lib.ListN.{length, get_or, set, length-set, length-append, get_or-append, get_or-eq_default}
use lib.Arith.{digits_div, digits_mod}
use lib.Seq.{get_or_at}
use Rattle.basics.specs.Places.{table}
use Rattle.basics.proofs.Laws.{by_cases, three_ways, at_set, is_table, length_table, get_d_table, table_ext}
use Rattle.theory.specs.Rows.{Row}
use Rattle.entry.specs.Entry.{entry_of, encode}
use Rattle.entry.proofs.Laws.{length_encode, encode_append}
use Rattle.rows.proofs.Laws.{row_place}
use Rattle.rows.specs.Laid.{labels_of, counts_of}
use Rattle.rows.specs.Inner.{Laid}

-- ---- entries of a row

encode_snoc : (x : Row) (a : ℕ × ℕ) → encode (x ++ (a ∷ [])) ≡ encode x ++ (entry_of a.0 a.1 ∷ [])
unfolding encode
encode_snoc x a = encode_append x (a ∷ [])

-- the last entry of a row, and the others
last_entry : (x : Row) (a : ℕ × ℕ) → get_or (encode (x ++ (a ∷ []))) (length x) 0 ≡ entry_of a.0 a.1
last_entry x a = rw encode_snoc (get_or_at (encode x) (entry_of a.0 a.1) [] 0 (length x) (length_encode x))

other_entry : (x : Row) (a : ℕ × ℕ) (j : ℕ) → (j ≡ length x → ⊥) → get_or (encode (x ++ (a ∷ []))) j 0 ≡ get_or (encode x) j 0
other_entry x a j h =
    rw encode_snoc
    (three_ways j (length x)
    (λ l. get_or-append (encode x) (entry_of a.0 a.1 ∷ []) 0 j (omega (arith, length_encode x)))
    (λ e. absurd (h e))
    (λ g.
    get_or-eq_default (encode x ++ (entry_of a.0 a.1 ∷ [])) 0
    (omega (arith, length-append (encode x) (entry_of a.0 a.1 ∷ []), length_encode x))
    ∙ sym (get_or-eq_default (encode x) 0 (omega (arith, length_encode x)))))

-- ---- places

pub frame_of : {n w p : ℕ} → 1 ≤ w → p < n * w → p / w < n
frame_of h k = (div-lt_iff_lt-mul h).1 k

pub length_labels : (n w : ℕ) (R : ℕ → Row) → length (labels_of n w R) ≡ n * w
unfolding labels_of
length_labels n w R = length_table (n * w) (λ p. get_or (encode (R (p / w))) (p % w) 0)

pub length_counts : (n : ℕ) (R : ℕ → Row) → length (counts_of n R) ≡ n
unfolding counts_of
length_counts n R = length_table n (λ v. length (R v))

pub count_at_lem : (n : ℕ) (R : ℕ → Row) (v : ℕ) → v < n → get_or (counts_of n R) v 0 ≡ length (R v)
unfolding counts_of
count_at_lem n R v h = get_d_table n (λ u. length (R u)) v 0 h

pub laid_long : {n w : ℕ} {R : ℕ → Row} {labels counts : List ℕ} → Laid n w R labels counts
    → (length labels ≡ n * w) × (length counts ≡ n)
laid_long {n} {w} {R} laid = (ap length laid.rows ∙ length_labels n w R, ap length laid.numbers ∙ length_counts n R)

-- ---- the same rows, the same rooms

pub laid_ext : {n w : ℕ} {R : ℕ → Row} (R' : ℕ → Row) {labels counts : List ℕ} → 1 ≤ w → ((v : ℕ) → v < n → R v ≡ R' v)
    → Laid n w R labels counts → Laid n w R' labels counts
unfolding labels_of counts_of
laid_ext {n} {w} R' wide same laid =
    record {
      rows =
          laid.rows
          ∙ table_ext (n * w) _ (λ p. get_or (encode (R' (p / w))) (p % w) 0)
          (λ p h. ap (λ (x : Row). get_or (encode x) (p % w) 0) (same (p / w) (frame_of wide h)));
      numbers = laid.numbers ∙ table_ext n _ (λ v. length (R' v)) (λ v h. ap (λ (x : Row). length x) (same v h));
    }

-- ---- one more entry behind the row of v

module _ (n w : ℕ) (R R' : ℕ → Row) (v : ℕ) (a : ℕ × ℕ) (inside : v < n) (more : R' v ≡ R v ++ (a ∷ []))
    (same : (u : ℕ) → (u ≡ v → ⊥) → R' u ≡ R u) where
  there : (p : ℕ) → length (R v) < w → p ≡ v * w + length (R v) → entry_of a.0 a.1 ≡ get_or (encode (R' (p / w))) (p % w) 0
  there p room e =
      let q : p / w ≡ v = ap (λ (m : ℕ). m / w) e ∙ digits_div v room in
      let m : p % w ≡ length (R v) = ap (λ (m : ℕ). m % w) e ∙ digits_mod v room in
      rw (q, m, more) (sym (last_entry (R v) a))

  elsewhere : (p : ℕ) → (p ≡ v * w + length (R v) → ⊥) → get_or (encode (R (p / w))) (p % w) 0 ≡ get_or (encode (R' (p / w))) (p % w) 0
  elsewhere p ne =
      by_cases (ℕ_discrete (p / w) v)
      (λ (q : p / w ≡ v).
      let off : p % w ≡ length (R v) → ⊥ = λ m. ne (sym (div-add-mod' p w) ∙ ap (λ (k : ℕ). k * w + p % w) q ∙ ap (λ (k : ℕ). v * w + k) m) in
      rw (q, more) (sym (other_entry (R v) a (p % w) off)))
      (λ q. ap (λ (x : Row). get_or (encode x) (p % w) 0) (sym (same (p / w) q)))

  labels_gain : length (R v) < w → set (labels_of n w R) (v * w + length (R v)) (entry_of a.0 a.1) ≡ labels_of n w R'
  unfolding labels_of
  labels_gain room =
      let e : ℕ = entry_of a.0 a.1 in
      let at : ℕ = v * w + length (R v) in
      let was : List ℕ = table (n * w) (λ p. get_or (encode (R (p / w))) (p % w) 0) in
      let long : length was ≡ n * w = length_table (n * w) (λ p. get_or (encode (R (p / w))) (p % w) 0) in
      let fits : at < length was = rw long (row_place inside room) in
      is_table 0 (set was at e) (n * w) (λ p. get_or (encode (R' (p / w))) (p % w) 0) (length-set was at e ∙ long)
      (λ p h.
      at_set was at p e 0 (get_or (encode (R' (p / w))) (p % w) 0) fits (there p room)
      (λ ne. get_d_table (n * w) (λ q. get_or (encode (R (q / w))) (q % w) 0) p 0 h ∙ elsewhere p ne))

  counts_gain : set (counts_of n R) v (length (R v) + 1) ≡ counts_of n R'
  unfolding counts_of
  counts_gain =
      let was : List ℕ = table n (λ u. length (R u)) in
      let long : length was ≡ n = length_table n (λ u. length (R u)) in
      let grown : length (R' v) ≡ length (R v) + 1 = ap (λ (x : Row). length x) more ∙ length-append (R v) (a ∷ []) in
      is_table 0 (set was v (length (R v) + 1)) n (λ u. length (R' u)) (length-set was v (length (R v) + 1) ∙ long)
      (λ u h.
      at_set was v u (length (R v) + 1) 0 (length (R' u)) (rw long inside)
      (λ (e : u ≡ v). sym grown ∙ ap (λ (k : ℕ). length (R' k)) (sym e))
      (λ ne. get_d_table n (λ k. length (R k)) u 0 h ∙ ap (λ (x : Row). length x) (sym (same u ne))))

  pub laid_gain : {labels counts : List ℕ} → length (R v) < w → Laid n w R labels counts
      → Laid n w R' (set labels (v * w + get_or counts v 0) (entry_of a.0 a.1)) (set counts v (get_or counts v 0 + 1))
  laid_gain room laid =
      rw (laid.rows, laid.numbers, count_at_lem n R v inside) (record { rows = labels_gain room; numbers = counts_gain })
