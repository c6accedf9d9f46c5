-- The reader's tests as a whole: width, header, lengths, body; what a file that passes them has; and the rooms it fills.
use Rattle.std.specs.Prelude.{Err}
use Prim.Native.Nat.{ℕ, ◌*◌, ◌≤◌, ◌<◌}
use mathlib.Core.Path.{◌≡◌, sym, ap, ap₂, subst, ◌∙◌}
use mathlib.Core.Bool.{true}
use mathlib.Core.List.{List}
use native.Mathlib.Omega.{arith}
use lib.ListN.{length}
use Rattle.refusal.specs.Numbers.{SIZE, LENGTH}
use Rattle.refusal.specs.Sizes.{width_fits}
use Rattle.refusal.specs.Tests.{Verdict, fine, Refusal}
use Rattle.refusal.proofs.Laws.{test_fine, test_held, then_fine, after_fine, tests_each}
use Rattle.refusal.proofs.SizeLaws.{width_held}
use Rattle.file.specs.Index.{lengths_fit}
use Rattle.file.specs.Reader.{frames_of, stop_of, header_test, order_from, rows_from, end_test, body_test, read_test, row_bit, count_at, order_read, labels_read, counts_read, read_outcome, filled_in, read_of, Opened, indexed}
use Rattle.file.specs.Inner.{OrderThere, RowsThere}
use Rattle.file.proofs.Fields.{row_fits}
use Rattle.file.proofs.Heading.{Headed, headed, frames_most}
use Rattle.file.proofs.IndexLaws.{fit_lengths}
use Rattle.file.proofs.Inversion.{bits_there}

-- ---- the tests in their order

module _ (s : List ℕ) (w order labels counts : ℕ) where
  pub body_left : {n k : ℕ} → width_fits w ≡ true → header_test s ≡ fine → n ≡ frames_of s → k ≡ stop_of s
      → lengths_fit n w order labels counts ≡ true → read_test s w order labels counts ≡ body_test s n w k
  unfolding read_test
  body_left e h p q l =
      after_fine _ (test_fine SIZE 0 e) ∙ after_fine _ h
      ∙ after_fine _ (test_fine LENGTH 0 (ap (λ (x : ℕ). lengths_fit x w order labels counts) (sym p) ∙ l))
      ∙ ap₂ (λ (x y : ℕ). body_test s x w y) (sym p) (sym q)

-- what a file has that passes every test
pub record Readable (s : List ℕ) (w order labels counts : ℕ) : Type 0 where
  pub some : 1 ≤ w
  pub wide : w ≤ 256
  pub head : Headed s
  pub orders : order ≡ frames_of s
  pub labelled : labels ≡ frames_of s * w
  pub counted : counts ≡ frames_of s
  pub ordered : order_from s (frames_of s) 0 (frames_of s) ≡ fine
  pub rowed : rows_from s (frames_of s) w (stop_of s) 0 (frames_of s) ≡ fine
  pub ended : end_test s (row_bit s (frames_of s) (frames_of s)) ≡ fine

pub readable : (s : List ℕ) (w order labels counts : ℕ) → read_test s w order labels counts ≡ fine
    → Readable s w order labels counts
unfolding read_test body_test
readable s w order labels counts e =
    let n : ℕ = frames_of s in
    let (size, rest) = then_fine _ _ e in
    let (head, rest2) = then_fine _ _ rest in
    let (lengths, rest3) = then_fine _ _ rest2 in
    let (ordered, rest4) = then_fine _ _ rest3 in
    let (rowed, ended) = then_fine _ _ rest4 in
    let (low, high) = width_held w (test_held _ SIZE 0 size) in
    let (a, b, c) = fit_lengths n w order labels counts (test_held _ LENGTH 0 lengths) in
    record {
      some = low;
      wide = high;
      head = headed s head;
      orders = a;
      labelled = b;
      counted = c;
      ordered = ordered;
      rowed = rowed;
      ended = ended;
    }

-- its counts fit the width
pub count_fits : {s : List ℕ} {w order labels counts : ℕ} → Readable s w order labels counts
    → (v : ℕ) → v < frames_of s → count_at s (frames_of s) v ≤ w
unfolding count_at
count_fits {s} {w} r v h =
    row_fits s (frames_of s) w (stop_of s) v (row_bit s (frames_of s) v)
    (tests_each _ (frames_of s) r.rowed v h)

-- what the storing pass asks of the order and of the rows
pub stores_order : {s : List ℕ} {w order labels counts : ℕ} → Readable s w order labels counts → OrderThere s order
unfolding row_bit
stores_order {s} {w} {order} r =
    subst (OrderThere s) (sym r.orders)
    (record {
      most = frames_most s;
      there = bits_there s (frames_of s) w (stop_of s) r.rowed r.head.long r.ordered 0 (omega arith);
    })

pub stores_rows : {s : List ℕ} {w order labels counts : ℕ} → Readable s w order labels counts → RowsThere s counts w labels
stores_rows {s} {w} {order} {labels} r =
    subst (λ (x : ℕ). RowsThere s x w labels) (sym r.counted)
    (record {
      most = frames_most s;
      wide = r.wide;
      fits = count_fits r;
      there = bits_there s (frames_of s) w (stop_of s) r.rowed r.head.long r.ordered;
      room = r.labelled;
    })

-- ---- the outcome

module _ (s : List ℕ) (w : ℕ) (order labels counts : List ℕ) where
  -- a refusal leaves the rooms
  pub read_refused : {a : Opened} {r : Refusal} → read_test s w (length order) (length labels) (length counts) ≡ Err r → a ≡ Err r
      → read_outcome a order labels counts ≡ read_of s w order labels counts
  unfolding read_of filled_in
  read_refused e g =
      ap (λ (x : Opened). read_outcome x order labels counts) g ∙ sym (ap (λ (v : Verdict). filled_in v s w order labels counts) e)

  -- the rooms filled to their ends are what the file says
  pub read_fine : {n k : ℕ} {o l c : List ℕ} → read_test s w (length order) (length labels) (length counts) ≡ fine
      → n ≡ frames_of s → k ≡ stop_of s
      → o ≡ order_read s (length order)
      → l ≡ labels_read s (length counts) w
      → c ≡ counts_read s (length counts)
      → read_outcome (indexed n k) o l c ≡ read_of s w order labels counts
  unfolding read_of filled_in
  read_fine {n} {k} {o} {l} {c} e p q f g h =
      let r : Readable s w (length order) (length labels) (length counts) = readable s w _ _ _ e in
      let f' = f ∙ ap (order_read s) r.orders in
      let g' = g ∙ ap (λ (x : ℕ). labels_read s x w) r.counted in
      let h' = h ∙ ap (counts_read s) r.counted in
      (λ i. read_outcome (indexed (p i) (q i)) (f' i) (g' i) (h' i))
      ∙ sym (ap (λ (v : Verdict). filled_in v s w order labels counts) e)
