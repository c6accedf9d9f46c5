-- Where a run of walks stops: at the first rank at which the rule's rows are over W or over 4,095 joins, or at k.
use Rattle.std.specs.Prelude.{Err}
use Prim.Native.Nat.{ℕ, zero, suc, ◌*◌, ◌/◌, ◌%◌, ◌≤◌, ◌<◌}
use mathlib.Core.Path.{◌≡◌, refl, sym, ap, ◌∙◌}
use mathlib.Core.Bool.{true, false}
use mathlib.Core.List.{List, []}
use native.Mathlib.Omega.{arith}
use borrow.Author.Tests.{ne_eqb, eqb-true, ltb-false}
use lib.ListN.{length, get_or, replicate, length-replicate, get_or-replicate}
use lib.Dec.{ltb}
use Rattle.basics.proofs.Laws.{is_table, first_is, end_none, none_end, some_not, either_left, either_right, either_false}
use Rattle.refusal.specs.Numbers.{ROOM, FAR}
use Rattle.refusal.specs.Tests.{refusal, fine}
use Rattle.refusal.proofs.Laws.{test_fine, test_refused, test_held}
use Rattle.theory.specs.Rows.{Row}
use Rattle.theory.specs.Plain.{row_by}
use Rattle.theory.proofs.Plain.{row_none}
use Rattle.entry.specs.Entry.{encode}
use Rattle.rows.specs.Laid.{labels_of, counts_of}
use Rattle.rows.specs.Inner.{Laid}
use Rattle.build.specs.Build.{full_at, far_at, stops, stop_at, walks_test}

no_entry : (i : ℕ) → get_or (encode []) i 0 ≡ 0
unfolding encode
no_entry i = refl

module _ (n w : ℕ) (S L O : List ℕ) where
  -- before any walk the rows are empty, and the rooms 0
  pub laid_empty : Laid n w (row_by n S L O 0) (replicate (n * w) 0) (replicate n 0)
  unfolding labels_of counts_of
  laid_empty =
      record {
        rows =
            is_table 0 (replicate (n * w) 0) (n * w) _ (length-replicate (n * w) 0)
            (λ p h.
            get_or-replicate (n * w) p 0 0 h
            ∙ sym (ap (λ (x : Row). get_or (encode x) (p % w) 0) (row_none n S L O (p / w)) ∙ no_entry (p % w)));
        numbers =
            is_table 0 (replicate n 0) n _ (length-replicate n 0)
            (λ v h. get_or-replicate n v 0 0 h ∙ sym (ap (λ (x : Row). length x) (row_none n S L O v)));
      }

  -- where no rank before r stops, the rows at r have at most w entries
  pub fit_upto : (r : ℕ) → ((j : ℕ) → j < r → stops n w S L O j ≡ false) → (v : ℕ) → v < n → length (row_by n S L O r v) ≤ w
  unfolding full_at
  fit_upto zero none v h = omega (arith, ap (λ (x : Row). length x) (row_none n S L O v))
  fit_upto (suc r) none v h =
      ltb-false w (length (row_by n S L O (suc r) v))
      (some_not (λ u. ltb w (length (row_by n S L O (suc r) u))) 0 n v
      (either_false (full_at n w S L O r) (far_at n S L O r) (none r (omega arith))).0 (omega arith) (omega arith))

  module _ (k r : ℕ) (below : r < k) (none : (j : ℕ) → j < r → stops n w S L O j ≡ false) where
    pub stop_here : stops n w S L O r ≡ true → stop_at n w k S L O ≡ r
    unfolding stop_at
    stop_here e = first_is (stops n w S L O) 0 k r (omega arith) (omega arith) e (λ j l h. none j h)

    -- ROOM at the rank
    pub run_full : full_at n w S L O r ≡ true → walks_test n w k S L O ≡ Err (refusal ROOM r)
    unfolding walks_test
    run_full e =
        rw (stop_here (either_left (full_at n w S L O r) (far_at n S L O r) e), e) (test_refused ROOM r (ne_eqb r k (omega arith)))

    -- FAR at 0
    pub run_far : full_at n w S L O r ≡ false → far_at n S L O r ≡ true → walks_test n w k S L O ≡ Err (refusal FAR 0)
    unfolding walks_test
    run_far e f =
        rw (stop_here (either_right (full_at n w S L O r) (far_at n S L O r) f), e) (test_refused FAR 0 (ne_eqb r k (omega arith)))

  pub run_end : (k : ℕ) → ((j : ℕ) → j < k → stops n w S L O j ≡ false) → walks_test n w k S L O ≡ fine
  unfolding walks_test stop_at
  run_end k none = test_fine _ _ (none_end (stops n w S L O) k none)

  -- no walk refused: the run stopped at k, and no row there is over w
  module _ (k : ℕ) (e : walks_test n w k S L O ≡ fine) where
    pub at_end : stop_at n w k S L O ≡ k
    unfolding walks_test
    at_end = eqb-true (stop_at n w k S L O) k (test_held _ _ _ e)

    pub narrow_rows : (v : ℕ) → v < n → length (row_by n S L O k v) ≤ w
    unfolding walks_test stop_at
    narrow_rows = fit_upto k (end_none (stops n w S L O) k (test_held _ _ _ e))
