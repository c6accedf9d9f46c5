-- The writer's outcome by cases: refused by a test on the index, refused for want of room, written.
use Rattle.std.specs.Prelude.{Ok, Err}
use Prim.Native.Nat.{ℕ, ◌+◌, ◌-◌, ◌≤◌}
use mathlib.Core.Path.{◌≡◌, refl, sym, ap, ap₂, ◌∙◌}
use mathlib.Core.Bool.{true}
use mathlib.Core.List.{List, ◌++◌}
use borrow.Author.Tests.{le-leb, leb-true}
use lib.ListN.{length, get_or, take, drop}
use lib.Seq.{drop-drop, take_at, drop_at, length-take-le}
use Rattle.basics.proofs.Laws.{both, both_true}
use Rattle.refusal.specs.Numbers.{OUT}
use Rattle.refusal.specs.Tests.{◌then◌, Verdict, fine, Refusal}
use Rattle.refusal.proofs.Laws.{test_fine, test_held, then_fine, after_fine, vcase, Named, named, gives_apart, refuses_apart, gives_refuses}
use Rattle.fields.specs.Layout.{file_of}
use Rattle.file.specs.Writer.{write_tests, out_fits, out_test, written_told, write_outcome, WriteOutcome, filled_from, write_of, Written}
use Rattle.file.specs.Inner.{Fit}
use Rattle.file.proofs.Fit.{fit}

-- 14: where the file fits, and where it does not
pub out_held : (room start size : ℕ) → out_fits room start size ≡ true → (start ≤ room) × (size ≤ room - start)
unfolding out_fits
out_held room start size e =
    let (a, b) = both_true _ _ e in
    (leb-true start room a, leb-true size (room - start) b)

pub out_fits_lem : (room start size : ℕ) → start ≤ room → size ≤ room - start → out_test room start size ≡ fine
unfolding out_test out_fits
out_fits_lem room start size h l = test_fine OUT 0 (both _ _ (le-leb start room h) (le-leb size (room - start) l))

module _ (n w k : ℕ) (O labels counts out : List ℕ) (start : ℕ) where
  pub write_refused : {a : Written} {r : Refusal} →
      (write_tests n w k O labels counts then out_test (length out) start (length (file_of n w k O labels counts))) ≡ Err r →
      a ≡ Err r → write_outcome a out ≡ write_of n w k O labels counts out start
  unfolding write_of filled_from
  write_refused e f =
      ap (λ (x : Written). write_outcome x out) f
      ∙ sym (ap (λ (t : Verdict). filled_from t out start (file_of n w k O labels counts)) e)

  pub write_out : {r : Refusal} → write_tests n w k O labels counts ≡ fine →
      out_test (length out) start (length (file_of n w k O labels counts)) ≡ Err r →
      write_of n w k O labels counts out start ≡ write_outcome (Err r) out
  write_out e d = sym (write_refused (after_fine _ e ∙ d) refl)

  pub write_filled : write_tests n w k O labels counts ≡ fine →
      out_test (length out) start (length (file_of n w k O labels counts)) ≡ fine →
      let file : List ℕ = file_of n w k O labels counts in
      write_of n w k O labels counts out start
      ≡ write_outcome (Ok (length file)) (take start out ++ (file ++ drop (start + length file) out))
  unfolding write_of filled_from
  write_filled e d = ap (λ (t : Verdict). filled_from t out start (file_of n w k O labels counts)) (after_fine _ e ∙ d)

-- the stretch put back into the room
pub put_back : (out file : List ℕ) (start m : ℕ) → m ≡ length file →
    take start out ++ (file ++ drop m (drop start out)) ≡ take start out ++ (file ++ drop (start + length file) out)
put_back out file start m e =
    ap (λ (r : List ℕ). take start out ++ (file ++ r)) (drop-drop m start out ∙ ap (λ (i : ℕ). drop (start + i) out) e)

-- ---- what an answer tells

module _ (n w k : ℕ) (O labels counts out : List ℕ) (start : ℕ) where
  -- a call that filled bytes passed every test, and the stretch holds the file
  pub record Done (bytes : ℕ) (room : List ℕ) : Type 0 where
    pub fits : Fit n w k O labels counts
    pub long : bytes ≡ length (file_of n w k O labels counts)
    pub before : start ≤ length out
    pub holds : room ≡ take start out ++ (file_of n w k O labels counts ++ drop (start + length (file_of n w k O labels counts)) out)

  out_start : out_test (length out) start (length (file_of n w k O labels counts)) ≡ fine → start ≤ length out
  unfolding out_test
  out_start e = (out_held _ _ _ (test_held _ OUT 0 e)).0

  pub write_done : (bytes : ℕ) (room : List ℕ) → write_outcome (Ok bytes) room ≡ write_of n w k O labels counts out start → Done bytes room
  unfolding written_told write_of filled_from
  write_done bytes room e =
      let file : List ℕ = file_of n w k O labels counts in
      vcase (write_tests n w k O labels counts then out_test (length out) start (length file))
      (λ f.
      let (a, b) = then_fine _ _ f in
      let d : write_outcome (Ok bytes) room
      ≡ write_outcome (Ok (length file)) (take start out ++ (file ++ drop (start + length file) out)) =
      e ∙ write_filled n w k O labels counts out start a b in
      record {
        fits = fit n w k O labels counts a;
        long = ap (λ (t : WriteOutcome). get_or t.told.values 0 0) d;
        before = out_start b;
        holds = ap (λ (t : WriteOutcome). t.room) d;
      })
      (λ r f.
      let d : write_outcome (Ok bytes) room ≡ write_outcome (Err r) out = e ∙ ap (λ (t : Verdict). filled_from t out start file) f in
      gives_refuses r 1 (ap (λ (t : WriteOutcome). t.told) d))

  -- what is then read from the stretch
  pub done_file : (bytes : ℕ) (room : List ℕ) → Done bytes room → take bytes (drop start room) ≡ file_of n w k O labels counts
  done_file bytes room d =
      let file : List ℕ = file_of n w k O labels counts in
      let rest : List ℕ = drop (start + length file) out in
      ap₂ (λ (m : ℕ) (l : List ℕ). take m (drop start l)) d.long d.holds
      ∙ ap (take (length file)) (drop_at (take start out) (file ++ rest) start (length-take-le start out d.before))
      ∙ take_at file rest (length file) refl

  -- two calls with one outcome
  pub write_same : (a b : Written) (x y : List ℕ) → write_outcome a x ≡ write_of n w k O labels counts out start →
      write_outcome b y ≡ write_of n w k O labels counts out start → (a ≡ b) × (x ≡ y)
  write_same a b x y e f = (ap (λ (o : WriteOutcome). o.answer) (e ∙ sym f), ap (λ (o : WriteOutcome). o.room) (e ∙ sym f))

  -- every refusal of the writer has a number
  pub write_named : Named Err (write_of n w k O labels counts out start).answer
  write_named = named Err _

-- answers with the same numbers are the same
pub written_apart : (a b : Written) → written_told a ≡ written_told b → a ≡ b
unfolding written_told
written_apart (Ok m) (Ok l) e = ap {B = Written} (λ (vs : List ℕ). Ok (get_or vs 0 0)) (gives_apart e)
written_apart (Ok m) (Err r) e = gives_refuses r 1 e
written_apart (Err r) (Ok l) e = gives_refuses r 1 (sym e)
written_apart (Err r) (Err s) e = ap {B = Written} Err (refuses_apart 1 e)
