-- The writer: each refusal as its test gives it, and the file put into the part of the room that is lent to `fill`; what lies
-- before and behind that part comes back as it was.
use Rattle.std.specs.Prelude.{Ok}
use Prim.Native.Nat.{ℕ, ◌+◌, ◌-◌, ◌≤◌}
use mathlib.Core.Path.{◌≡◌, sym, ap, ap₂, subst, ◌∙◌}
use mathlib.Core.List.{List, ◌++◌}
use native.Mathlib.Omega.{arith}
use native.Mathlib.Nat.{add-sub_cancel_left, le_of_eq, le_trans}
use lib.ListN.{length, take, drop, length-drop}
use lib.Seq.{length-take-le}
use Rattle.std.proofs.Common.{rules}
use Rattle.file.proofs.Steps.{held, test_stops, test_goes}
use Rattle.file.specs.Writer.{out_test, write_outcome}
use Rattle.file.proofs.Fit.{fit, file_bytes}
use Rattle.file.proofs.Writing.{out_held, out_fits_lem, write_refused, write_filled, put_back}
use Rattle.file.proofs.write.Goals as goal

-- the stretch that is lent has their length
stretch : (out : List ℕ) (start size : ℕ) → start ≤ length out → size ≤ length out - start →
    length (take (start + size - start) (drop start out)) ≡ size
stretch out start size h l =
    ap (λ (m : ℕ). length (take m (drop start out))) (add-sub_cancel_left start size)
    ∙ length-take-le size (drop start out) (subst (λ (m : ℕ). size ≤ m) (sym (length-drop start out)) l)

-- and holds them when it comes back
back : (out last file : List ℕ) (start size : ℕ) → last ≡ file → size ≡ length file →
    write_outcome (Ok size) (take start out ++ (last ++ drop (start + size - start) (drop start out)))
    ≡ write_outcome (Ok (length file)) (take start out ++ (file ++ drop (start + length file) out))
back out last file start size e d =
    ap₂ (λ (m : ℕ) (l : List ℕ). write_outcome (Ok m)
    (take start out ++ (l ++ drop (start + size - start) (drop start out)))) d e
    ∙ ap (write_outcome (Ok (length file))) (put_back out file start (start + size - start)
    (add-sub_cancel_left start size ∙ d))

pub returns-in_err-tests : goal.returns-in_err-tests
returns-in_err-tests c = write_refused _ _ _ _ _ _ _ _ (test_stops _ c.tests.ensures c.in_err-tests.was) (search rules)

pub size-size-requires : goal.size-size-requires
size-size-requires c =
    let f = fit _ _ _ _ _ _ (sym c.tests.ensures ∙ c.in_ok-tests.was) in (f.rooms.sizes.frames, omega (arith, f.rooms.each, f.rooms.sizes.frames))

pub returns-in_err-test : goal.returns-in_err-test
unfolding out_test
returns-in_err-test c =
    let passed = sym c.tests.ensures ∙ c.in_ok-tests.was in
    let bytes = c.size-size.ensures ∙ sym (file_bytes _ _ _ _ _ _ (fit _ _ _ _ _ _ passed)) in
    write_refused _ _ _ _ _ _ _ _
    (test_goes _ c.tests.ensures c.in_ok-tests.was ∙ sym (rw (c.out_fits.ensures, bytes) at c.test.ensures) ∙ c.in_err-test.was) (search rules)

pub overflow_add-end : goal.overflow_add-end
overflow_add-end c =
    omega (arith, out_held _ _ _ (held _ _ _ (rw c.out_fits.ensures at c.test.ensures) c.in_ok-test.was))

pub slice_bounds-fill-end : goal.slice_bounds-fill-end
slice_bounds-fill-end c =
    omega (arith, out_held _ _ _ (held _ _ _ (rw c.out_fits.ensures at c.test.ensures) c.in_ok-test.was))

pub fill-requires : goal.fill-requires
fill-requires c =
    let passed = fit _ _ _ _ _ _ (sym c.tests.ensures ∙ c.in_ok-tests.was) in
    let (h, l) = out_held _ _ _ (held _ _ _ (rw c.out_fits.ensures at c.test.ensures) c.in_ok-test.was) in
    (passed, stretch _ _ _ h l ∙ (c.size-size.ensures ∙ sym (file_bytes _ _ _ _ _ _ passed)))

pub returns : goal.returns
returns c =
    let passed = sym c.tests.ensures ∙ c.in_ok-tests.was in
    let bytes = c.size-size.ensures ∙ sym (file_bytes _ _ _ _ _ _ (fit _ _ _ _ _ _ passed)) in
    let (h, l) = out_held _ _ _ (held _ _ _ (rw c.out_fits.ensures at c.test.ensures) c.in_ok-test.was) in
    back c.args.out.now _ _ c.args.start c.size-size.result c.fill.ensures bytes
    ∙ sym (write_filled _ _ _ _ _ _ _ _ passed (out_fits_lem _ _ _ h (le_trans (le_of_eq (sym bytes)) l)))
