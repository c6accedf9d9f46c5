-- The sizes' refusal stands; behind it the lengths decide. The product is formed where n and W are known to be small.
use Rattle.std.proofs.Common.{rules, ◌≡◌, Err, sym, ◌∙◌}
use native.Mathlib.Nat.{mul-le-mul}
use native.Mathlib.Omega.{arith}
use borrow.Author.Tests.{eq-eqb, ne_eqb}
use Rattle.basics.proofs.Laws.{read_off}
use Rattle.refusal.specs.Numbers.{SIZE}
use Rattle.refusal.specs.Told.{verdict_told}
use Rattle.refusal.proofs.Laws.{test_held, then_stops, then_goes}
use Rattle.refusal.proofs.SizeLaws.{sizes_held}
use Rattle.rows.specs.Rooms.{room_tests, rooms_fit}
use Rattle.rows.proofs.Tests.{both_made, first_made}
use Rattle.rows.proofs.rooms.check_rooms.Goals.{then-labels-n, else-labels-n}
use Rattle.rows.proofs.rooms.check_rooms.Goals as goal

pub returns-in_err-test : goal.returns-in_err-test
unfolding room_tests
returns-in_err-test c =
    let e : c.from_residual.result ≡ Err c.in_err-test.field-0.0 = search rules in
    read_off verdict_told (then_stops _ (cc) (c.in_err-test.was) e)

pub overflow_mul-n : goal.overflow_mul-n
overflow_mul-n c =
    let s = sizes_held c.args.n c.args.w (sym c.sizes_fit.ensures ∙ test_held _ SIZE 0 (sym c.test.ensures ∙ c.in_ok-test.was)) in
    record { fits = omega (arith, mul-le-mul {n₁ = c.args.n} {m₁ = c.args.w} {n₂ = 4096} {m₂ = 256} s.frames s.width) }

pub returns : goal.returns
unfolding room_tests rooms_fit
returns c =
    let fit : c.if-labels-n.test ≡ rooms_fit c.args.n c.args.w c.args.labels.now c.args.counts.now = elim c.if-labels-n.branch [
      | then-labels-n w ↦ both_made _ (eq-eqb _ _ w.if-labels-n.true) w.test-is
      | else-labels-n w ↦ first_made _ (ne_eqb _ _ w.if-labels-n.false) w.test-is
    ] in
    read_off verdict_told (then_goes (cc) (c.in_ok-test.was) (cc (c.test-2.ensures, fit)))
