-- `body`: the order's refusal, else the rows', else what the end gives. Whole rows reach no further than the bytes do.
use Prim.Native.Nat.{ℕ, ◌≤◌}
use mathlib.Core.Path.{sym, ap, subst, ◌∙◌}
use native.Mathlib.Omega.{arith}
use lib.ListN.{length}
use Rattle.std.proofs.Common.{rules}
use Rattle.refusal.proofs.Laws.{then_stops, then_goes}
use Rattle.fields.specs.Bits.{byte_len}
use Rattle.file.specs.Reader.{end_test, body_test}
use Rattle.file.proofs.Inversion.{bits_there, bit_near}
use Rattle.file.proofs.Steps.{went_on, step_stops, step_goes, refused_by}
use Rattle.file.proofs.check.Reading.body.Goals as goal

pub returns-in_err-order : goal.returns-in_err-order
unfolding body_test
returns-in_err-order c = then_stops _ c.order.ensures c.in_err-order.was (search rules)

pub returns-in_err-rows : goal.returns-in_err-rows
unfolding body_test
returns-in_err-rows c =
    then_goes c.order.ensures c.in_ok-order.was (refused_by (step_stops _ _ _ c.rows.ensures c.in_err-rows.was) (search rules))

pub end-requires : goal.end-requires
end-requires c =
    let (rowed, bit) = went_on _ _ c.rows.ensures c.in_ok-rows.was in
    let there = bits_there _ _ _ _ rowed c.requires (sym c.order.ensures ∙ c.in_ok-order.was) c.args.self.n (omega arith) in (
      omega (arith, bit_near c.args.self.bytes.now c.args.self.n c.args.self.n),
      subst (λ (x : ℕ). byte_len x ≤ length c.args.self.bytes.now)
          (sym bit) there,
    )

pub returns : goal.returns
unfolding body_test
returns c =
    let (rowed, bit) = went_on _ _ c.rows.ensures c.in_ok-rows.was in
    then_goes c.order.ensures c.in_ok-order.was
    (c.end.ensures ∙ ap (end_test _) bit ∙ sym (step_goes _ _ _ c.rows.ensures c.in_ok-rows.was))
