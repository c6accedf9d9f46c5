-- The goals that the search leaves.
use mathlib.Core.Path.{◌≡◌, refl, sym, ap, ◌∙◌}
use native.Mathlib.Omega.{arith}
use native.Mathlib.Nat.{sub-zero}
use native.Mathlib.Numerals.{add-one}
use Rattle.std.proofs.Common.{rules}
use Rattle.refusal.proofs.Laws.{tests_stop, tests_on, tests_end}
use Rattle.file.specs.Reader.{row_fields_test, bit_behind, row_bit, rows_from}
use Rattle.file.proofs.Inversion.{bit_near}
use Rattle.file.proofs.Steps.{step_fine, step_refuses, went_on, stopped}
use Rattle.file.proofs.check.Reading.rows.Goals as goal

pub loop-v-init : goal.loop-v-init
unfolding row_bit
loop-v-init c = record { bit = refl; left = ap (rows_from _ _ _ _ 0) (sub-zero c.args.self.n) }

pub row-requires : goal.row-requires
row-requires c = omega (arith, bit_near c.args.self.bytes.now c.args.self.n c.loop-v.v, c.loop-v.invariant.bit)

pub returns-in_err-p : goal.returns-in_err-p
returns-in_err-p c =
    step_refuses _
    (sym c.loop-v.invariant.left
    ∙ tests_stop _ _ _ (omega arith) (ap (row_fields_test _ _ _ _ _) (sym c.loop-v.invariant.bit) ∙ stopped _ _ c.row.ensures c.in_err-p.was))
    (search rules)

pub loop-v-preserved : goal.loop-v-preserved
unfolding row_bit
loop-v-preserved c =
    let (e, q) = went_on _ _ c.row.ensures c.in_ok-p.was in
    record {
      bit = q ∙ ap (bit_behind _) c.loop-v.invariant.bit ∙ ap (row_bit _ _) (sym (add-one c.loop-v.v));
      left = tests_on _ _ _ (omega arith) (ap (row_fields_test _ _ _ _ _) (sym c.loop-v.invariant.bit) ∙ e) ∙ c.loop-v.invariant.left;
    }

pub returns : goal.returns
returns c =
    let all : c.loop-v.v ≡ c.args.self.n = omega arith in
    step_fine (sym c.loop-v.invariant.left ∙ tests_end _ _ _ (omega arith)) (c.loop-v.invariant.bit ∙ ap (row_bit _ _) all)
