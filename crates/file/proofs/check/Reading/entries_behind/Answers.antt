-- The goals that the search leaves.
use Prim.Native.Nat.{ℕ, ◌+◌, ◌*◌}
use mathlib.Core.Path.{refl, sym, ap, ◌∙◌}
use native.Mathlib.Omega.{arith}
use native.Mathlib.Numerals.{add-one}
use Rattle.std.proofs.Common.{rules}
use Rattle.refusal.proofs.Laws.{tests_stop, tests_on, tests_end}
use Rattle.file.specs.Reader.{entry_test, low_at}
use Rattle.file.proofs.Steps.{went_on, stopped, refused_by}
use Rattle.fields.proofs.Bits.{field_lt}
use Rattle.file.proofs.check.Reading.entries_behind.Goals as goal

pub loop-j-init : goal.loop-j-init
loop-j-init c = record { lowest = c.requires.3; left = refl }

pub returns-in_err-low : goal.returns-in_err-low
returns-in_err-low c =
    refused_by
    (sym c.loop-j.invariant.left
    ∙ tests_stop _ _ _ (omega arith) (ap (entry_test _ _ _ _) (sym c.loop-j.invariant.lowest) ∙ stopped _ _ c.entry.ensures c.in_err-low.was))
    (search rules)

pub overflow_add-low : goal.overflow_add-low
overflow_add-low c = let (e, q) = went_on _ _ c.entry.ensures c.in_ok-low.was in
    omega (arith, field_lt c.args.self.bytes.now (c.args.p + 24 * c.loop-j.j) 12)

pub loop-j-preserved : goal.loop-j-preserved
unfolding low_at
loop-j-preserved c = let (e, q) = went_on _ _ c.entry.ensures c.in_ok-low.was in
    record {
      lowest = ap (λ (x : ℕ). x + 1) q ∙ ap (low_at _ _) (sym (add-one c.loop-j.j));
      left = tests_on _ _ _ (omega arith) (ap (entry_test _ _ _ _) (sym c.loop-j.invariant.lowest) ∙ e) ∙ c.loop-j.invariant.left;
    }

pub returns : goal.returns
returns c = sym (tests_end _ _ _ (omega arith)) ∙ c.loop-j.invariant.left
