-- The goals that the search leaves.
use mathlib.Core.Path.{◌≡◌, refl, sym, ◌∙◌}
use native.Mathlib.Omega.{arith}
use borrow.Author.Tests.{eq-eqb, ne_eqb}
use Rattle.basics.proofs.Laws.{first_here, first_step, first_over}
use Rattle.links.proofs.scan.find.Goals as goal

pub loop-at-init : goal.loop-at-init
loop-at-init c = (c.requires.0, refl)

pub overflow_cast-u : goal.overflow_cast-u
overflow_cast-u c = omega (arith, c.type_inv.places c.loop-at.at)

pub returns-then-u-v : goal.returns-then-u-v
returns-then-u-v c = sym (first_here _ _ _ c.loop-at-test.true (eq-eqb _ _ c.if-u-v.true)) ∙ c.loop-at.invariant.1

pub loop-at-preserved : goal.loop-at-preserved
loop-at-preserved c = (omega arith, first_step _ _ _ c.loop-at-test.true (ne_eqb _ _ c.if-u-v.false) ∙ c.loop-at.invariant.1)

pub returns : goal.returns
returns c = let last : c.loop-at.at ≡ c.args.end = omega (arith, c.loop-at.invariant.0) in
    sym last ∙ sym (first_over _ _ _ c.loop-at-test.false) ∙ c.loop-at.invariant.1
