-- The goals that the search leaves.
use mathlib.Core.Path.{refl, sym, ◌∙◌}
use native.Mathlib.Omega.{arith}
use native.Mathlib.Nat.{sub-zero}
use borrow.Author.Tests.{lt-ltb, le-ltb}
use Rattle.basics.proofs.Laws.{some_here, some_step, some_over}
use Rattle.links.proofs.Links.{starts_front, starts_fall, starts_last}
use Rattle.links.proofs.scan.starts_right.Goals as goal

pub returns-then-starts-ne0 : goal.returns-then-starts-ne0
returns-then-starts-ne0 c = sym (starts_front _ _ _ c.if-starts-ne0.true)

pub loop-v-init : goal.loop-v-init
loop-v-init c = (omega arith, rw sub-zero refl)

pub returns-then-starts-next : goal.returns-then-starts-next
returns-then-starts-next c = sym (starts_fall _ _ _ (sym c.loop-v.invariant.1 ∙ some_here _ _ _ (omega arith)
    (lt-ltb _ _ c.if-starts-next.true)))

pub loop-v-preserved : goal.loop-v-preserved
loop-v-preserved c = (omega arith, some_step _ _ _ (omega arith) (le-ltb _ _ c.if-starts-next.false) ∙ c.loop-v.invariant.1)

pub overflow_cast-last : goal.overflow_cast-last
overflow_cast-last c = omega (arith, c.type_inv.starts c.args.n)

pub returns : goal.returns
returns c = sym (starts_last _ _ _ c.if-starts-ne0.false (sym c.loop-v.invariant.1 ∙ some_over _ _ _ c.loop-v-test.false))
