-- The goals that the search leaves.
use Rattle.std.proofs.Common.{arith, sym, ap, ◌∙◌, ◌+◌, ◌-◌, cond, Bool}
use Rattle.basics.proofs.Laws.{count_none, count_most}
use Rattle.rows.specs.Inner.{broken_at}
use Rattle.rows.proofs.Faults.{faults_next}
use Rattle.rows.proofs.Tests.{by_byte, byte_small}
use Rattle.rows.proofs.sound.faults.Goals as goal

pub loop-at-init : goal.loop-at-init
loop-at-init c = sym (count_none _)

pub overflow_add-found : goal.overflow_add-found
overflow_add-found c = omega (
  arith,
  c.from-found.ensures,
  byte_small c.breaks.result,
  count_most (broken_at c.args.n c.args.row.now) (c.loop-at.at - 1),
)

pub loop-at-preserved : goal.loop-at-preserved
loop-at-preserved c =
    (λ i. c.loop-at.invariant i + (c.from-found.ensures ∙ by_byte c.breaks.result ∙ ap (λ (b : Bool). cond b 1 0) c.breaks.ensures) i)
    ∙ faults_next c.args.n c.args.row.now c.loop-at.at c.loop-at.auto.at
