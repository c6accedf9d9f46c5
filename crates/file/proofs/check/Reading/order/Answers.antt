-- The goals that the search leaves.
use mathlib.Core.Path.{sym, ap, ◌∙◌}
use native.Mathlib.Omega.{arith}
use native.Mathlib.Nat.{sub-zero}
use Rattle.std.proofs.Common.{rules}
use Rattle.file.specs.Reader.{order_from}
use Rattle.refusal.proofs.Laws.{tests_stop, tests_on, tests_end}
use Rattle.links.proofs.Order.{seen_none}
use Rattle.file.proofs.Steps.{refused_by}
use Rattle.file.proofs.check.Reading.order.Goals as goal

pub loop-r-init : goal.loop-r-init
loop-r-init c = record { flags = seen_none _; left = ap (order_from _ _ 0) (sub-zero c.args.self.n) }

pub returns-in_err-order_field : goal.returns-in_err-order_field
returns-in_err-order_field c =
    refused_by (sym c.loop-r.invariant.left ∙ tests_stop _ _ _ (omega arith) (sym c.order_field.ensures.found ∙ c.in_err-order_field.was)) (search rules)

pub loop-r-preserved : goal.loop-r-preserved
loop-r-preserved c =
    let e = sym c.order_field.ensures.found ∙ c.in_ok-order_field.was in
    record { flags = c.order_field.ensures.noted e; left = tests_on _ _ _ (omega arith) e ∙ c.loop-r.invariant.left }

pub returns : goal.returns
returns c = sym (tests_end _ _ _ (omega arith)) ∙ c.loop-r.invariant.left
