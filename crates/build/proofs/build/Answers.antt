-- A test refused ends it with the rooms as lent; else what is made is the outcome.
use mathlib.Core.Path.{sym, ap, ◌∙◌}
use Rattle.std.proofs.Common.{rules}
use Rattle.build.specs.Build.{Built, build_outcome}
use Rattle.build.proofs.BuildOut.{refused_out, make_in, walked_out}
use Rattle.build.proofs.build.Goals as goal

pub returns-in_err-tests : goal.returns-in_err-tests
returns-in_err-tests c = ap (λ (r : Built). build_outcome r c.args.labels.now c.args.counts.now c.args.met.now c.args.queue.now) (search rules)
    ∙ refused_out _ _ _ _ _ _ _ _ _ _ _ (sym c.tests.ensures ∙ c.in_err-tests.was)

pub make-requires : goal.make-requires
make-requires c = make_in _ _ _ _ _ _ _ _ _ _ (sym c.tests.ensures ∙ c.in_ok-tests.was)

pub returns : goal.returns
returns c = walked_out _ _ _ _ _ _ _ _ _ _ (sym c.tests.ensures ∙ c.in_ok-tests.was) _ c.make.ensures
