use Rattle.std.proofs.Common.{rules}
use Rattle.refusal.proofs.test.Goals as goal
use Rattle.refusal.specs.Tests.{test}

pub returns-then-not-holds : goal.returns-then-not-holds
unfolding test
returns-then-not-holds c = search rules

pub returns : goal.returns
unfolding test
returns c = search rules
