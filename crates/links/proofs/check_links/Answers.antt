-- `links::check_links` meets its contract: the tests of a block with no other room.
use Rattle.basics.proofs.Laws.{read_off}
use Rattle.refusal.specs.Tests.{test, ◌then◌}
use Rattle.refusal.specs.Told.{verdict_told}
use Rattle.links.specs.Links.{check_links}
use Rattle.links.proofs.check_links.Goals as goal

pub returns : goal.returns
unfolding check_links test ◌then◌
returns c = read_off verdict_told c.block_tests.ensures
