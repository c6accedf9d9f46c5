-- Too many records are refused as a size is; behind that the rooms' own tests decide.
use Rattle.std.proofs.Common.{rules}
use Rattle.refusal.proofs.Laws.{then_stops, then_goes}
use Rattle.targets.specs.Targets.{target_rooms}
use Rattle.targets.proofs.tests.check_target_rooms.Goals as goal

pub returns-in_err-test : goal.returns-in_err-test
unfolding target_rooms
returns-in_err-test c = then_stops _ c.test.ensures c.in_err-test.was (search rules)

pub returns : goal.returns
unfolding target_rooms
returns c = then_goes c.test.ensures c.in_ok-test.was c.check_rooms.ensures.answer
