-- The loop's invariant: the first unsound row from v on is the first of all.
use Rattle.rows.proofs.RoomLaws.{LowestFrom}
use Rattle.rows.proofs.check.check_rows.Given as goal

abbrev pub invariant-loop-v : goal.invariant-loop-v
invariant-loop-v l = LowestFrom l.n l.w l.bound l.labels l.counts l.v
