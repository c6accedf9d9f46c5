-- The bytes of the file, by the paper's formula; nothing wraps.
use native.Mathlib.Omega.{arith}
use Rattle.rows.proofs.RoomLaws.{total_sum}
use Rattle.file.proofs.writer.Lent.size.Goals as goal

pub returns : goal.returns
returns c = omega (arith, total_sum c.args.self.counts.now c.requires.1)
