-- The row lies in the label room.
use Rattle.rows.proofs.Laws.{cut}
use Rattle.walk.proofs.ground.Rows.row.Goals as goal

pub returns : goal.returns
returns c = cut c.args.self.now.w c.args.self.now.labels.now c.args.self.now.counts.now c.args.v
