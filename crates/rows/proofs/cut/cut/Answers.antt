-- What is cut from the row's start is so many of its entries.
use Rattle.rows.proofs.Laws.{cut_part}
use Rattle.rows.proofs.cut.cut.Goals as goal

pub returns-clause-entries : goal.returns-clause-entries
returns-clause-entries c = cut_part _ _ _ _
