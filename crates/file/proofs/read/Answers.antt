-- `read`: a refused file leaves the rooms alone; a file whose tests are fine has all that the storing pass asks, and rooms
-- filled to their ends are what the definition says.
use mathlib.Core.Path.{sym, ◌∙◌}
use Rattle.std.proofs.Common.{rules}
use Rattle.file.specs.Reader.{ReadOutcome, opened_told}
use Rattle.file.proofs.Reader.{readable, stores_order, stores_rows, read_refused, read_fine}
use Rattle.file.proofs.Heading.{read_said, index_is, refused_is}
use Rattle.file.proofs.read.Goals as goal

pub returns-in_err-index : goal.returns-in_err-index
returns-in_err-index c = read_said (λ (out : ReadOutcome). opened_told out.answer)
    (read_refused _ _ _ _ _ (refused_is _ _ _ (sym c.in_err-index.was ∙ c.file.ensures)) (search rules))

pub order-requires : goal.order-requires
order-requires c =
    stores_order (readable _ _ _ _ _ (index_is _ _ _ (sym c.in_ok-index.was ∙ c.file.ensures)).0)

pub rows-requires : goal.rows-requires
rows-requires c =
    stores_rows (readable _ _ _ _ _ (index_is _ _ _ (sym c.in_ok-index.was ∙ c.file.ensures)).0)

pub returns : goal.returns
returns c =
    let (e, p, q) = index_is _ _ _ (sym c.in_ok-index.was ∙ c.file.ensures) in
    read_said (λ (out : ReadOutcome). opened_told out.answer)
    (read_fine _ _ _ _ _ e p q c.order.ensures c.rows.ensures.labels c.rows.ensures.counts)
