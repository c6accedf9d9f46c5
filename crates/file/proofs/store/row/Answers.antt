-- `row`: its entries, and behind them 0, are its cells.
use Rattle.file.proofs.Stores.{row_made}
use Rattle.file.proofs.store.row.Goals as goal

pub returns : goal.returns
returns c =
    row_made _ _ _ _ _ _ c.entries.ensures (c.fill.ensures.after (λ y e. e)) c.split_at_mut-used.ensures.front_len c.split_at_mut-used.ensures.back_len
