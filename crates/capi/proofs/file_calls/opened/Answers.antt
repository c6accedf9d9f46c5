use Rattle.capi.proofs.TellLaws.{opened_tells}
use Rattle.capi.proofs.file_calls.opened.Goals as goal

pub returns : goal.returns
returns c = opened_tells _ c.unwrap_or-index.ensures c.told.ensures
