use Rattle.refusal.proofs.Refusal.number.Goals as goal
use Rattle.refusal.proofs.NumberLaws.{tag_number}

pub returns : goal.returns
returns c = tag_number c.args.self.reason
