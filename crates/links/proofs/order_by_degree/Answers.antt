-- `links::order_by_degree` meets its contract: ties broken by the frame's own number.
use Rattle.basics.proofs.Laws.{read_off}
use Rattle.refusal.specs.Told.{verdict_told}
use Rattle.links.specs.Order.{Ordered, degree_of}
use Rattle.links.proofs.order_by_degree.Goals as goal

pub returns : goal.returns
unfolding degree_of
returns c = read_off (λ (o : Ordered). verdict_told o.verdict) c.order_by.ensures
