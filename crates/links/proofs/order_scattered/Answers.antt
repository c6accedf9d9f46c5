-- `links::order_scattered` meets its contract: ties broken by the scattered number.
use Prim.Native.Nat.{ℕ}
use mathlib.Core.Path.{ap, ◌∙◌}
use Rattle.basics.proofs.Laws.{read_off}
use Rattle.refusal.specs.Told.{verdict_told}
use Rattle.links.specs.Order.{Ordered, ordered_by, scattered_of}
use Rattle.links.proofs.Scattered.{is_scattered}
use Rattle.links.proofs.order_scattered.Goals as goal

pub returns : goal.returns
unfolding scattered_of
returns c = read_off (λ (o : Ordered). verdict_told o.verdict)
    (c.order_by.ensures ∙ ap (λ (tie : ℕ → ℕ). ordered_by tie c.args.n c.args.starts.now c.args.places.now c.args.order.now) is_scattered)
