-- The length test, one room after the other.
use Prim.Native.Nat.{◌*◌}
use borrow.Author.Tests.{eq-eqb, ne_eqb}
use Rattle.file.specs.Index.{lengths_fit}
use Rattle.file.proofs.rooms.lengths_fit.Goals.{then-order-n, else-order-n}
use mathlib.Core.Path.{◌≡◌, sym, ◌∙◌}
use mathlib.Core.Bool.{◌&&◌}
use lib.Dec.{eqb}
use Rattle.file.proofs.rooms.lengths_fit.Goals as goal

pub returns-then-labels-n : goal.returns-then-labels-n
unfolding lengths_fit
returns-then-labels-n c =
    let front : c.if-order-n.value ≡ (eqb c.args.order c.args.n && eqb c.args.labels (c.args.n * c.args.w)) = elim c.if-order-n.branch [
      | then-order-n w ↦ rw (eq-eqb _ _ w.if-order-n.true) w.value-is
      | else-order-n w ↦ let far = ne_eqb c.args.order c.args.n w.if-order-n.false in rw far (w.value-is ∙ far)
    ] in
    rw (sym front ∙ c.if-labels-n.true)

pub returns-else-labels-n : goal.returns-else-labels-n
unfolding lengths_fit
returns-else-labels-n c =
    let front : c.if-order-n.value ≡ (eqb c.args.order c.args.n && eqb c.args.labels (c.args.n * c.args.w)) = elim c.if-order-n.branch [
      | then-order-n w ↦ rw (eq-eqb _ _ w.if-order-n.true) w.value-is
      | else-order-n w ↦ let far = ne_eqb c.args.order c.args.n w.if-order-n.false in rw far (w.value-is ∙ far)
    ] in
    c.if-labels-n.false ∙ rw (sym front ∙ c.if-labels-n.false)
