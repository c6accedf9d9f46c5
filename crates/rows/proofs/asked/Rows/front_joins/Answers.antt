-- A row without entries has no front; of any other it is the first place, whose joins count only at rank 0.
use Rattle.std.proofs.Common.{arith, sym, ◌∙◌, ◌<◌, ◌*◌, length, ℕ}
use borrow.Author.Tests.{eq-eqb, ne_eqb}
use Rattle.basics.proofs.Laws.{cond_true, cond_false}
use Rattle.rows.specs.declared.asked.Rows.{Rows}
use Rattle.rows.specs.Spread.{joins_at_zero}
use Rattle.rows.proofs.Laws.{row_ends}
use Rattle.rows.proofs.SpreadLaws.{no_front, front_entry}
use Rattle.rows.proofs.asked.Rows.front_joins.Goals as goal

pub returns-then-self-v-eq0 : goal.returns-then-self-v-eq0
returns-then-self-v-eq0 c = let rows = c.args.self.now in sym (no_front rows.w rows.labels.now rows.counts.now c.args.v c.if-self-v-eq0.true)

-- the first place of a row lies in the room
front_in : (rows : Rows) {v : ℕ} → v < rows.n → v * rows.w < length rows.labels.now
front_in rows h = omega (arith, row_ends rows.fit.places h rows.fit.sizes.some_width)

pub returns-then-rank_of-eq0 : goal.returns-then-rank_of-eq0
unfolding joins_at_zero
returns-then-rank_of-eq0 c =
    let rows = c.args.self.now in
    c.joins_of.ensures
    ∙ sym
    (front_entry rows.w rows.labels.now rows.counts.now c.args.v (omega (arith, c.if-self-v-eq0.false)) (front_in rows c.requires)
    ∙ cond_true _ _ (eq-eqb _ 0 (sym c.rank_of.ensures ∙ c.if-rank_of-eq0.true)))

pub returns-else-rank_of-eq0 : goal.returns-else-rank_of-eq0
unfolding joins_at_zero
returns-else-rank_of-eq0 c =
    let rows = c.args.self.now in
    sym
    (front_entry rows.w rows.labels.now rows.counts.now c.args.v (omega (arith, c.if-self-v-eq0.false)) (front_in rows c.requires)
    ∙ cond_false _ _ (ne_eqb _ 0 (λ e. c.if-rank_of-eq0.false (c.rank_of.ensures ∙ e))))
