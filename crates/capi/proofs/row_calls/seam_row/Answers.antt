-- Behind a fine check the row lies in the room, so its start is a place of the room and its length is its count; a refusal
-- gives the empty part at the room's front.
use native.Mathlib.Omega.{arith}
use mathlib.Core.Path.{refl, sym, ap, ◌∙◌}
use Rattle.refusal.specs.Tests.{if_fine, Verdict}
use Rattle.rows.proofs.PairLaws.{checked_row, row_by}
use Rattle.rows.specs.Lookup.{part_told, row_told}
use Rattle.capi.specs.Outs.{answer_told}
use Rattle.capi.proofs.TellLaws.{tells_on}
use Rattle.capi.proofs.row_calls.seam_row.Goals as goal
use Rattle.capi.proofs.row_calls.seam_row.Goals.{in-Ok, in-Err}

pub overflow_mul-start : goal.overflow_mul-start
overflow_mul-start c =
    record { fits = omega (arith, (checked_row _ _ _ _ _ (sym c.check_row-checked.ensures.answer ∙ c.in-Ok.is)).0.row.lies) }

pub offset_bounds-counts-v : goal.offset_bounds-counts-v
offset_bounds-counts-v c =
    record { fits = omega (arith, (checked_row _ _ _ _ _ (sym c.check_row-checked.ensures.answer ∙ c.in-Ok.is)).0.row.counted) }

pub bounds-counts-v : goal.bounds-counts-v
bounds-counts-v c =
    (checked_row _ _ _ _ _ (sym c.check_row-checked.ensures.answer ∙ c.in-Ok.is)).0.row.counted

pub overflow_cast-count : goal.overflow_cast-count
overflow_cast-count c = omega (arith, c.type_inv.counts c.args.v)

pub returns : goal.returns
unfolding row_told part_told if_fine answer_told
returns c = elim c.match-checked.branch [
  | in-Ok w ↦
      let e = sym c.check_row-checked.ensures.answer ∙ w.in-Ok.is in
      let (row, start) = row_by _ _ _ _ _ e in
      rw (w.start-is, w.count-is, e, row, start, (checked_row _ _ _ _ _ e).1)
      (tells_on (c.told.ensures ∙ ap {A = Verdict} answer_told w.in-Ok.is) refl)
  | in-Err w ↦
      rw (w.start-is, w.count-is, sym c.check_row-checked.ensures.answer ∙ w.in-Err.is)
      (tells_on (c.told.ensures ∙ ap {A = Verdict} answer_told w.in-Err.is) refl)
]
