-- A refusal of the tests stands; behind fine tests the asked frame's row is noted in a blank table, against which the
-- records' rows are read.
use mathlib.Core.Path.{sym, ◌∙◌}
use Rattle.std.proofs.Common.{rules}
use native.Mathlib.Omega.{arith}
use Rattle.targets.proofs.NearestLaws.{asked_part, asked_ranks, asked_rows, nearest_reached, nearest_refused}
use Rattle.targets.proofs.TestLaws.{nearest_asked}
use Rattle.targets.proofs.nearest.nearest_of.Goals as goal

pub returns-in_err-check_nearest : goal.returns-in_err-check_nearest
returns-in_err-check_nearest c =
    search rules ∙ sym (nearest_refused _ _ _ _ _ _ (sym c.check_nearest.ensures ∙ c.in_err-check_nearest.was))

pub offset_bounds-counts-asked : goal.offset_bounds-counts-asked
offset_bounds-counts-asked c =
    let asked = nearest_asked _ _ _ _ _ _ (sym c.check_nearest.ensures ∙ c.in_ok-check_nearest.was) in
    omega (arith, asked.inside, asked.rooms.sizes.frames)

pub bounds-counts-asked : goal.bounds-counts-asked
bounds-counts-asked c =
    let asked = nearest_asked _ _ _ _ _ _ (sym c.check_nearest.ensures ∙ c.in_ok-check_nearest.was) in
    omega (arith, asked.inside, asked.rooms.each)

pub note-requires : goal.note-requires
note-requires c =
    let asked = nearest_asked _ _ _ _ _ _ (sym c.check_nearest.ensures ∙ c.in_ok-check_nearest.was) in
    asked_ranks asked (c.row_part.ensures.entries ∙ asked_part asked)

pub first_reached-requires : goal.first_reached-requires
first_reached-requires c =
    asked_rows (nearest_asked _ _ _ _ _ _ (sym c.check_nearest.ensures ∙ c.in_ok-check_nearest.was)) _ c.note.ensures

pub returns : goal.returns
returns c =
    let fine = sym c.check_nearest.ensures ∙ c.in_ok-check_nearest.was in
    c.first_reached.ensures
    ∙ nearest_reached _ _ _ _ _ _ fine (c.row_part.ensures.entries ∙ asked_part (nearest_asked _ _ _ _ _ _ fine)) c.note.ensures
