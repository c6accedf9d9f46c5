-- Behind fine tests every row is known to the table, and a frame's row read against all records' rows finds the fewest joins to
-- any of them.
use mathlib.Core.Path.{refl, ◌∙◌}
use Rattle.std.proofs.Common.{rules}
use Rattle.targets.proofs.SixteenLaws.{asked_by, rows_known, all_known, reached_sixteen, sixteen_fine, sixteen_refused}
use Rattle.targets.proofs.sixteen.sixteen_of.Goals as goal

pub returns-in_err-check_sixteen : goal.returns-in_err-check_sixteen
returns-in_err-check_sixteen c =
    search rules ∙ sixteen_refused _ _ _ _ _ c.check_sixteen.ensures c.in_err-check_sixteen.was

pub note_all-requires : goal.note_all-requires
note_all-requires c = rows_known (asked_by _ _ _ _ _ c.check_sixteen.ensures c.in_ok-check_sixteen.was)

pub count_all-requires : goal.count_all-requires
count_all-requires c = let asked = asked_by _ _ _ _ _ c.check_sixteen.ensures c.in_ok-check_sixteen.was in
    (all_known asked c.note_all.ensures, refl)

pub returns : goal.returns
returns c = let asked = asked_by c.args.n c.args.w c.args.labels.now c.args.counts.now c.args.frames.now c.check_sixteen.ensures c.in_ok-check_sixteen.was in
    sixteen_fine _ _ _ _ _ c.check_sixteen.ensures c.in_ok-check_sixteen.was (c.count_all.ensures ∙ reached_sixteen asked c.note_all.ensures)
