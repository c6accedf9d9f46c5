-- The test is the definition's; behind it the row lies in the room, and its ranks rise.
use Rattle.std.proofs.Common.{rules, ◌≡◌, Err, sym, ◌∙◌, true}
use Rattle.refusal.specs.Numbers.{ROW}
use Rattle.refusal.proofs.Laws.{test_held}
use Rattle.rows.specs.Rooms.{row_at, row_test, sound_row}
use Rattle.rows.proofs.PairLaws.{row_in, row_fine, or_refused}
use Rattle.rows.proofs.asked.Rows.row.Goals as goal

pub returns-in_err-test-clause-row : goal.returns-in_err-test-clause-row
unfolding row_test
returns-in_err-test-clause-row c =
    let e : c.from_residual.result ≡ Err c.in_err-test.field-0.0 = search rules in
    or_refused _ e (cc (c.test.ensures, c.sound.ensures, c.in_err-test.was))

pub cut-requires : goal.cut-requires
cut-requires c = (row_in c.args.self.now.fit c.requires (sym c.sound.ensures ∙ test_held _ ROW c.args.v (sym c.test.ensures ∙ c.in_ok-test.was))).row.lies

pub returns-clause-row : goal.returns-clause-row
unfolding row_at
returns-clause-row c =
    let sound : sound_row c.args.self.now.n c.args.self.now.w c.args.self.now.n c.args.self.now.labels.now c.args.self.now.counts.now c.args.v ≡ true =
    sym c.sound.ensures ∙ test_held _ ROW c.args.v (sym c.test.ensures ∙ c.in_ok-test.was) in (
      row_fine _ _ _ _ _ sound,
      c.cut.ensures.entries,
      rw c.cut.ensures.entries (row_in c.args.self.now.fit c.requires sound).rises,
    )
