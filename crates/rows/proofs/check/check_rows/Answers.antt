-- The rooms' refusal stands; behind it the lowest unsound frame decides.
use Rattle.std.proofs.Common.{rules, ◌≡◌, Err, sym, ◌∙◌, arith}
use Rattle.basics.proofs.Laws.{read_off}
use Rattle.refusal.specs.Told.{verdict_told}
use Rattle.rows.proofs.RoomLaws.{fine_rooms, rooms_refused, lowest_stops, lowest_goes, lowest_over}
use Rattle.rows.proofs.check.check_rows.Goals as goal

pub returns-in_err-check_rooms : goal.returns-in_err-check_rooms
returns-in_err-check_rooms c =
    let e : c.from_residual.result ≡ Err c.in_err-check_rooms.field-0.0 = search rules in
    read_off verdict_told (e ∙ sym (rooms_refused _ _ _ _ _ (sym c.check_rooms.ensures.answer ∙ c.in_err-check_rooms.was)))

pub invariant_of-rows : goal.invariant_of-rows
invariant_of-rows c = record { fit = fine_rooms _ _ _ _ (sym c.check_rooms.ensures.answer ∙ c.in_ok-check_rooms.was) }

pub returns-in_err-test : goal.returns-in_err-test
returns-in_err-test c =
    let e : c.from_residual-in_err-test.result ≡ Err c.in_err-test.field-0.0 = search rules in
    read_off verdict_told (e ∙ sym
    (lowest_stops c.args.n c.args.w c.args.bound c.args.labels.now c.args.counts.now c.loop-v.v
    c.loop-v.invariant c.loop-v-test.true c.sound.ensures c.test.ensures
    (fine_rooms _ _ _ _ (sym c.check_rooms.ensures.answer ∙ c.in_ok-check_rooms.was))
    c.in_err-test.was))

pub loop-v-preserved : goal.loop-v-preserved
loop-v-preserved c =
    lowest_goes c.args.n c.args.w c.args.bound c.args.labels.now c.args.counts.now c.loop-v.v
    c.loop-v.invariant c.loop-v-test.true c.sound.ensures c.test.ensures c.in_ok-test.was

pub returns : goal.returns
returns c = read_off verdict_told (sym
    (lowest_over c.args.n c.args.w c.args.bound c.args.labels.now c.args.counts.now c.loop-v.v
    c.loop-v.invariant (omega arith) (fine_rooms _ _ _ _ (sym c.check_rooms.ensures.answer ∙ c.in_ok-check_rooms.was))))
