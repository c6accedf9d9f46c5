-- A row that is not sound is refused; the largest of the rows' fronts, twice, is the spread.
use Rattle.std.proofs.Common.{rules, ◌≡◌, Err, refl, sym, ap, ◌∙◌, arith, ℕ, max, add-one}
use Rattle.std.proofs.lemmas.Bool.Decides.{nat_tests}
use Rattle.basics.proofs.Laws.{read_off}
use Rattle.rows.specs.Spread.{farthest, spread_told}
use Rattle.rows.proofs.RoomLaws.{fine_rooms, rooms_refused, lowest_start, lowest_stops, lowest_sound, lowest_goes, lowest_over}
use Rattle.rows.proofs.SpreadLaws.{sound_front, farthest_small, spread_fine, spread_refused}
use Rattle.rows.proofs.spread.spread.Goals as goal

pub returns-in_err-check_rooms : goal.returns-in_err-check_rooms
returns-in_err-check_rooms c =
    let e : c.from_residual.result ≡ Err c.in_err-check_rooms.field-0.0 = search rules in
    read_off spread_told
    (e ∙ spread_refused _ _ _ _ (rooms_refused _ _ _ _ _ (sym c.check_rooms.ensures.answer ∙ c.in_err-check_rooms.was)))

pub invariant_of-rows : goal.invariant_of-rows
invariant_of-rows c = record { fit = fine_rooms _ _ _ _ (sym c.check_rooms.ensures.answer ∙ c.in_ok-check_rooms.was) }

pub loop-v-init : goal.loop-v-init
unfolding farthest
loop-v-init c = (lowest_start _ _ _ _ _, refl)

pub returns-in_err-test : goal.returns-in_err-test
returns-in_err-test c =
    let e : c.from_residual-in_err-test.result ≡ Err c.in_err-test.field-0.0 = search rules in
    read_off spread_told (e ∙ spread_refused c.args.n c.args.w c.args.labels.now c.args.counts.now
    (lowest_stops c.args.n c.args.w c.args.n c.args.labels.now c.args.counts.now c.loop-v.v
    c.loop-v.invariant.0 c.loop-v-test.true c.sound.ensures c.test.ensures
    (fine_rooms _ _ _ _ (sym c.check_rooms.ensures.answer ∙ c.in_ok-check_rooms.was))
    c.in_err-test.was))

pub loop-v-preserved : goal.loop-v-preserved
unfolding farthest
loop-v-preserved c =
    let rooms = fine_rooms c.args.n c.args.w c.args.labels.now c.args.counts.now (sym c.check_rooms.ensures.answer ∙ c.in_ok-check_rooms.was) in
    let larger : c.max-found.result ≡ max c.loop-v.found c.front_joins-front.result = grind (arith, nat_tests) in (
      lowest_goes c.args.n c.args.w c.args.n c.args.labels.now c.args.counts.now c.loop-v.v
          c.loop-v.invariant.0 c.loop-v-test.true c.sound.ensures c.test.ensures c.in_ok-test.was,
      omega (
        arith,
        larger,
        c.front_joins-front.ensures,
        sound_front rooms c.loop-v-test.true
            (lowest_sound c.args.n c.args.w c.args.n c.args.labels.now c.args.counts.now c.loop-v.v
            c.loop-v.invariant.0 c.loop-v-test.true c.sound.ensures c.test.ensures c.in_ok-test.was),
        c.loop-v.invariant.1,
        ap (λ (v : ℕ). farthest c.args.w c.args.labels.now c.args.counts.now v) (add-one c.loop-v.v),
      ),
    )

pub overflow_mul-result : goal.overflow_mul-result
overflow_mul-result c = record {
  fits = omega (
    arith,
    c.loop-v.invariant.1,
    farthest_small c.args.w c.args.labels.now c.args.counts.now c.loop-v.v,
  );
}

pub returns : goal.returns
returns c = let e : c.loop-v.v ≡ c.args.n = omega arith in
    read_off spread_told (spread_fine c.args.n c.args.w c.args.labels.now c.args.counts.now
    (lowest_over c.args.n c.args.w c.args.n c.args.labels.now c.args.counts.now c.loop-v.v
    c.loop-v.invariant.0 e (fine_rooms _ _ _ _ (sym c.check_rooms.ensures.answer ∙ c.in_ok-check_rooms.was)))
    (c.loop-v.invariant.1 ∙ ap (λ (v : ℕ). farthest c.args.w c.args.labels.now c.args.counts.now v) e))
