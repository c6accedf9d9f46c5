-- A refusal of the tests stands; behind fine tests the best meeting of the two rows is the answer.
use Rattle.std.proofs.Common.{rules, ◌≡◌, Ok, Err, sym, ap, ◌∙◌}
use Rattle.std.specs.Option.{option_map}
use Rattle.basics.proofs.Laws.{read_off}
use Rattle.rows.specs.declared.merge.Meeting.{Meeting}
use Rattle.rows.specs.Meetings.{meeting_of}
use Rattle.rows.specs.Pair.{pair_told}
use Rattle.rows.proofs.PairLaws.{answer_refused, answer_fine, answered_sum}
use Rattle.rows.proofs.pair.pair.Goals as goal

pub returns-in_err-first : goal.returns-in_err-first
returns-in_err-first c =
    let e : c.from_residual.result ≡ Err c.in_err-first.field-0.0 = search rules in
    read_off pair_told (e ∙ sym (answer_refused _ _ _ _ _ _ c.in_err-first.ensures))

pub returns : goal.returns
returns c =
    let (fine, a, b, _, _) = c.in_ok-first.ensures in
    let sum : c.map.result ≡ option_map (λ (m : Meeting). m.sum) c.merge.result = search rules in
    read_off pair_told (ap Ok sum ∙ sym (answered_sum c.merge.result) ∙ sym
    (answer_fine _ _ _ _ _ _ fine (c.merge.ensures ∙ (λ i. meeting_of (a i) (b i)))))
