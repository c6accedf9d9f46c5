-- A refusal of the tests stands; behind fine tests what the walk along the two rows finds is the answer.
use Rattle.std.proofs.Common.{rules, ◌≡◌, Err, sym, ◌∙◌}
use Rattle.basics.proofs.Laws.{read_off}
use Rattle.rows.specs.Inner.{some_within}
use Rattle.rows.specs.Meetings.{meetings}
use Rattle.rows.specs.Within.{within_told}
use Rattle.rows.proofs.WithinLaws.{within_refused, within_walked}
use Rattle.rows.proofs.within.within.Goals as goal

pub returns-in_err-first : goal.returns-in_err-first
returns-in_err-first c =
    let e : c.from_residual.result ≡ Err c.in_err-first.field-0.0 = search rules in
    read_off within_told (e ∙ sym (within_refused _ _ _ _ _ _ _ c.in_err-first.ensures))

pub returns : goal.returns
returns c =
    let (fine, a, b, _, _) = c.in_ok-first.ensures in
    read_off within_told (sym
    (within_walked _ _ _ _ _ _ _ fine (c.walk.ensures ∙ (λ i. some_within (c.min.ensures i) (meetings (a i) (b i))))))
