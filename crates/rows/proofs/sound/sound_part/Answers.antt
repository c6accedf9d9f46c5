-- An empty row has no faulty entry; the first entry's joins, an entry that breaks the rule behind another and the last rank each
-- show a fault; behind these tests there is none.
use Rattle.std.proofs.Common.{arith, ◌≡◌, sym, ap, ◌∙◌, ◌<◌, ◌-◌, length, get_or}
use borrow.Author.Tests.{lt-ltb, le-ltb, ltb-true, eqb-true, eqb-false}
use Rattle.std.proofs.lemmas.Option.{slice_get-get_or}
use Rattle.basics.specs.Places.{count}
use Rattle.basics.proofs.Laws.{lt_or_ge, some_none, not_of_false}
use Rattle.entry.specs.Entry.{rank_of, joins_of}
use Rattle.rows.specs.Inner.{broken_at}
use Rattle.rows.specs.Rooms.{faulty_entry}
use Rattle.rows.proofs.Laws.{faulty_rank_lem, faulty_joins}
use Rattle.rows.proofs.Faults.{part_refused, part_broken, part_whole}
use Rattle.rows.proofs.sound.sound_part.Goals.{then-joins_of-n, else-joins_of-n}
use Rattle.rows.proofs.sound.sound_part.Goals as goal

pub returns-in_default : goal.returns-in_default
returns-in_default c =
    let row = c.args.row.now in
    let none : length row ≡ 0 = lt_or_ge 0 (length row) (λ h. absurd (cc (c.in_default.ensures.value, slice_get-get_or row (length row - 1) 0 (omega arith)))) (λ h. omega arith) in
    sym (not_of_false (some_none (faulty_entry c.args.n c.args.bound row) 0 (length row) (λ i p q. absurd (omega arith))))

-- what the first two tests show where both hold
Passed : goal.After-rank_of → Type 0
Passed c = (joins_of (get_or c.args.row.now 0 0) < c.args.n) × (count (broken_at c.args.n c.args.row.now) (length c.args.row.now - 1) ≡ 0)

passed : (c : goal.After-rank_of) → Passed c
unfolding Passed
passed c =
    elim c.if-joins_of-n.branch [
      | then-joins_of-n w ↦ (
        omega (arith, c.joins_of.ensures, w.if-joins_of-n.true),
        sym w.faults.ensures ∙ eqb-true w.faults.result 0 (sym w.value-is ∙ c.if-faults-eq0.true),
      )
      | else-joins_of-n w ↦ absurd (omega (arith, w.if-joins_of-n.false, ltb-true c.joins_of.result c.args.n (sym w.value-is ∙ c.if-faults-eq0.true)))
    ]

pub returns-then-faults-eq0 : goal.returns-then-faults-eq0
unfolding Passed
returns-then-faults-eq0 c =
    let row = c.args.row.now in
    let end = length row - 1 in
    let (joins, none) = passed c in
    let last : c.rank_of.result ≡ rank_of (get_or row end 0) = c.rank_of.ensures ∙ ap rank_of (c.in-Some.ensures.item.4 (omega arith) 0) in
    lt_or_ge c.rank_of.result c.args.bound
    (λ h. lt-ltb c.rank_of.result c.args.bound h ∙ part_whole c.args.n c.args.bound row joins none (omega (arith, last)))
    (λ h.
    le-ltb c.rank_of.result c.args.bound h
    ∙ part_refused c.args.n c.args.bound row end (omega (arith, c.in-Some.ensures.item.3.0)) (faulty_rank_lem c.args.n c.args.bound row end (omega (arith, last))))

pub returns-else-faults-eq0 : goal.returns-else-faults-eq0
returns-else-faults-eq0 c =
    let row = c.args.row.now in
    elim c.if-joins_of-n.branch [
      | then-joins_of-n w ↦
          c.if-faults-eq0.false
          ∙ part_broken c.args.n c.args.bound row
          (omega (arith, w.faults.ensures, eqb-false w.faults.result 0 (sym w.value-is ∙ c.if-faults-eq0.false)))
      | else-joins_of-n w ↦
          c.if-faults-eq0.false
          ∙ part_refused c.args.n c.args.bound row 0 (omega (arith, c.in-Some.ensures.item.3.0))
          (faulty_joins c.args.n c.args.bound row 0 (omega (arith, c.joins_of.ensures, w.if-joins_of-n.false)))
    ]
