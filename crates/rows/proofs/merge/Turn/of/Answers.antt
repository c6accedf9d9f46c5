-- The tests are the definition's, and the sum of two entries' joins is small.
use Rattle.std.proofs.Common.{arith, ◌≡◌, ◌+◌}
use Rattle.entry.specs.Entry.{rank_of, joins_of}
use Rattle.std.proofs.lemmas.Bool.Decides.{nat_tests}
use Rattle.entry.proofs.Laws.{joins_small}
use lib.Dec.{leb}
use Rattle.rows.proofs.MeetingLaws.{past_most, past_some}
use Rattle.rows.proofs.Tests.{by_byte}
use Rattle.rows.specs.Inner.{at_rank, past_by}
use Rattle.rows.proofs.merge.Turn.of.Goals.{then-rank-other, else-rank-other}
use Rattle.rows.proofs.merge.Turn.of.Goals as goal

pub overflow_add-sum : goal.overflow_add-sum
overflow_add-sum c = omega (arith, c.joins_of.ensures, c.joins_of-then-rank-other.ensures, joins_small c.args.e, joins_small c.args.f)

pub returns : goal.returns
unfolding at_rank past_by
returns c =
    let sum : c.if-rank-other.sum ≡ at_rank (rank_of c.args.e) (rank_of c.args.f) (joins_of c.args.e + joins_of c.args.f) =
    elim c.if-rank-other.branch [
      | then-rank-other w ↦ grind (arith, nat_tests)
      | else-rank-other w ↦ grind (arith, nat_tests)
    ] in
    let first : c.from.result ≡ past_by (rank_of c.args.e) (rank_of c.args.f) = cc (c.from.ensures, by_byte (leb (rank_of c.args.e) (rank_of c.args.f))) in
    let second : c.from-2.result ≡ past_by (rank_of c.args.f) (rank_of c.args.e) = cc (c.from-2.ensures, by_byte (leb (rank_of c.args.f) (rank_of c.args.e))) in
    let one = past_most (rank_of c.args.e) (rank_of c.args.f) in
    let other = past_most (rank_of c.args.f) (rank_of c.args.e) in
    let some = past_some (rank_of c.args.e) (rank_of c.args.f) in
    record {
      turn = λ i. record {
        meeting = record { rank = c.rank_of-rank.ensures i; sum = sum i };
        first = first i;
        second = second i;
      };
      past = (omega arith, omega arith, omega arith);
    }
