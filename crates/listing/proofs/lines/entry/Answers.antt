-- Four puts, one behind the other; the hub is the order's frame at the entry's rank.
use native.Mathlib.Omega.{arith}
use Rattle.listing.specs.Lines.{entry_text}
use Rattle.listing.proofs.TextLaws.{put_more}
use Rattle.listing.proofs.lines.entry.Goals as goal

pub overflow_cast-hub : goal.overflow_cast-hub
overflow_cast-hub c = omega (arith, c.type_inv.order c.rank_of-rank.result)

pub returns : goal.returns
unfolding entry_text
returns c = record {
  put = rw (← c.rank_of-rank.ensures, ← c.joins_of-joins.ensures)
      (put_more (put_more c.byte-at_hub.ensures c.number-at_colon.ensures.put)
      (put_more c.byte-at_joins.ensures c.number.ensures.put));
  near = omega
      (arith, c.byte-at_hub.ensures.ends, c.byte-at_joins.ensures.ends);
}
