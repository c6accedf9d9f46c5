-- Every row is sound: the spread is answered, and the lines can be put behind the first line.
use native.Mathlib.Omega.{arith}
use Rattle.rows.proofs.RoomLaws.{total_sum}
use Rattle.listing.specs.Listing.{index_text}
use Rattle.listing.proofs.TextLaws.{put_more}
use Rattle.listing.proofs.IndexLaws.{shown_by, spread_said}
use Rattle.listing.proofs.index.show.Goals as goal

pub lines-requires : goal.lines-requires
lines-requires c = record {
  shown = shown_by _ c.requires.counts_value c.requires.cut;
  counts_in_bounds = omega
      (arith, c.head-at.ensures.near, c.head-at.ensures.put.long, c.requires.cut.frames, c.requires.in_bounds);
}

pub returns : goal.returns
unfolding index_text
returns c = let spread = spread_said _ _ _ c.requires.counts_value c.spread.ensures.answer c.unwrap_or-spread.ensures in record {
  put =
      rw (← spread, ← total_sum c.args.counts.now (omega (arith, c.requires.cut.frames)), ← c.total-entries.ensures.0)
      (put_more c.head-at.ensures.put c.lines.ensures.put);
  near = omega
      (arith, c.lines.ensures.near, c.head-at.ensures.near, c.requires.cut.frames);
}
