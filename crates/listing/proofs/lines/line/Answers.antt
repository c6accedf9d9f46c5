-- The number, the entries and the newline, each put behind the one before.
use native.Mathlib.Omega.{arith}
use Rattle.listing.specs.Lines.{line_text}
use Rattle.listing.proofs.TextLaws.{put_more}
use Rattle.listing.proofs.lines.line.Goals as goal

pub returns : goal.returns
unfolding line_text
returns c = record {
  put = put_more c.number-at_row.ensures.put (put_more c.entries-at_end.ensures.put c.byte.ensures);
  near = omega (arith, c.byte.ensures.ends, c.entries-at_end.ensures.near, c.number-at_row.ensures.near);
}
