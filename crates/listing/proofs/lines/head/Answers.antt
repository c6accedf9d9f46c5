-- Four figures and the newline, each put behind the one before.
use native.Mathlib.Omega.{arith}
use Rattle.listing.specs.Lines.{head_text}
use Rattle.listing.proofs.TextLaws.{put_more}
use Rattle.listing.proofs.lines.head.Goals as goal

pub returns : goal.returns
unfolding head_text
returns c = record {
  put = put_more c.figure-at_hubs.ensures.put
      (put_more c.figure-at_entries.ensures.put (put_more c.figure-at_spread.ensures.put
      (put_more c.figure-at_end.ensures.put c.byte.ensures)));
  near = omega (arith, c.byte.ensures.ends);
}
