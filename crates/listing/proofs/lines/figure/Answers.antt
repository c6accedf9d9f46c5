-- A word and then a number: one put behind the other.
use native.Mathlib.Omega.{arith}
use Rattle.listing.proofs.TextLaws.{put_more}
use Rattle.listing.proofs.lines.figure.Goals as goal

pub returns : goal.returns
returns c = record {
  put = put_more c.bytes-at_number.ensures c.number.ensures.put;
  near = omega
      (arith, c.bytes-at_number.ensures.ends);
}
