-- The word with its number, and the newline behind it.
use native.Mathlib.Omega.{arith}
use Rattle.listing.specs.Lines.{refused_text}
use Rattle.listing.proofs.TextLaws.{put_more}
use Rattle.listing.proofs.lines.refused.Goals as goal

pub returns : goal.returns
unfolding refused_text
returns c = record { put = put_more c.figure-at_end.ensures.put c.byte.ensures; near = omega (arith, c.byte.ensures.ends) }
