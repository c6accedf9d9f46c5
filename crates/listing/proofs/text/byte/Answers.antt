-- One store: the law of one byte put.
use Rattle.listing.proofs.TextLaws.{put_byte}
use Rattle.listing.proofs.text.byte.Goals as goal

pub returns : goal.returns
returns c = put_byte c.args.out.now c.args.at c.args.b c.requires
