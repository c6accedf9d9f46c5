-- The part of the room that takes the text is as long as the text.
use Prim.Native.Nat.{◌+◌, ◌-◌}
use mathlib.Core.Path.{◌≡◌}
use native.Mathlib.Omega.{arith}
use lib.ListN.{length}
use Rattle.std.proofs.Common.{rules}
use Rattle.listing.proofs.TextLaws.{put_part}
use Rattle.listing.proofs.text.bytes.Goals as goal

pub returns : goal.returns
returns c =
    let same : c.copy_from_slice.new.self ≡ c.args.text.now = search rules in
    rw same (put_part c.args.out.now c.args.text.now c.args.at (c.args.at + length c.args.text.now - c.args.at) (omega arith) (omega arith))
