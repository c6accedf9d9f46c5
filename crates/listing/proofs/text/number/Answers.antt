-- `io::decimal` spells the fewest digits, at most twenty for 64 bits; they are put as bytes.
use native.Mathlib.Omega.{arith}
use mathlib.Core.Path.{◌∙◌}
use lib.Seq.{length-take-le}
use Rattle.listing.proofs.TextLaws.{put_as, few_digits, decimal_is}
use Rattle.listing.proofs.text.number.Goals as goal

pub bytes-requires : goal.bytes-requires
bytes-requires c =
    let most = few_digits c.args.x c.decimal-count.result
    (omega arith) c.decimal-count.ensures.len in
    omega (arith, length-take-le c.decimal-count.result c.decimal-count.new.out c.decimal-count.ensures.in_bounds.0)

pub returns : goal.returns
returns c =
    record {
      put = put_as (c.decimal-count.ensures.digits ∙ decimal_is c.args.x c.decimal-count.result (few_digits c.args.x c.decimal-count.result (omega arith) c.decimal-count.ensures.len) c.decimal-count.ensures.len) c.bytes.ensures;
      near = omega (
        arith,
        c.bytes.ensures.ends,
        length-take-le c.decimal-count.result c.decimal-count.new.out c.decimal-count.ensures.in_bounds.0,
      );
    }
