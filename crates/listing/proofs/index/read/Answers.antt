-- The reader's outcome decides: a refusal is told by its number, an index is shown from the rooms that the reader filled.
use native.Mathlib.Omega.{arith}
use mathlib.Core.Path.{◌∙◌}
use borrow.Author.Rules.{rules}
use Rattle.listing.specs.Inner.{Cut}
use Rattle.listing.proofs.TextLaws.{put_as}
use Rattle.listing.proofs.IndexLaws.{opened_text, refused_text_lem, read_found, rows_found}
use Rattle.listing.proofs.index.read.Goals as goal

pub read-opened-requires : goal.read-opened-requires
read-opened-requires c = tt

pub returns-in_default : goal.returns-in_default
unfolding opened_text
returns-in_default c = record {
  put = put_as (refused_text_lem c.number_of.ensures c.in_default.is
      ∙ read_found _ _ _ _ c.read-opened.ensures.given c.in_default.is) c.refused.ensures.put;
  near = omega
      (arith, c.refused.ensures.near);
}

pub show-requires : goal.show-requires
show-requires c = let cut : Cut c.read-opened.new.order c.read-opened.new.labels c.read-opened.new.counts = search rules in
    record {
      cut = cut;
      counts_value = rows_found _ _ _ _ c.read-opened.ensures.given c.in-Ok.is;
      in_bounds =
          c.requires.in_bounds;
    }

pub returns : goal.returns
unfolding opened_text
returns c = record {
  put = put_as (read_found _ _ _ _ c.read-opened.ensures.given c.in-Ok.is) c.show.ensures.put;
  near = c.show.ensures.near;
}
