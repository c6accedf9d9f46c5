-- The header, then the test on the frames, then the rooms are cut to that number of frames and the reader decides.
use native.Mathlib.Omega.{arith}
use mathlib.Core.Path.{sym, ◌∙◌}
use lib.Seq.{length-take-le}
use borrow.Author.Rules.{rules}
use Rattle.refusal.specs.Numbers.{number_of}
use Rattle.listing.proofs.TextLaws.{put_as}
use Rattle.listing.proofs.IndexLaws.{refused_text_lem, header_refused, over_frames, within_frames, cut_rooms, cut_text}
use Rattle.listing.proofs.index.open.Goals as goal

pub header-opened-requires : goal.header-opened-requires
header-opened-requires c = tt

pub returns-in_default : goal.returns-in_default
returns-in_default c = record {
  put = put_as (refused_text_lem c.number_of.ensures c.in_default.is
      ∙ header_refused _ c.header-opened.ensures.given c.in_default.is) c.refused.ensures.put;
  near = omega
      (arith, c.refused.ensures.near);
}

pub returns-then-n-gt-FRAMES : goal.returns-then-n-gt-FRAMES
unfolding number_of
returns-then-n-gt-FRAMES c = record {
  put = put_as
      (over_frames _ c.header-opened.ensures.given c.in-Ok.is c.if-n-gt-FRAMES.true) c.refused-then-n-gt-FRAMES.ensures.put;
  near = omega (arith, c.refused-then-n-gt-FRAMES.ensures.near);
}

pub slice_bounds-read-end-2 : goal.slice_bounds-read-end-2
slice_bounds-read-end-2 c = sym (length-take-le _ _ (search rules))

pub slice_bounds-read-end-4 : goal.slice_bounds-read-end-4
slice_bounds-read-end-4 c = sym (length-take-le _ _ (search rules))

pub slice_bounds-read-end-6 : goal.slice_bounds-read-end-6
slice_bounds-read-end-6 c = sym (length-take-le _ _ (search rules))

pub read-requires : goal.read-requires
read-requires c = let (o, l, n) = c.requires.order_len in
    record { cut = cut_rooms _ _ _ _ c.if-n-gt-FRAMES.false o l n; in_bounds = c.requires.in_bounds }

pub returns : goal.returns
returns c = let (p, l, n) = c.requires.order_len in record {
  put = put_as
      (cut_text _ _ _ _ c.if-n-gt-FRAMES.false p l n _
      ∙ within_frames _ c.header-opened.ensures.given c.in-Ok.is c.if-n-gt-FRAMES.false) c.read.ensures.put;
  near =
      c.read.ensures.near;
}
