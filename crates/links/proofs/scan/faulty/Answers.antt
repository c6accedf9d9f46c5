-- `links::scan::faulty` meets its contract: each return is one of the four parts of `faulty_from`.
use mathlib.Core.Path.{sym, ap}
use mathlib.Core.Bool.{not}
use borrow.Author.Tests.{lt-leb, ne_eqb, le-ltb}
use Rattle.links.specs.Inner.{faulty_from}
use Rattle.links.proofs.Links.{list_in, link_out, link_self, link_low}
use Rattle.links.proofs.scan.faulty.Goals as goal

pub returns-then-n-w : goal.returns-then-n-w
returns-then-n-w c = (sym (link_out _ _ _ _ _ _ c.if-n-w.true), c.requires.1)

pub returns-then-w-v : goal.returns-then-w-v
returns-then-w-v c = (sym (link_self _ _ _ _ _ _ c.if-w-v.true), c.requires.1)

pub returns-then-w-floor : goal.returns-then-w-floor
returns-then-w-floor c = (sym (link_low _ _ _ _ _ _ c.if-w-floor.true), c.requires.1)

pub mirrored-requires : goal.mirrored-requires
mirrored-requires c = (list_in _ c.requires.0 _ c.if-n-w.false, c.requires.1)

pub returns : goal.returns
unfolding faulty_from
returns c = (
  rw (lt-leb _ _ c.if-n-w.false, ne_eqb _ _ c.if-w-v.false, le-ltb _ _ c.if-w-floor.false) (ap not c.mirrored.ensures.0),
  c.mirrored.ensures.1,
)
