-- `links::scan::mirrored` meets its contract. A guess inside w's list that holds v shows that the list holds v; else the
-- search of the list decides. The cursor is moved to a place behind one of the list.
use mathlib.Core.Path.{sym}
use native.Mathlib.Omega.{arith}
use lib.ListN.{get_or}
use Rattle.basics.proofs.Laws.{found_low}
use Rattle.links.proofs.Links.{holds_at_lem, holds_found, holds_not}
use Rattle.links.proofs.Lists.{cursors_on}
use Rattle.links.proofs.scan.mirrored.Goals as goal

pub overflow_cast-guess : goal.overflow_cast-guess
overflow_cast-guess c = omega (arith, c.type_inv.cursors c.args.w)

pub overflow_cast-u : goal.overflow_cast-u
overflow_cast-u c = omega (arith, c.type_inv.places (get_or c.args.cursors.now c.args.w 0))

pub returns-then-u-v : goal.returns-then-u-v
returns-then-u-v c = let low = c.requires.1.from _ c.requires.0.frame in (
  sym (holds_at_lem _ _ _ _ _ low c.if-guess-end.true c.if-u-v.true),
  cursors_on c.requires.1 _ _ c.requires.0.low
      (omega arith),
)

pub returns-then-at-end : goal.returns-then-at-end
returns-then-at-end c = (
  sym (holds_found _ _ _ _ _ c.requires.0.rise c.find-at.ensures c.if-at-end.true),
  cursors_on c.requires.1 _ _ c.requires.0.low (omega (arith, found_low _ _ _ c.find-at.ensures)),
)

pub returns : goal.returns
returns c = (sym (holds_not _ _ _ _ _ c.requires.0.rise c.find-at.ensures c.if-at-end.false), c.requires.1)
