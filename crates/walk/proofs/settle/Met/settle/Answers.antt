-- The two tests decide the case; where both hold, what is stored is what `store` stores. No walk meets over 4,096 frames.
use mathlib.Core.Path.{sym, ◌∙◌}
use native.Mathlib.Omega.{arith}
use Rattle.walk.specs.Walk.{if_made}
use Rattle.rows.proofs.LaidLaws.{laid_long}
use Rattle.walk.proofs.RoomMarks.{settle_made, settle_full}
use Rattle.walk.proofs.settle.Met.settle.Goals as goal

pub fits-requires : goal.fits-requires
fits-requires c = (laid_long c.requires.laid).1

pub returns-then-not-fits : goal.returns-then-not-fits
unfolding if_made
returns-then-not-fits c = record { value = sym (settle_full c.requires (sym c.fits.ensures ∙ c.if-not-fits.true)); laid = c.requires.laid }

pub returns : goal.returns
unfolding if_made
returns c = let made = settle_made c.requires (sym c.fits.ensures ∙ c.if-not-fits.false) (omega (arith, c.if-self-gt-MOST_MARK.false)) in
    record { value = sym made; laid = c.store.ensures }
