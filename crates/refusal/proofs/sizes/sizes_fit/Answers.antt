-- n first, then W.
use Rattle.std.proofs.Common.{refl, sym, ◌∙◌}
use Rattle.refusal.specs.Sizes.{sizes_fit}
use Rattle.refusal.proofs.sizes.sizes_fit.Goals as goal

pub returns-then-frames_fit : goal.returns-then-frames_fit
unfolding sizes_fit
returns-then-frames_fit c = rw (sym c.frames_fit.ensures ∙ c.if-frames_fit.true) c.width_fits.ensures

pub returns : goal.returns
unfolding sizes_fit
returns c = rw (sym c.frames_fit.ensures ∙ c.if-frames_fit.false) refl
