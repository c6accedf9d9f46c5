-- The size test: n and W, then k.
use mathlib.Core.Path.{sym, ◌∙◌}
use Rattle.file.specs.Writer.{index_sizes}
use Rattle.file.proofs.writer.index_sizes.Goals as goal

pub returns-then-sizes_fit : goal.returns-then-sizes_fit
unfolding index_sizes
returns-then-sizes_fit c = rw (sym c.sizes_fit.ensures ∙ c.if-sizes_fit.true)

pub returns-else-sizes_fit : goal.returns-else-sizes_fit
unfolding index_sizes
returns-else-sizes_fit c = c.if-sizes_fit.false ∙ rw (sym c.sizes_fit.ensures ∙ c.if-sizes_fit.false)
