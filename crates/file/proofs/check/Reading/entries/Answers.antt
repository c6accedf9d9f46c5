-- The goals that the search leaves.
use mathlib.Core.Path.{refl, sym, ◌∙◌}
use native.Mathlib.Omega.{arith}
use Rattle.refusal.proofs.Laws.{tests_end}
use Rattle.file.specs.Reader.{low_at}
use Rattle.file.proofs.check.Reading.entries.Goals as goal

pub entries_behind-requires : goal.entries_behind-requires
unfolding low_at
entries_behind-requires c = (c.requires.0, omega arith, c.requires.1, refl)

pub entries_behind-requires-then-self-low : goal.entries_behind-requires-then-self-low
unfolding low_at
entries_behind-requires-then-self-low c = (c.requires.0, omega arith, c.requires.1, refl)

pub returns : goal.returns
returns c = sym (tests_end _ _ _ c.if-i-count.false) ∙ c.rising-i.ensures.left _ c.if-self-low.false
