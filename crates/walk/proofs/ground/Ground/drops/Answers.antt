-- The row lent to `near` is u's, and its ranks have notes.
use Prim.Native.Nat.{ℕ}
use mathlib.Core.Path.{ap, ◌∙◌}
use mathlib.Core.List.{List}
use Rattle.walk.specs.Inner.{row_within, drops}
use Rattle.walk.proofs.DropRow.{row_noted}
use Rattle.walk.proofs.ground.Ground.drops.Goals as goal

pub near-requires : goal.near-requires
near-requires c = row_noted c.args.self.now.rows.rise c.requires _ c.args.self.now.notes c.row.ensures

pub returns : goal.returns
unfolding drops
returns c = c.near.ensures ∙ ap (λ (row : List ℕ). row_within c.args.self.now.noted.now row c.args.level) c.row.ensures
