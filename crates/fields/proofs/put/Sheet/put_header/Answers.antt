-- The header: four fields, one after the other.
use native.Mathlib.Omega.{arith}
use Rattle.fields.specs.Layout.{header_fields}
use Rattle.fields.proofs.Pen.{left_start, next_ready, next_step}
use Rattle.fields.proofs.put.Sheet.put_header.Goals as goal

pub put-requires : goal.put-requires
unfolding header_fields
put-requires c =
    (next_ready (left_start c.requires.0), omega arith)

pub put-requires-2 : goal.put-requires-2
unfolding header_fields
put-requires-2 c =
    (next_ready (next_step (left_start c.requires.0) c.put.ensures), omega arith)

pub put-requires-3 : goal.put-requires-3
unfolding header_fields
put-requires-3 c =
    (next_ready (next_step (next_step (left_start c.requires.0) c.put.ensures) c.put-2.ensures), omega arith)

pub put-requires-4 : goal.put-requires-4
unfolding header_fields
put-requires-4 c =
    (next_ready (next_step (next_step (next_step (left_start c.requires.0) c.put.ensures) c.put-2.ensures) c.put-3.ensures), omega arith)

pub returns : goal.returns
unfolding header_fields
returns c =
    next_step (next_step (next_step (next_step (left_start c.requires.0) c.put.ensures) c.put-2.ensures) c.put-3.ensures) c.put-4.ensures
