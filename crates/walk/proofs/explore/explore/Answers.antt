-- The notes are made of the hub's row, the walk goes by them, and forgetting the row brings the table back.
use Rattle.walk.proofs.BfsEnd.{bfs_low}
use Rattle.walk.proofs.BfsWalk.{note_in, forget_in, notes_back, room_is}
use Rattle.walk.proofs.explore.explore.Goals as goal

pub note-requires : goal.note-requires
note-requires c = note_in c.requires c.row-own.ensures

pub forget-requires : goal.forget-requires
forget-requires c = forget_in c.requires c.row-own.ensures c.note.ensures

pub returns : goal.returns
returns c = record {
  notes = notes_back c.requires c.row-own.ensures c.note.ensures c.forget.ensures;
  levels =
      room_is c.requires c.row-own.ensures c.note.ensures c.reach-tail.ensures;
  frames = c.reach-tail.ensures.line;
  low = bfs_low c.reach-tail.ensures;
}
