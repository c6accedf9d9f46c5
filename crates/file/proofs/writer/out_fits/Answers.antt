-- The start first, then the bytes from there on.
use borrow.Author.Tests.{le-leb, lt-leb}
use Rattle.file.specs.Writer.{out_fits}
use Rattle.file.proofs.writer.out_fits.Goals as goal

pub returns-then-start-room : goal.returns-then-start-room
unfolding out_fits
returns-then-start-room c = rw (le-leb c.args.start c.args.room c.if-start-room.true)

pub returns-else-start-room : goal.returns-else-start-room
unfolding out_fits
returns-else-start-room c = rw (lt-leb c.args.start c.args.room c.if-start-room.false)
