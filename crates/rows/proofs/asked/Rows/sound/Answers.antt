-- A count over W is unsound; else the part handed on is the used part of the row.
use Rattle.std.proofs.Common.{arith, sym, ap, ◌∙◌, length, get_or, ℕ, List, not}
use borrow.Author.Tests.{lt-leb}
use Rattle.basics.specs.Places.{some}
use Rattle.rows.specs.Rooms.{faulty_entry, row_at}
use Rattle.rows.proofs.Laws.{length_part}
use Rattle.rows.proofs.RoomLaws.{count_unsound, sound_by_entries}
use Rattle.rows.proofs.asked.Rows.sound.Goals as goal

pub sound_part-requires : goal.sound_part-requires
sound_part-requires c =
    let rows = c.args.self.now in (
      rows.fit.sizes.frames,
      omega (
        arith,
        ap length c.cut.ensures.entries,
        length_part rows.w rows.labels.now c.args.v (get_or rows.counts.now c.args.v 0) c.requires c.if-count-self.true rows.fit.places,
        rows.fit.sizes.width,
      ),
    )

pub returns-then-count-self : goal.returns-then-count-self
unfolding row_at
returns-then-count-self c =
    let rows = c.args.self.now in
    c.sound_part.ensures
    ∙ ap (λ (row : List ℕ). not (some (faulty_entry rows.n c.args.bound row) 0 (length row))) c.cut.ensures.entries
    ∙ sym (sound_by_entries rows.fit c.args.v c.requires c.if-count-self.true c.args.bound)

pub returns-else-count-self : goal.returns-else-count-self
returns-else-count-self c =
    lt-leb _ _ c.if-count-self.false ∙ sym (count_unsound _ _ _ _ _ _ c.if-count-self.false)
