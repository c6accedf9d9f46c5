-- Dropped: nothing is stored. Kept: the row has room, so its next place lies in the label room.
use Prim.Native.Nat.{ℕ, ◌+◌, ◌*◌}
use mathlib.Core.Path.{◌≡◌, sym, ap, ◌∙◌}
use mathlib.Core.Bool.{true}
use lib.ListN.{get_or, set}
use Rattle.basics.proofs.Laws.{cond_true, cond_false}
use Rattle.walk.specs.Inner.{is_kept}
use Rattle.walk.proofs.RoomMarks.{kept_mark, dropped_mark}
use Rattle.walk.proofs.settle.give.Goals as goal

pub returns-then-mark-ge-DROP_MARK : goal.returns-then-mark-ge-DROP_MARK
returns-then-mark-ge-DROP_MARK c =
    let drop-mark = dropped_mark c.args.mark c.if-mark-ge-DROP_MARK.true in
    record { labels_after = sym (cond_false _ _ drop-mark); counts_after = sym (cond_false _ _ drop-mark) }

pub returns : goal.returns
returns c =
    let kept : is_kept c.args.mark ≡ true = (kept_mark c.args.mark c.requires.met c.if-mark-ge-DROP_MARK.false) in
    record {
      labels_after = ap (λ (e : ℕ). set c.args.labels.now (c.args.v * c.args.w + get_or c.args.counts.now c.args.v 0) e) c.entry_of.ensures ∙ sym (cond_true _ _ kept);
      counts_after = sym (cond_true _ _ kept);
    }
