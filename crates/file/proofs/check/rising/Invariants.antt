-- The loop of `rising`: the entries before entry i are seen, and `low` is one above the last one's rank.
use Rattle.file.specs.Inner.{Rises}
use Rattle.file.proofs.check.rising.Given as goal

abbrev pub invariant-loop-i : goal.invariant-loop-i
invariant-loop-i l = Rises l.bytes l.n l.p l.count l.i l.low
