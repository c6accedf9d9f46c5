-- `get` gathers byte after byte: what it has are the last bits of the first i bytes, and it never exceeds three bytes.
use Rattle.fields.proofs.Gather.{Gathered}
use Rattle.fields.proofs.get.get.Given as goal

abbrev pub invariant-loop-i : goal.invariant-loop-i
invariant-loop-i l = Gathered l.bytes l.p l.end l.i l.sum
