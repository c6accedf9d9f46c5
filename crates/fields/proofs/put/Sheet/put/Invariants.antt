-- One field. The invariant: the bytes stored and the bits left of the whole number are what was to be put. A turn stores
-- the next eight bits; their number falls.
use mathlib.Core.Path.{◌≡◌}
use Prim.Native.Nat.{◌+◌, ◌≤◌}
use mathlib.Core.List.{[], ◌∷◌}
use Rattle.fields.specs.Bits.{num, field}
use Rattle.fields.specs.Inner.{pen_bits, pen_num}
use Rattle.fields.proofs.Byte.{BytesLeft}
use Rattle.fields.proofs.put.Sheet.put.Given as goal

abbrev pub invariant-loop-nb : goal.invariant-loop-nb
invariant-loop-nb l = record {
  few : l.nb ≤ 23;
  same : l.self.out.ghost_name ≡ l.initial.self.out.ghost_name;
  left : BytesLeft l.initial.self.out.now (num (pen_num l.initial.self.out.now l.initial.self.pen) (field l.value l.width ∷ [])) (pen_bits l.initial.self.pen + l.width) l.whole l.self.out.now l.at l.nb;
}

abbrev pub decreases-loop-nb : goal.decreases-loop-nb
decreases-loop-nb l = l.nb
