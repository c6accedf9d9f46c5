-- The goals that the search leaves.
use mathlib.Core.Path.{◌≡◌, refl, sym, ◌∙◌}
use native.Mathlib.Decide.{ℕ_discrete}
use native.Mathlib.Omega.{arith}
use lib.ListN.{length, get_or, replicate, length-replicate}
use lib.Seq.{ext_get_or}
use Rattle.basics.proofs.Laws.{by_cases, stands_by}
use Rattle.walk.proofs.RoomClear.{zero_at}
use Rattle.walk.proofs.settle.clean.Goals as goal

pub loop-v-init : goal.loop-v-init
loop-v-init c = (
  refl,
  λ u h out.
      by_cases (ℕ_discrete (get_or c.args.met.now u 0) 0) (λ (e : get_or c.args.met.now u 0 ≡ 0). e)
      (λ ne.
      let (i, l, is) = stands_by (λ j. get_or c.args.frames.now j 0) (length c.args.frames.now) u (c.requires.all u h (omega arith)) in
      absurd (out i (omega arith) l is)),
)

pub returns-clause-met_after : goal.returns-clause-met_after
returns-clause-met_after c = let n = length c.args.met.now in
    let (long, none) = c.loop-v.invariant in
    ext_get_or 0 c.loop-v.met (replicate n 0) (long ∙ sym (length-replicate n 0))
    (λ v h. none v (omega arith) (λ j g l is. absurd (omega arith)) ∙ sym (zero_at n v))
