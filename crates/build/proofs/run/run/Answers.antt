-- The goals that the search leaves.
use Prim.Native.Nat.{ℕ, ◌<◌}
use mathlib.Core.Path.{◌≡◌, refl, sym, ap, ◌∙◌}
use Rattle.refusal.specs.Tests.{Verdict}
use Rattle.walk.specs.Walk.{Walked}
use native.Mathlib.Omega.{arith}
use mathlib.Core.List.{List}
use lib.ListN.{length, take}
use Rattle.std.proofs.lemmas.List.{get_or-take, length-take-le}
use Rattle.std.specs.Prelude.{Err}
use Rattle.build.specs.Inner.{Tested, walk_verdict}
use Rattle.walk.proofs.BfsLists.{list_lies}
use Rattle.build.proofs.RunState.{run_begins, run_ends, run_ready, run_next, run_stops}
use Rattle.build.proofs.run.run.Goals as goal

-- the first k hubs are k
first : (n w k : ℕ) (S L O : List ℕ) → Tested n w k S L O → length (take k O) ≡ k
first n w k S L O given = length-take-le k O (omega (arith, given.order.long, given.stop))

pub slice_bounds-hub-items-end : goal.slice_bounds-hub-items-end
slice_bounds-hub-items-end c = sym (first _ _ _ _ _ _ c.requires.given)

pub loop-rank-init : goal.loop-rank-init
loop-rank-init c = run_begins c.requires

pub invariant_of-lists : goal.invariant_of-lists
invariant_of-lists c = record { lie = λ v h. list_lies c.requires.given.block (omega (arith, c.requires.given.block.long)) }

pub walk-made-requires : goal.walk-made-requires
walk-made-requires c =
    let below : c.loop-rank.rank < c.args.k = omega (arith, c.loop-rank-test.true, first _ _ _ _ _ _ c.requires.given) in
    rw (get_or-take c.args.k c.args.order.now c.loop-rank.rank 0 below) (run_ready c.requires c.loop-rank.invariant below)

pub returns-in-Err : goal.returns-in-Err
unfolding walk_verdict
returns-in-Err c =
    let below : c.loop-rank.rank < c.args.k = omega (arith, c.loop-rank-test.true, first _ _ _ _ _ _ c.requires.given) in
    let hub = get_or-take c.args.k c.args.order.now c.loop-rank.rank 0 below in
    run_stops c.requires c.loop-rank.invariant below (rw hub at c.walk-made.ensures.walked) c.walk-made.ensures.notes
    (ap {B = Verdict} (λ r. Err r) c.refusal_of.ensures ∙ sym (ap (λ (z : Walked). walk_verdict z c.loop-rank.rank) c.in-Err.is)) refl

pub loop-rank-preserved : goal.loop-rank-preserved
unfolding walk_verdict
loop-rank-preserved c =
    let below : c.loop-rank.rank < c.args.k = omega (arith, c.loop-rank-test.true, first _ _ _ _ _ _ c.requires.given) in
    let hub = get_or-take c.args.k c.args.order.now c.loop-rank.rank 0 below in
    run_next c.requires c.loop-rank.invariant below (rw hub at c.walk-made.ensures.walked) c.walk-made.ensures.notes
    (ap (λ (z : Walked). walk_verdict z c.loop-rank.rank) c.in_default.is)

pub returns : goal.returns
returns c = run_ends (omega (arith, c.loop-rank-test.false, first _ _ _ _ _ _ c.requires.given)) c.loop-rank.invariant
