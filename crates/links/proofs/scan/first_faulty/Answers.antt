-- The goals that the search leaves.
use Prim.Native.Nat.{ℕ, ◌+◌, ◌-◌, ◌<◌}
use mathlib.Core.Bool.{Bool}
use mathlib.Core.List.{List}
use mathlib.Core.Path.{◌≡◌, refl, sym, ap, ◌∙◌}
use native.Mathlib.Omega.{arith}
use native.Mathlib.Nat.{add-zero}
use lib.ListN.{get_or, take, drop, length-replicate}
use Rattle.std.proofs.lemmas.List.{get_or-take, get_or-drop}
use Rattle.links.specs.Inner.{faulty_from}
use Rattle.links.proofs.Links.{list_in}
use Rattle.links.proofs.Lists.{links_first, links_on, links_stop, links_end, frames_first, frames_on, frames_stop, frames_end}
use Rattle.links.proofs.scan.first_faulty.Goals as goal

-- the link at place i of the list is the one at place from + i of all
listed : (L : List ℕ) (from long i : ℕ) → i < long → get_or (take long (drop from L)) i 0 ≡ get_or L (from + i) 0
listed L from long i h = get_or-take long (drop from L) i 0 h ∙ get_or-drop from L i 0

here : (n v floor : ℕ) (S L : List ℕ) (from long i : ℕ) {b : Bool} → i < long
    → b ≡ faulty_from n S L v floor (get_or (take long (drop from L)) i 0) → b ≡ faulty_from n S L v floor (get_or L (from + i) 0)
here n v floor S L from long i h e = e ∙ ap (faulty_from n S L v floor) (listed L from long i h)

pub slice_bounds-set_cursors-end : goal.slice_bounds-set_cursors-end
slice_bounds-set_cursors-end c = sym (length-replicate {A = ℕ} 4096 0)

pub set_cursors-requires : goal.set_cursors-requires
set_cursors-requires c = (c.requires.fits.frames, c.requires.fits.long, length-replicate {A = ℕ} 4096 0)

pub frames-init : goal.frames-init
frames-init c = (refl, frames_first _ _ c.set_cursors.ensures)

pub slice_bounds-link-items-end : goal.slice_bounds-link-items-end
slice_bounds-link-items-end c = (list_in _ c.requires _ c.frames-test.true).within

pub loop-link-init : goal.loop-link-init
loop-link-init c = (c.frames.invariant.0, rw add-zero (links_first c.requires c.frames.invariant.1.cursors c.frames-test.true))

pub slice_bounds-faulty-end : goal.slice_bounds-faulty-end
slice_bounds-faulty-end c = sym c.loop-link.invariant.1.cursors.long

pub faulty-requires : goal.faulty-requires
faulty-requires c = (c.requires, c.loop-link.invariant.1.cursors)

pub loop-link-preserved : goal.loop-link-preserved
loop-link-preserved c =
    let at : ℕ = get_or c.args.starts.now c.frames.v 0 + c.loop-link.link-index in
    let next : get_or c.args.starts.now c.frames.v 0 + (c.loop-link.link-index + 1) ≡ at + 1 = omega arith in
    let long : ℕ = get_or c.args.starts.now (c.frames.v + 1) 0 - get_or c.args.starts.now c.frames.v 0 in (
      c.loop-link.invariant.0,
      rw (next, listed c.args.places.now _ long c.loop-link.link-index (omega arith))
          (links_on c.loop-link.invariant.1 (omega (arith, c.loop-link-test.true)) (here _ _ _ _ _ _ _ _ (omega arith) c.faulty.ensures.0)
          c.if-faulty.false c.faulty.ensures.1),
    )

pub frames-preserved : goal.frames-preserved
frames-preserved c = (
  c.loop-link.invariant.0,
  frames_on c.frames.invariant.1 c.frames-test.true (links_end c.loop-link.invariant.1 (omega (arith, c.loop-link-test.false)))
      c.loop-link.invariant.1.cursors,
)

pub returns-then-faulty : goal.returns-then-faulty
returns-then-faulty c = frames_stop c.frames.invariant.1 c.frames-test.true
    (links_stop c.loop-link.invariant.1 (omega (arith, c.loop-link-test.true)) (here _ _ _ _ _ _ _ _ (omega arith) c.faulty.ensures.0)
    c.if-faulty.true)

pub returns-after-frames : goal.returns-after-frames
returns-after-frames c = c.frames.invariant.0 ∙ frames_end c.frames.invariant.1 c.frames-test.false
