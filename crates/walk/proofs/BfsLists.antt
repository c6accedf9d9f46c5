-- The list of a frame: it lies in the places, and holds the frames that its links lead to.
use Prim.Native.Nat.{ℕ, ◌+◌, ◌-◌, ◌≤◌, ◌<◌}
use mathlib.Core.Path.{◌≡◌, refl, ◌∙◌}
use mathlib.Core.List.{List}
use native.Mathlib.Omega.{arith}
use lib.ListN.{length, get_or, drop, length-drop}
use Rattle.std.proofs.lemmas.List.{get_or-drop, get_or-take, length-take}
use Rattle.theory.specs.Links.{Block, Link}
use Rattle.theory.specs.Plain.{ones}
use Rattle.theory.proofs.DistWeight.{start_upto}
use Rattle.walk.specs.Inner.{ListLies, list_at}

module _ {n : ℕ} {S L : List ℕ} (block : Block n 1 S L ones) {u : ℕ} (frame : u < n) where
  upto : get_or S (u + 1) 0 ≤ length L
  upto = start_upto block (u + 1) (omega arith)

  -- what a caller shows of its lists
  pub list_lies : ListLies S L u
  list_lies = record { started = omega (arith, block.long); rise = block.rise u frame; lies = upto }

  pub list_long : length (list_at S L u) ≡ get_or S (u + 1) 0 - get_or S u 0
  unfolding list_at
  list_long = omega (arith, upto, length-take (get_or S (u + 1) 0 - get_or S u 0) (drop (get_or S u 0) L), length-drop (get_or S u 0) L)

  list_place : (i : ℕ) → i < length (list_at S L u) → get_or (list_at S L u) i 0 ≡ get_or L (get_or S u 0 + i) 0
  unfolding list_at
  list_place i h = get_or-take _ _ i 0 (omega (arith, list_long)) ∙ get_or-drop (get_or S u 0) L i 0

  pub list_low : (i : ℕ) → i < length (list_at S L u) → get_or (list_at S L u) i 0 < n
  list_low i h = omega (arith, list_place i h, block.inside u (get_or S u 0 + i) frame (omega arith) (omega (arith, list_long)))

  pub list_link : (v i : ℕ) → i < length (list_at S L u) → get_or (list_at S L u) i 0 ≡ v → Link S L ones u v 1
  list_link v i h is =
      record {
        at = get_or S u 0 + i;
        from = omega arith;
        upto = omega (arith, list_long);
        holds = omega (arith, list_place i h);
        costs = refl;
      }

  pub link_listed : (v : ℕ) → Link S L ones u v 1 → (i : ℕ) × (i < length (list_at S L u)) × (get_or (list_at S L u) i 0 ≡ v)
  link_listed v l =
      let i : ℕ = l.at - get_or S u 0 in
      let h : i < length (list_at S L u) = omega (arith, l.from, l.upto, list_long) in
      let place : get_or S u 0 + i ≡ l.at = omega (arith, l.from) in
      (i, h, list_place i h ∙ rw place l.holds)
