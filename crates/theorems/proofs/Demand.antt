-- Rooms that hold the rows of the rule meet demands 2 and 3, every clause; so do the rooms of an unrefused build.
use Rattle.std.specs.Prelude.{Ok}
use Prim.Native.Nat.{ℕ}
use mathlib.Core.Path.{◌≡◌}
use mathlib.Core.List.{List}
use Rattle.build.specs.Build.{build_outcome, build_of}
use Rattle.theorems.specs.Demands.{Demands, labels_without, counts_without, hub_at}
use Rattle.theorems.proofs.Answers.{answer_through, answer_never_below, answer_near_first, answer_near_second, answer_true}
use Rattle.theorems.proofs.Built.{built_tests, built_held}
use Rattle.theorems.proofs.Held.{Held, held_walks, held_fine, told_fine}
use Rattle.theorems.proofs.Rule.{held_rule}
use Rattle.theorems.proofs.NoSpare.{without_fine, hub_inside, spare_none}

pub held_demands : {n w k : ℕ} {S L O labels counts : List ℕ} → Held n w k S L O labels counts → Demands n w k S L O labels counts
held_demands {n} {w} {k} {S} {L} {O} {labels} {counts} h =
    record {
      walked = held_walks h;
      ruled = held_rule h;
      taken = λ s t p q. told_fine n w labels counts s t (held_fine h s t p q);
      fewest = answer_through h;
      never_below = answer_never_below h;
      near_first = answer_near_first h;
      near_second = answer_near_second h;
      true_count = answer_true h;
      no_spare = λ v i p l.
          let hub : ℕ = hub_at w O labels v i in (
            hub_inside h v i p l,
            told_fine n w (labels_without w labels counts v i) (counts_without counts v) hub v
                (without_fine h v i p l hub v (hub_inside h v i p l) p),
            spare_none h v i p l,
          );
    }

-- demands 2 and 3 of any rooms that the build's contract allows with an unrefused build
pub built_demands : (n w k : ℕ) (S L O labels counts met queue : List ℕ) (entries : ℕ) (labels' counts' met' queue' : List ℕ)
    → build_outcome (Ok entries) labels' counts' met' queue' ≡ build_of n w k S L O labels counts met queue
    → Demands n w k S L O labels' counts'
built_demands n w k S L O labels counts met queue entries labels' counts' met' queue' e =
    held_demands (built_held (built_tests n w k S L O labels counts met queue entries labels' counts' met' queue' e))
