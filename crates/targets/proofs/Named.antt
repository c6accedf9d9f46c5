-- The paper's numbers tell: no refusal of the two questions has number 0, and two answers with the same numbers are the same.
use Prim.Native.Nat.{ℕ, ◌<◌}
use mathlib.Core.List.{List}
use mathlib.Core.Path.{◌≡◌, refl, sym, ap}
use native.Mathlib.Omega.{arith}
use lib.ListN.{get_or}
use Rattle.std.specs.Prelude.{Ok, Err, Some, None}
use Rattle.refusal.proofs.Laws.{Named, named, gives_apart, refuses_apart, gives_refuses}
use Rattle.refusal.proofs.NumberLaws.{some_number}
use Rattle.refusal.specs.Numbers.{number_of}
use Rattle.refusal.specs.Tests.{Verdict, fine}
use Rattle.rows.proofs.PairDepends.{shared_or_not}
use Rattle.targets.specs.Nearest.{nearest_of, nearest_told, NearestTarget}
use Rattle.targets.specs.Sixteen.{sixteen_by, sixteen_of, sixteen_tests, sixteen_told, SixteenCounts}

-- answers with the same numbers are the same
pub nearest_apart : (a b : NearestTarget) → nearest_told a ≡ nearest_told b → a ≡ b
unfolding nearest_told
nearest_apart (Ok (Some i)) (Ok (Some j)) e = ap (λ (vs : List ℕ). (Ok (Some (get_or vs 1 0)))) (gives_apart e)
nearest_apart (Ok (Some i)) (Ok None) e = shared_or_not (gives_apart e)
nearest_apart (Ok (Some i)) (Err r) e = gives_refuses r 2 e
nearest_apart (Ok None) (Ok (Some j)) e = shared_or_not (sym (gives_apart e))
nearest_apart (Ok None) (Ok None) e = refl
nearest_apart (Ok None) (Err r) e = gives_refuses r 2 e
nearest_apart (Err r) (Ok (Some j)) e = gives_refuses r 2 (sym e)
nearest_apart (Err r) (Ok None) e = gives_refuses r 2 (sym e)
nearest_apart (Err r) (Err s) e = ap Err (refuses_apart 2 e)

-- every refusal of the question has a number
pub nearest_named : (n w : ℕ) (labels counts : List ℕ) (asked : ℕ) (fs : List ℕ)
    → Named Err (nearest_of n w labels counts asked fs)
nearest_named n w labels counts asked fs = named Err _

-- and of the sixteen counts, so that number 0 means that they are fine
told_fine : (v : Verdict) (sixteen : List ℕ) → (sixteen_told (sixteen_by v sixteen)).number ≡ 0 → v ≡ fine
unfolding sixteen_told sixteen_by
told_fine (Ok _) sixteen e = refl
told_fine (Err r) sixteen e = let some : 0 < number_of r.reason = some_number r.reason in absurd (omega arith)

pub sixteen_named : (n w : ℕ) (labels counts fs : List ℕ) → (sixteen_told (sixteen_of n w labels counts fs)).number ≡ 0
    → sixteen_tests n w labels counts fs ≡ fine
unfolding sixteen_of
sixteen_named n w labels counts fs = told_fine _ _

-- and the numbers tell two such answers apart
pub counts_apart : (a b : SixteenCounts) → sixteen_told a ≡ sixteen_told b → a ≡ b
unfolding sixteen_told
counts_apart (Ok xs) (Ok ys) e = ap Ok (gives_apart e)
counts_apart (Ok xs) (Err s) e = gives_refuses s 16 e
counts_apart (Err r) (Ok ys) e = gives_refuses r 16 (sym e)
counts_apart (Err r) (Err s) e = ap Err (refuses_apart 16 e)

pub sixteen_apart : (n w : ℕ) (labels counts fs : List ℕ) (n' w' : ℕ) (labels' counts' fs' : List ℕ)
    → sixteen_told (sixteen_of n w labels counts fs) ≡ sixteen_told (sixteen_of n' w' labels' counts' fs')
    → sixteen_of n w labels counts fs ≡ sixteen_of n' w' labels' counts' fs'
sixteen_apart n w labels counts fs n' w' labels' counts' fs' = counts_apart _ _
