-- A walk at its start: the hub alone is met, at level 0.
use Prim.Native.Nat.{ℕ, ◌%◌, ◌<◌}
use mathlib.Core.Path.{◌≡◌, refl, ap, ◌∙◌}
use mathlib.Core.Logic.{inl}
use mathlib.Core.Bool.{Bool}
use mathlib.Core.List.{List}
use native.Mathlib.Omega.{arith}
use lib.ListN.{length, get_or, set, replicate, length-set, length-replicate}
use lib.Seq.{get_or-set_same}
use Rattle.walk.specs.Inner.{Queued, Bfs}
use Rattle.walk.proofs.BfsQueue.{push}
use Rattle.walk.proofs.RoomClear.{zero_at}

-- rooms of 0 are an empty queue
queue_none : (n : ℕ) → Queued (replicate n 0) (replicate n 0) 0
queue_none n =
    record {
      long = refl;
      few = omega arith;
      low = λ i h. absurd (omega arith);
      is_met = λ i h. absurd (omega arith);
      all = λ v h m. absurd (omega (arith, zero_at n v));
      once = λ i j h k e. omega arith;
      rest = λ i h. zero_at n i;
    }

pub bfs_start : (n : ℕ) (S L : List ℕ) (drop : ℕ → ℕ → Bool) (hub : ℕ) {M Q : List ℕ} → hub < n → M ≡ replicate n 0
    → Q ≡ replicate n 0 → Bfs n S L drop hub (set M hub 1) (set Q 0 hub) 0 1
bfs_start n S L drop hub {M} {Q} h em eq =
    let z : List ℕ = replicate n 0 in
    let long : length z ≡ n = length-replicate n 0 in
    let line : Queued (set z hub 1) (set z 0 hub) 1 =
    push (queue_none n) hub 1 (omega arith) (zero_at n hub) (omega arith) in
    let first : get_or (set z 0 hub) 0 0 ≡ hub = get_or-set_same z 0 hub 0 (omega arith) in
    let only : get_or (set z hub 1) hub 0 ≡ 1 = get_or-set_same z hub 1 0 (omega arith) in
    let at : (i : ℕ) → i < 1 → get_or (set z 0 hub) i 0 ≡ hub =
    λ i p. ap (λ (k : ℕ). get_or (set z 0 hub) k 0) (let q : i ≡ 0 = omega arith in q) ∙ first in
    let value : (i : ℕ) → i < 1 → get_or (set z hub 1) (get_or (set z 0 hub) i 0) 0 ≡ 1 =
    λ i p. ap (λ (k : ℕ). get_or (set z hub 1) k 0) (at i p) ∙ only in
    rw (em, eq)
    (record {
      long = length-set z hub 1 ∙ long;
      line = line;
      ahead = omega arith;
      some = omega arith;
      first = first;
      start = ap (λ (k : ℕ). k % 65536) only;
      small = λ i p. omega (arith, value i p);
      least = λ i p. omega (arith, value i p);
      rise = λ i j p q. absurd (omega arith);
      near = λ j p q. omega (arith, value j q, value 0 (omega arith));
      short = λ j p. omega (arith, value j p);
      plain = λ j p q. omega (arith, value j q);
      reason = λ j p. inl (at j p);
      done = λ i p. absurd (omega arith);
    })
