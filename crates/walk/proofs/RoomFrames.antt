-- The part of the queue that a walk has filled lists the frames that it met; with that part at 0 the whole queue is.
use Prim.Native.Nat.{ℕ, ◌+◌, ◌-◌, ◌<◌}
use mathlib.Core.Path.{◌≡◌, sym, ap, ◌∙◌}
use mathlib.Core.List.{List, ◌++◌}
use native.Mathlib.Omega.{arith}
use lib.ListN.{length, get_or, take, drop, replicate, length-drop, length-replicate, replicate-append-replicate}
use lib.Seq.{ext_get_or}
use Rattle.std.proofs.lemmas.List.{get_or-drop, get_or-take, length-take-le}
use Rattle.walk.proofs.RoomClear.{zero_at}
use Rattle.basics.proofs.Laws.{stands_at}
use Rattle.walk.specs.Inner.{Queued, Listed}

module _ {met queue : List ℕ} {tail : ℕ} (q : Queued met queue tail) where
  pub frames_long : length (take tail queue) ≡ tail
  frames_long = length-take-le tail queue (omega (arith, q.few, q.long))

  at : (i : ℕ) → i < length (take tail queue) → get_or (take tail queue) i 0 ≡ get_or queue i 0
  at i h = get_or-take tail queue i 0 (omega (arith, frames_long))

  pub listed : Listed met (take tail queue)
  listed =
      record {
        few = omega (arith, frames_long, q.few);
        low = λ i h. omega (arith, at i h, q.low i (omega (arith, frames_long)));
        is_met = λ i h. rw (at i h) (q.is_met i (omega (arith, frames_long)));
        all = λ v h m.
            let (i, l, is) = q.all v h m in
            let inside : i < length (take tail queue) = omega (arith, frames_long) in
            stands_at (λ j. get_or (take tail queue) j 0) (length (take tail queue)) i inside (at i inside ∙ is);
        once = λ i j h k e.
            q.once i j h (omega (arith, frames_long)) (sym (at i (omega arith)) ∙ e ∙ at j k);
      }

  pub queue_back : {frames : List ℕ} → frames ≡ replicate (length (take tail queue)) 0 → frames ++ drop tail queue ≡ replicate (length met) 0
  queue_back {frames} none =
      let rest : drop tail queue ≡ replicate (length queue - tail) 0 =
      ext_get_or 0 (drop tail queue) (replicate (length queue - tail) 0)
      (length-drop tail queue ∙ sym (length-replicate (length queue - tail) 0))
      (λ i h. get_or-drop tail queue i 0 ∙ q.rest (tail + i) (omega arith) ∙ sym (zero_at (length queue - tail) i)) in
      rw (none, rest, frames_long) (replicate-append-replicate tail (length queue - tail) 0 ∙ ap (λ (k : ℕ). replicate k 0) (omega (arith, q.few, q.long)))
