-- The records taken apart answer as the records do: up to sixteen their frames are the same list, and of more only their
-- number is looked at.
use Rattle.std.specs.Prelude.{Err}
use Prim.Native.Nat.{ℕ, zero, suc, ◌≤◌, ◌<◌}
use mathlib.Core.Path.{◌≡◌, refl, sym, ap, ◌∙◌}
use mathlib.Core.List.{List, [], ◌∷◌}
use native.Mathlib.Omega.{arith}
use borrow.Author.Tests.{leb-true, leb-false}
use lib.ListN.{length, get_or}
use lib.Dec.{leb}
use Rattle.basics.specs.Places.{table}
use Rattle.basics.proofs.Laws.{bcase, is_table, get_d_table}
use Rattle.refusal.specs.Numbers.{SIZE}
use Rattle.refusal.specs.Tests.{refusal, Verdict}
use Rattle.refusal.proofs.Laws.{after_refused}
use Rattle.targets.specs.Inner.{frame_at, frames_in, listed_of}
use Rattle.targets.specs.Nearest.{nearest_by, nearest_of, nearest_place, nearest_tests}
use Rattle.targets.specs.Sixteen.{sixteen_by, sixteen_counts, sixteen_of, sixteen_tests}
use Rattle.targets.specs.Targets.{fewest_joins, frames_of, most_targets}
use Rattle.targets.specs.declared.record.Target.{Target}
use Rattle.targets.proofs.TestLaws.{rooms_many, length_in}

pub length_frames : (ts : List Target) → length (frames_of ts) ≡ length ts
unfolding frames_of
length_frames [] = refl
length_frames (t ∷ ts) = ap suc (length_frames ts)

pub frames_at : (ts : List Target) (i : ℕ) → get_or (frames_of ts) i 0 ≡ frame_at ts i
unfolding frames_of frame_at
frames_at [] i = refl
frames_at (t ∷ ts) zero = refl
frames_at (t ∷ ts) (suc i) = frames_at ts i

-- as many frames as records, more than sixteen too
pub length_listed : (ts : List Target) → length (frames_in (listed_of ts)) ≡ length ts
unfolding listed_of
length_listed ts = length_in (listed_of ts)

-- the frames of up to sixteen records
pub frames_listed : (ts : List Target) → length ts ≤ most_targets → frames_in (listed_of ts) ≡ frames_of ts
unfolding frames_in listed_of
frames_listed ts few =
    sym
    (is_table 0 (frames_of ts) (length ts) (λ i. get_or (table most_targets (frame_at ts)) i 0) (length_frames ts)
    (λ i h. frames_at ts i ∙ sym (get_d_table most_targets (frame_at ts) i 0 (omega (arith, few, h)))))

-- more records are refused by their number, whatever the rest is
pub nearest_many : (n w : ℕ) (labels counts : List ℕ) (asked : ℕ) (fs : List ℕ) → most_targets < length fs
    → nearest_of n w labels counts asked fs ≡ Err (refusal SIZE 0)
unfolding nearest_of nearest_tests nearest_by
nearest_many n w labels counts asked fs many =
    ap (λ (v : Verdict). nearest_by v (fewest_joins w labels counts fs asked) (nearest_place w labels counts asked fs))
    (after_refused _ (rooms_many n w labels counts fs many))

pub sixteen_many : (n w : ℕ) (labels counts fs : List ℕ) → most_targets < length fs
    → sixteen_of n w labels counts fs ≡ Err (refusal SIZE 0)
unfolding sixteen_of sixteen_tests sixteen_by
sixteen_many n w labels counts fs many =
    ap (λ (v : Verdict). sixteen_by v (sixteen_counts n w labels counts fs))
    (after_refused _ (rooms_many n w labels counts fs many))

-- the two questions
pub nearest_listed : (n w : ℕ) (labels counts : List ℕ) (asked : ℕ) (ts : List Target)
    → nearest_of n w labels counts asked (frames_in (listed_of ts)) ≡ nearest_of n w labels counts asked (frames_of ts)
nearest_listed n w labels counts asked ts =
    bcase (leb (length ts) most_targets)
    (λ few. ap (nearest_of n w labels counts asked) (frames_listed ts (leb-true (length ts) most_targets few)))
    (λ many.
    let more : most_targets < length ts = leb-false (length ts) most_targets many in
    nearest_many n w labels counts asked (frames_in (listed_of ts)) (omega (arith, more, length_listed ts))
    ∙ sym (nearest_many n w labels counts asked (frames_of ts) (omega (arith, more, length_frames ts))))

pub sixteen_listed : (n w : ℕ) (labels counts : List ℕ) (ts : List Target)
    → sixteen_of n w labels counts (frames_in (listed_of ts)) ≡ sixteen_of n w labels counts (frames_of ts)
sixteen_listed n w labels counts ts =
    bcase (leb (length ts) most_targets)
    (λ few. ap (sixteen_of n w labels counts) (frames_listed ts (leb-true (length ts) most_targets few)))
    (λ many.
    let more : most_targets < length ts = leb-false (length ts) most_targets many in
    sixteen_many n w labels counts (frames_in (listed_of ts)) (omega (arith, more, length_listed ts))
    ∙ sym (sixteen_many n w labels counts (frames_of ts) (omega (arith, more, length_frames ts))))
