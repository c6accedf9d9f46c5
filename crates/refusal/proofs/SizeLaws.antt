-- The laws of the ranges: a size in its range fits, and no other does.
use Prim.Native.Nat.{ℕ, ◌≤◌}
use mathlib.Core.Path.{◌≡◌}
use mathlib.Core.Bool.{true}
use borrow.Author.Tests.{le-leb, leb-true}
use Rattle.basics.proofs.Laws.{both, both_true}
use Rattle.refusal.specs.Sizes.{within, frames_fit, width_fits, places_fit, sizes_fit}
use Rattle.refusal.specs.Inner.{Sizes}

within_fits : (least most x : ℕ) → least ≤ x → x ≤ most → within least most x ≡ true
within_fits least most x low high = both _ _ (le-leb least x low) (le-leb x most high)

within_held : (least most x : ℕ) → within least most x ≡ true → (least ≤ x) × (x ≤ most)
within_held least most x e =
    let (low, high) = both_true _ _ e in
    (leb-true least x low, leb-true x most high)

pub frames_fit_lem : (n : ℕ) → 1 ≤ n → n ≤ 4096 → frames_fit n ≡ true
unfolding frames_fit
frames_fit_lem n = within_fits 1 4096 n

pub frames_held : (n : ℕ) → frames_fit n ≡ true → (1 ≤ n) × (n ≤ 4096)
unfolding frames_fit
frames_held n = within_held 1 4096 n

pub width_fits_lem : (w : ℕ) → 1 ≤ w → w ≤ 256 → width_fits w ≡ true
unfolding width_fits
width_fits_lem w = within_fits 1 256 w

pub width_held : (w : ℕ) → width_fits w ≡ true → (1 ≤ w) × (w ≤ 256)
unfolding width_fits
width_held w = within_held 1 256 w

pub places_fit_lem : (l : ℕ) → l ≤ 65536 → places_fit l ≡ true
unfolding places_fit
places_fit_lem l = le-leb l 65536

pub places_held : (l : ℕ) → places_fit l ≡ true → l ≤ 65536
unfolding places_fit
places_held l = leb-true l 65536

pub sizes_fit_lem : (n w : ℕ) → Sizes n w → sizes_fit n w ≡ true
unfolding sizes_fit
sizes_fit_lem n w s = both _ _ (frames_fit_lem n s.some_frames s.frames) (width_fits_lem w s.some_width s.width)

pub sizes_held : (n w : ℕ) → sizes_fit n w ≡ true → Sizes n w
unfolding sizes_fit
sizes_held n w e =
    let (frames, width) = both_true _ _ e in
    let (some_frames, most_frames_lem) = frames_held n frames in
    let (some_width, most-width) = width_held w width in
    record { some_frames = some_frames; frames = most_frames_lem; some_width = some_width; width = most-width }
