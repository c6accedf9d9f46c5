-- A pair question's answer depends on n, W, the lengths, the two frame numbers, and these rows' counts and used entries,
-- nothing else; and it is told by the paper's numbers.
use Rattle.std.specs.Prelude.{Ok, Err, Some, None}
use Prim.Native.Nat.{ℕ, ◌+◌, ◌*◌, ◌≤◌, ◌<◌}
use mathlib.Core.Path.{◌≡◌, refl, sym, ap, ◌∙◌}
use mathlib.Core.Bool.{not, ◌&&◌}
use mathlib.Core.List.{List, [], ◌∷◌}
use native.Mathlib.Omega.{arith}
use lib.ListN.{length, get_or, take, drop, length-take, length-drop}
use lib.Dec.{leb, eqb}
use lib.Seq.{ext_get_or}
use Rattle.basics.specs.Places.{some}
use Rattle.basics.proofs.Laws.{lt_or_ge}
use Rattle.refusal.specs.Numbers.{SIZE, LENGTH, ROW}
use Rattle.refusal.specs.Tests.{test, ◌then◌}
use Rattle.refusal.proofs.Laws.{vcase, Named, named, gives_apart, refuses_apart, gives_refuses}
use Rattle.refusal.specs.Sizes.{sizes_fit}
use Rattle.rows.specs.Rooms.{room_tests, rooms_fit, frame_test, frame_tests, row_test, part, row_at, sound_row, faulty_entry}
use Rattle.rows.specs.Meetings.{meeting_of}
use Rattle.rows.specs.Pair.{pair_tests, pair_of, pair_told, Answer}
use Rattle.rows.proofs.Laws.{get_d_part, row_sound}
use Rattle.rows.proofs.PairLaws.{pair_asked, answer_fine, answer_refused}
use Rattle.rows.proofs.RoomLaws.{count_unsound}

-- ---- nothing else

-- two rooms have the same row v: its count, and its entries up to that count and up to W
pub record SameRow (w : ℕ) (labels counts labels' counts' : List ℕ) (v : ℕ) : Type 0 where
  pub count : get_or counts v 0 ≡ get_or counts' v 0
  pub entries : (i : ℕ) → i < get_or counts v 0 → i < w → get_or labels (v * w + i) 0 ≡ get_or labels' (v * w + i) 0

pub row_same : (w : ℕ) (labels counts labels' counts' : List ℕ) (v : ℕ) → length labels ≡ length labels'
    → SameRow w labels counts labels' counts' v → get_or counts v 0 ≤ w → row_at w labels counts v ≡ row_at w labels' counts' v
unfolding row_at part
row_same w labels counts labels' counts' v e same h =
    let c : ℕ = get_or counts v 0 in
    let d : ℕ = get_or counts' v 0 in
    let long : length (take c (drop (v * w) labels)) ≡ length (take d (drop (v * w) labels')) =
    simp (length-take, length-drop, e, same.count) in
    ext_get_or 0 (take c (drop (v * w) labels)) (take d (drop (v * w) labels')) long
    (λ i k.
    let l : i < c = omega (arith, length-take c (drop (v * w) labels)) in
    get_d_part w labels v c i l
    ∙ same.entries i l (omega arith)
    ∙ sym (get_d_part w labels' v d i (omega (arith, same.count))))

pub sound_same : (n w bound : ℕ) (labels counts labels' counts' : List ℕ) (v : ℕ) → length labels ≡ length labels'
    → SameRow w labels counts labels' counts' v → sound_row n w bound labels counts v ≡ sound_row n w bound labels' counts' v
unfolding sound_row
sound_same n w bound labels counts labels' counts' v e same =
    lt_or_ge w (get_or counts v 0)
    (λ h.
    count_unsound n w bound labels counts v h ∙ sym (count_unsound n w bound labels' counts' v (omega (arith, same.count))))
    (λ h.
    let row : row_at w labels counts v ≡ row_at w labels' counts' v = row_same w labels counts labels' counts' v e same h in
    λ i. leb (same.count i) w && not (some (faulty_entry n bound (row i)) 0 (same.count i)))

tests_same : (n w : ℕ) (labels counts labels' counts' : List ℕ) (s t : ℕ) → length labels ≡ length labels'
    → length counts ≡ length counts' → SameRow w labels counts labels' counts' s → SameRow w labels counts labels' counts' t
    → pair_tests n w labels counts s t ≡ pair_tests n w labels' counts' s t
unfolding pair_tests frame_tests room_tests rooms_fit row_test
tests_same n w labels counts labels' counts' s t e f first second =
    let p = sound_same n w n labels counts labels' counts' s e first in
    let q = sound_same n w n labels counts labels' counts' t e second in
    λ i.
    ((test (sizes_fit n w) SIZE 0 then test (eqb (e i) (n * w) && eqb (f i) n) LENGTH 0) then frame_test n s 0)
    then frame_test n t 1
    then test (p i) ROW s
    then test (q i) ROW t

pub pair_depends : (n w : ℕ) (labels counts labels' counts' : List ℕ) (s t : ℕ) → length labels ≡ length labels'
    → length counts ≡ length counts' → SameRow w labels counts labels' counts' s → SameRow w labels counts labels' counts' t
    → pair_of n w labels counts s t ≡ pair_of n w labels' counts' s t
pair_depends n w labels counts labels' counts' s t e f first second =
    let same = tests_same n w labels counts labels' counts' s t e f first second in
    vcase (pair_tests n w labels counts s t)
    (λ fine.
    let asked = pair_asked n w labels counts s t fine in
    let p = row_same w labels counts labels' counts' s e first (row_sound n w n labels counts s asked.first_sound).0 in
    let q = row_same w labels counts labels' counts' t e second (row_sound n w n labels counts t asked.second_sound).0 in
    answer_fine n w labels counts s t fine refl
    ∙ sym (answer_fine n w labels' counts' s t (sym same ∙ fine) (λ i. meeting_of (p i) (q i))))
    (λ r refused.
    answer_refused n w labels counts s t refused ∙ sym (answer_refused n w labels' counts' s t (sym same ∙ refused)))

-- ---- the paper's numbers tell

-- a shared rank is not none
pub shared_or_not {ℓ} : {C : Type ℓ} {j : ℕ} → 1 ∷ j ∷ [] ≡ 0 ∷ 0 ∷ [] → C
shared_or_not e = let z : ◌≡◌ {A = ℕ} 1 0 = ap (λ (vs : List ℕ). get_or vs 0 0) e in absurd (omega arith)

-- answers with the same numbers are the same
pub pair_apart : (a b : Answer) → pair_told a ≡ pair_told b → a ≡ b
unfolding pair_told
pair_apart (Ok (Some j)) (Ok (Some k)) e = ap (λ (vs : List ℕ). (Ok (Some (get_or vs 1 0)))) (gives_apart e)
pair_apart (Ok (Some j)) (Ok None) e = shared_or_not (gives_apart e)
pair_apart (Ok (Some j)) (Err r) e = gives_refuses r 2 e
pair_apart (Ok None) (Ok (Some k)) e = shared_or_not (sym (gives_apart e))
pair_apart (Ok None) (Ok None) e = refl
pair_apart (Ok None) (Err r) e = gives_refuses r 2 e
pair_apart (Err r) (Ok (Some k)) e = gives_refuses r 2 (sym e)
pair_apart (Err r) (Ok None) e = gives_refuses r 2 (sym e)
pair_apart (Err r) (Err s) e = ap Err (refuses_apart 2 e)

-- every refusal of the pair question has a number
pub pair_named : (n w : ℕ) (labels counts : List ℕ) (s t : ℕ) → Named Err (pair_of n w labels counts s t)
pair_named n w labels counts s t = named Err _
