-- No entry is spare, in the rooms: with used entry i of row v taken out, every other row is as it was, row v has that entry
-- less and is sound, so the pair of its hub and v is answered by the theory, and otherwise.
use Rattle.refusal.specs.Tests.{fine}
use Prim.Native.Nat.{ℕ, suc, ◌+◌, ◌-◌, ◌*◌, ◌≤◌, ◌<◌}
use mathlib.Core.Path.{◌≡◌, refl, sym, ap, subst, ◌∙◌}
use mathlib.Core.Bool.{false, ◌&&◌}
use mathlib.Core.List.{List, ◌∷◌, ◌++◌}
use native.Mathlib.Decide.{ℕ_discrete}
use native.Mathlib.Omega.{arith}
use borrow.Author.Tests.{lt-ltb, le-ltb, le-leb, lt-leb}
use lib.ListN.{length, get_or, take, drop, length-set, length-append, length-take, length-drop, get_or-append}
use lib.Seq.{get_or-set_same, get_or-set_other, get_or-take, get_or-drop, get_or-append-add, split_at, ext_get_or}
use lib.Dec.{leb, ltb}
use Rattle.basics.proofs.Laws.{by_cases, lt_or_ge, three_ways, cond_false, length_table, get_d_table}
use Rattle.theory.specs.Links.{hub_of}
use Rattle.theory.specs.Rows.{Row, instead}
use Rattle.theory.specs.Plain.{row_by}
use Rattle.theory.proofs.Spare.{instead_at, instead_not}
use Rattle.theory.proofs.Plain.{plain_spare}
use Rattle.entry.specs.Entry.{rank_of, joins_of, decode}
use Rattle.rows.specs.Pair.{pair_tests}
use Rattle.rows.specs.Inner.{Rooms}
use Rattle.rows.specs.Rooms.{row_at}
use Rattle.entry.proofs.Laws.{decode_append}
use Rattle.rows.proofs.Laws.{Sound, row_inside, row_place, entry_at}
use Rattle.rows.proofs.RoomLaws.{length_row}
use Rattle.theorems.specs.Demands.{asked_of, labels_without, counts_without, hub_at}
use Rattle.theorems.proofs.Held.{Held, held_length, held_sound, held_answer, sound_fine, sound_answer}

module _ {n w k : ℕ} {S L O labels counts : List ℕ} (h : Held n w k S L O labels counts)
    (v i : ℕ) (p : v < n) (l : i < get_or counts v 0) where
  -- ---- the rooms without it

  abbrev labels' : List ℕ
  labels' = labels_without w labels counts v i

  abbrev counts' : List ℕ
  counts' = counts_without counts v

  long_labels : length labels' ≡ n * w
  unfolding labels_without
  long_labels = length_table (length labels) _ ∙ h.rooms.places

  long_counts : length counts' ≡ n
  unfolding counts_without
  long_counts = length-set counts v _ ∙ h.rooms.each

  one_less : get_or counts' v 0 ≡ get_or counts v 0 - 1
  unfolding counts_without
  one_less = get_or-set_same counts v _ 0 (omega (arith, h.rooms.each))

  no_less : (u : ℕ) → (u ≡ v → ⊥) → get_or counts' u 0 ≡ get_or counts u 0
  unfolding counts_without
  no_less u e = get_or-set_other counts v u _ 0 e

  rooms' : Rooms n w labels' counts'
  rooms' =
      record {
        sizes = h.rooms.sizes;
        places = long_labels;
        each = long_counts;
      }

  narrow' : (u : ℕ) → u < n → get_or counts' u 0 ≤ w
  narrow' u q =
      by_cases (ℕ_discrete u v)
      (λ (e : u ≡ v). omega (arith, ap (λ (z : ℕ). get_or counts' z 0) e, one_less, h.narrow v p))
      (λ e. omega (arith, no_less u e, h.narrow u q))

  -- a place before the entry or behind the row
  stays : (at : ℕ) → at < n * w → leb (v * w + i) at && ltb at (v * w + get_or counts v 0) ≡ false
      → get_or labels' at 0 ≡ get_or labels at 0
  unfolding labels_without
  stays at q e = get_d_table (length labels) _ at 0 (omega (arith, h.rooms.places)) ∙ cond_false _ _ e

  before : (at : ℕ) → at < n * w → at < v * w + i → get_or labels' at 0 ≡ get_or labels at 0
  before at q g = stays at q (rw (lt-leb (v * w + i) at g) refl)

  behind : (at : ℕ) → at < n * w → v * w + get_or counts v 0 ≤ at → get_or labels' at 0 ≡ get_or labels at 0
  behind at q g =
      stays at q (rw (le-leb (v * w + i) at (omega arith), le-ltb at (v * w + get_or counts v 0) g) refl)

  -- the places from the entry on, but for the last
  moves : (at : ℕ) → at < n * w → v * w + i ≤ at → at + 1 < v * w + get_or counts v 0 → get_or labels' at 0 ≡ get_or labels (at + 1) 0
  unfolding labels_without
  moves at q g f =
      get_d_table (length labels) _ at 0 (omega (arith, h.rooms.places))
      ∙ rw (
        le-leb (v * w + i) at g,
        lt-ltb at (v * w + get_or counts v 0) (omega arith),
        lt-ltb (at + 1) (v * w + get_or counts v 0) f,
      ) refl

  -- ---- the rows without it

  -- another row
  other_place : (u j : ℕ) → u < n → (u ≡ v → ⊥) → j < get_or counts u 0 → get_or labels' (u * w + j) 0 ≡ get_or labels (u * w + j) 0
  other_place u j q e g =
      let wide : get_or counts u 0 ≤ w = h.narrow u q in
      let inside : u * w + j < n * w = row_place q (omega arith) in
      three_ways u v
      (λ less.
      before (u * w + j) inside
      (omega (arith, row_place {n = v} {w = w} {v = u} {c = j} less (omega arith))))
      (λ same. absurd (e same))
      (λ more.
      behind (u * w + j) inside
      (omega (arith, row_inside {v = v} {n = u} {c = get_or counts v 0} {w = w} more (h.narrow v p))))

  length' : (u : ℕ) → u < n → length (row_at w labels' counts' u) ≡ get_or counts' u 0
  length' u q = length_row rooms' u q (narrow' u q)

  other_row : (u : ℕ) → u < n → (u ≡ v → ⊥) → row_at w labels' counts' u ≡ row_at w labels counts u
  other_row u q e =
      ext_get_or 0 (row_at w labels' counts' u) (row_at w labels counts u)
      (length' u q ∙ no_less u e ∙ sym (held_length h u q))
      (λ j g.
      let low : j < get_or counts' u 0 = omega (arith, length' u q) in
      let old : j < get_or counts u 0 = omega (arith, no_less u e) in
      entry_at w labels' counts' u j low ∙ other_place u j q e old ∙ sym (entry_at w labels counts u j old))

  -- row v, entry by entry
  front : (j : ℕ) → j < i → get_or (row_at w labels' counts' v) j 0 ≡ get_or (row_at w labels counts v) j 0
  front j g =
      entry_at w labels' counts' v j (omega (arith, one_less))
      ∙ before (v * w + j) (row_place p (omega (arith, h.narrow v p))) (omega arith)
      ∙ sym (entry_at w labels counts v j (omega arith))

  rest : (j : ℕ) → i ≤ j → j + 1 < get_or counts v 0
      → get_or (row_at w labels' counts' v) j 0 ≡ get_or (row_at w labels counts v) (j + 1) 0
  rest j g f =
      let next : v * w + j + 1 ≡ v * w + (j + 1) = omega arith in
      entry_at w labels' counts' v j (omega (arith, one_less))
      ∙ moves (v * w + j) (row_place p (omega (arith, h.narrow v p))) (omega arith) (omega arith)
      ∙ ap (λ (z : ℕ). get_or labels z 0) next
      ∙ sym (entry_at w labels counts v (j + 1) f)

  -- each entry of the new row is one of the old row's, and a later one is later there
  sound' : Sound n k (row_at w labels' counts' v) (get_or counts' v 0)
  sound' =
      let s : Sound n k (row_at w labels counts v) (get_or counts v 0) = held_sound h v p in
      let less : get_or counts' v 0 ≡ get_or counts v 0 - 1 = one_less in
      record {
        rank = λ j g.
            lt_or_ge j i
            (λ a. omega (arith, ap rank_of (front j a), s.rank j (omega arith)))
            (λ a. omega (arith, ap rank_of (rest j a (omega arith)), s.rank (j + 1) (omega arith)));
        joins = λ j g.
            lt_or_ge j i
            (λ a. omega (arith, ap joins_of (front j a), s.joins j (omega arith)))
            (λ a. omega (arith, ap joins_of (rest j a (omega arith)), s.joins (j + 1) (omega arith)));
        rising = λ j g.
            let one = s.rising j (omega arith) in
            let two = s.rising (j + 1) (omega arith) in
            lt_or_ge (j + 1) i
            (λ a. omega (arith, ap rank_of (front j (omega arith)), ap rank_of (front (j + 1) a)))
            (λ a.
            lt_or_ge j i
            (λ b. omega (arith, ap rank_of (front j b), ap rank_of (rest (j + 1) a (omega arith))))
            (λ b. omega (arith, ap rank_of (rest j b (omega arith)), ap rank_of (rest (j + 1) a (omega arith)))));
      }

  own_row : row_at w labels' counts' v ≡ take i (row_at w labels counts v) ++ drop (suc i) (row_at w labels counts v)
  own_row =
      let row : List ℕ = row_at w labels counts v in
      let long : length row ≡ get_or counts v 0 = held_length h v p in
      let cut : length (take i row) ≡ i = length-take i row ∙ omega arith in
      let left : length (drop (suc i) row) ≡ length row - suc i = length-drop (suc i) row in
      let less : get_or counts' v 0 ≡ get_or counts v 0 - 1 = one_less in
      let whole : length (take i row ++ drop (suc i) row) ≡ length (take i row) + length (drop (suc i) row) =
      length-append (take i row) (drop (suc i) row) in
      ext_get_or 0 (row_at w labels' counts' v) (take i row ++ drop (suc i) row) (length' v p ∙ omega arith)
      (λ j g.
      let low : j < get_or counts' v 0 = omega (arith, length' v p) in
      lt_or_ge j i
      (λ a.
      front j a
      ∙ sym (get_or-append (take i row) (drop (suc i) row) 0 j (omega arith) ∙ get_or-take i row j 0 a))
      (λ a.
      let at : length (take i row) + (j - i) ≡ j = omega arith in
      let from : suc i + (j - i) ≡ j + 1 = omega arith in
      rest j a (omega arith)
      ∙ sym
      (ap (λ (z : ℕ). get_or (take i row ++ drop (suc i) row) z 0) (sym at)
      ∙ get_or-append-add (take i row) (drop (suc i) row) (j - i) 0
      ∙ get_or-drop (suc i) row (j - i) 0
      ∙ ap (λ (z : ℕ). get_or row z 0) from)))

  -- ---- over the theory's rows

  abbrev xs : Row
  xs = decode (take i (row_at w labels counts v))

  abbrev ys : Row
  ys = decode (drop (suc i) (row_at w labels counts v))

  abbrev taken : ℕ
  taken = get_or labels (v * w + i) 0

  -- the row with the entry
  split : row_by n S L O k v ≡ xs ++ ((rank_of taken, joins_of taken) ∷ ys)
  unfolding decode
  split =
      let row : List ℕ = row_at w labels counts v in
      sym (h.rows v p)
      ∙ ap decode (split_at row i 0 (omega (arith, held_length h v p)))
      ∙ ap (λ (e : ℕ). decode (take i row ++ (e ∷ drop (suc i) row))) (entry_at w labels counts v i l)
      ∙ decode_append (take i row) (taken ∷ drop (suc i) row)

  -- the rows without it
  rows' : (u : ℕ) → u < n → decode (row_at w labels' counts' u) ≡ instead (row_by n S L O k) v (xs ++ ys) u
  rows' u q =
      by_cases (ℕ_discrete u v)
      (λ (e : u ≡ v).
      ap (λ (z : ℕ). decode (row_at w labels' counts' z)) e
      ∙ ap decode own_row
      ∙ decode_append (take i (row_at w labels counts v)) (drop (suc i) (row_at w labels counts v))
      ∙ sym (instead_at (row_by n S L O k) v (xs ++ ys) u e))
      (λ e.
      ap decode (other_row u q e) ∙ h.rows u q ∙ sym (instead_not (row_by n S L O k) v (xs ++ ys) u e))

  sounds' : (u : ℕ) → u < n → Sound n k (row_at w labels' counts' u) (get_or counts' u 0)
  sounds' u q =
      by_cases (ℕ_discrete u v)
      (λ (e : u ≡ v). subst (λ (z : ℕ). Sound n k (row_at w labels' counts' z) (get_or counts' z 0)) (sym e) sound')
      (λ e.
      subst (λ (r : List ℕ). Sound n k r (get_or counts' u 0)) (sym (other_row u q e))
      (subst (Sound n k (row_at w labels counts u)) (sym (no_less u e)) (held_sound h u q)))

  pub without_fine : (s t : ℕ) → s < n → t < n → pair_tests n w labels' counts' s t ≡ fine
  without_fine = sound_fine rooms' h.stop narrow' sounds'

  pub hub_inside : hub_at w O labels v i < n
  unfolding hub_at
  hub_inside =
      h.order.inside (rank_of taken)
      (omega (arith, h.stop, ap rank_of (entry_at w labels counts v i l), (held_sound h v p).rank i l))

  pub spare_none : asked_of n w labels' counts' (hub_at w O labels v i) v ≡ asked_of n w labels counts (hub_at w O labels v i) v → ⊥
  unfolding hub_at
  spare_none e =
      let hub : ℕ = hub_of O (rank_of taken) in
      let g : hub < n = hub_inside in
      plain_spare h.block h.order k v h.stop p xs (rank_of taken) (joins_of taken) ys split
      (sym (held_answer h hub v g p)
      ∙ sym e
      ∙ sound_answer rooms' h.stop narrow' sounds' (instead (row_by n S L O k) v (xs ++ ys)) rows' hub v g p)
