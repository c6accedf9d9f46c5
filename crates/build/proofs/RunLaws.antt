-- The run of walks by the row rule: rooms that hold the rule's rows at rank r are sound and hold nothing else, the walk of
-- rank r over them makes the rows at r + 1, and it is refused exactly where the rule's rows are over W or over 4,095 joins.
use Prim.Native.Nat.{ℕ, suc, ◌≤◌, ◌<◌}
use mathlib.Core.Path.{◌≡◌, refl, sym, ap, ◌∙◌}
use mathlib.Core.Bool.{Bool, not, ◌&&◌}
use mathlib.Core.List.{List, [], ◌∷◌, ◌++◌}
use native.Mathlib.Omega.{arith}
use borrow.Author.Tests.{lt-ltb, le-ltb, ltb-true, le-leb, leb-true}
use lib.ListN.{length, get_or, length-append}
use lib.Seq.{get_or-append_seam, ext_get_or}
use lib.Dec.{leb, ltb}
use Rattle.basics.proofs.Laws.{bcase, same_truth, some_ext}
use Rattle.theory.specs.Distance.{far}
use Rattle.theory.specs.Links.{hub_of}
use Rattle.theory.specs.Rows.{Row, hubs, keep, rule_row}
use Rattle.theory.specs.Walk.{walk_row}
use Rattle.theory.specs.Plain.{joins_to, row_by}
use Rattle.theory.proofs.Rule.{rank_at, joins_at}
use Rattle.theory.proofs.Plain.{plain_rising, plain_places, walk_out}
use Rattle.entry.specs.Entry.{rank_of, encode, decode}
use Rattle.rows.specs.Rooms.{row_at, part}
use Rattle.entry.proofs.Laws.{length_encode, decode_encode, decoded}
use Rattle.rows.proofs.Laws.{length_part, part_table}
use Rattle.build.specs.Build.{full_at, far_frame, far_at}
use Rattle.build.specs.Inner.{Tested}
use Rattle.rows.specs.Laid.{labels_of, counts_of, rows_in}
use Rattle.rows.specs.Inner.{Laid}
use Rattle.walk.specs.Inner.{RisingRows}
use Rattle.walk.specs.Walk.{so_far, level_of, kept, walk_fits, walked_rows, walk_near, decided, walk_of}
use Rattle.rows.proofs.LaidLaws.{length_labels, laid_ext, count_at_lem}

-- ---- one kept entry

-- a row of at most w entries is over w with one more exactly if it has w and gets one
over_width : (r m a w : ℕ) (x : Row) → length x ≤ w → ltb m a && leb w (length x) ≡ ltb w (length (keep r m a x))
unfolding keep
over_width r m a w x fits =
    bcase (ltb m a)
    (λ e.
    rw e
    (same_truth (leb w (length x)) (ltb w (length (x ++ ((r, m) ∷ []))))
    (λ l. lt-ltb w (length (x ++ ((r, m) ∷ []))) (omega (arith, length-append x ((r, m) ∷ []), leb-true w (length x) l)))
    (λ l. le-leb w (length x) (omega (arith, length-append x ((r, m) ∷ []), ltb-true w (length (x ++ ((r, m) ∷ []))) l)))))
    (λ e. rw e (sym (le-ltb w (length x) fits)))

-- two entries behind the same row that give the same row are the same, or neither is there
kept_same : (r m a m' a' : ℕ) (x : Row) (b : ℕ → Bool) → keep r m a x ≡ keep r m' a' x → ltb m a && b m ≡ ltb m' a' && b m'
unfolding keep
kept_same r m a m' a' x b =
    bcase (ltb m a)
    (λ e.
    bcase (ltb m' a')
    (λ f.
    rw (e, f)
    (λ (same : x ++ ((r, m) ∷ []) ≡ x ++ ((r, m') ∷ [])).
    ap b
    (ap (λ (z : ℕ × ℕ). z.1) (sym (get_or-append_seam x (r, m) [] (0, 0)))
    ∙ ap (λ (y : Row). joins_at y (length x)) same
    ∙ ap (λ (z : ℕ × ℕ). z.1) (get_or-append_seam x (r, m') [] (0, 0)))))
    (λ f.
    rw (e, f)
    (λ (same : x ++ ((r, m) ∷ []) ≡ x). absurd (omega (arith, ap length same, length-append x ((r, m) ∷ []))))))
    (λ e.
    bcase (ltb m' a')
    (λ f.
    rw (e, f)
    (λ (same : x ≡ x ++ ((r, m') ∷ [])). absurd (omega (arith, ap length same, length-append x ((r, m') ∷ [])))))
    (λ f. rw (e, f) (λ same. refl)))

-- ---- a row read back

-- the used part of row v holds the entries of v's row
module _ (n w : ℕ) (R : ℕ → Row) (v c : ℕ) (h : v < n) (fits : c ≤ w) (is : length (R v) ≡ c) where
  long : length (part w (labels_of n w R) v c) ≡ c
  long = length_part w (labels_of n w R) v c h fits (length_labels n w R)

  entry_is : (i : ℕ) → i < c → get_or (part w (labels_of n w R) v c) i 0 ≡ get_or (encode (R v)) i 0
  unfolding labels_of
  entry_is i low = part_table n w (λ u x. get_or (encode (R u)) x 0) v c i h fits low

  part_is : part w (labels_of n w R) v c ≡ encode (R v)
  part_is =
      ext_get_or 0 (part w (labels_of n w R) v c) (encode (R v)) (long ∙ sym is ∙ sym (length_encode (R v)))
      (λ i l. entry_is i (omega (arith, long)))

row_is : (n w : ℕ) (R : ℕ → Row) (v : ℕ) → v < n → length (R v) ≤ w → row_at w (labels_of n w R) (counts_of n R) v ≡ encode (R v)
unfolding row_at
row_is n w R v h fits = rw (count_at_lem n R v h) (part_is n w R v (length (R v)) h fits refl)

-- ---- rooms that hold the rule's rows at rank r

-- a block, an order, and rows of the rule at rank r that are at most w long
pub record Ruled (n w k : ℕ) (S L O : List ℕ) (r : ℕ) : Type 0 where
  pub given : Tested n w k S L O
  pub below : r ≤ k
  pub fit : (v : ℕ) → v < n → length (row_by n S L O r v) ≤ w

module _ {n w k : ℕ} {S L O : List ℕ} {r : ℕ} (g : Ruled n w k S L O r) where
  abbrev pub rows : ℕ → Row
  rows = row_by n S L O r

  abbrev pub labels : List ℕ
  labels = labels_of n w (row_by n S L O r)

  abbrev pub counts : List ℕ
  counts = counts_of n (row_by n S L O r)

  pub rows_back : (v : ℕ) → v < n → rows_in w labels counts v ≡ rows v
  unfolding rows_in
  rows_back v h =
      ap decode (row_is n w rows v h (g.fit v h))
      ∙ decode_encode (rows v)
      (λ i l.
      let few : n ≤ 4096 = g.given.sizes.frames in
      let low : r ≤ n = omega (arith, g.below, g.given.stop) in
      let at : (rank_at (rows v) i < r) × (joins_at (rows v) i < n) = plain_places g.given.block g.given.order r v i low h l in
      (omega arith, omega arith))

  pub laid_back : Laid n w (rows_in w labels counts) labels counts
  laid_back =
      laid_ext (rows_in w labels counts) g.given.sizes.some_width (λ v h. sym (rows_back v h)) (record { rows = refl; numbers = refl })

  rank_back : (v i : ℕ) → v < n → i < length (rows v) → rank_of (get_or (row_at w labels counts v) i 0) ≡ rank_at (rows v) i
  unfolding rows_in
  rank_back v i h l =
      (decoded (row_at w labels counts v) (rows_back v h) i
      (omega (arith, ap (λ (row : List ℕ). length row) (row_is n w rows v h (g.fit v h)), length_encode (rows v)))
      ).0

  pub sound_back : RisingRows n w labels counts
  sound_back =
      record {
        fits = λ v h. omega (arith, count_at_lem n rows v h, g.fit v h);
        ranks =
            λ v i h l.
            let k : i < length (rows v) = omega (arith, count_at_lem n rows v h) in
            omega (arith, rank_back v i h k, (plain_rising n S L O r v).below i k);
        rising =
            λ v i j h less l.
            let k : j < length (rows v) = omega (arith, count_at_lem n rows v h) in
            let m : i < length (rows v) = omega arith in
            omega (arith, rank_back v i h m, rank_back v j h k, (plain_rising n S L O r v).rise i j less k);
      }

  module _ (less : r < n) where
    -- the walk of rank r makes the rows at r + 1
    pub rows_next : (v : ℕ) → v < n → walked_rows n w S L labels counts r (hub_of O r) v ≡ row_by n S L O (suc r) v
    unfolding walked_rows
    rows_next v h = walk_out g.given.block g.given.order (rows_in w labels counts) r v less h rows_back

    full_frame : (v : ℕ) → v < n
        → kept n w S L labels counts (hub_of O r) v && leb w (get_or counts v 0) ≡ ltb w (length (row_by n S L O (suc r) v))
    unfolding kept walked_rows walk_row level_of so_far rows_in
    full_frame v h =
        let level : ℕ = level_of n w S L labels counts (hub_of O r) v in
        let answered : ℕ = so_far n w labels counts (hub_of O r) v in
        let long : get_or counts v 0 ≡ length (rows_in w labels counts v) =
        count_at_lem n rows v h ∙ ap (λ (x : Row). length x) (sym (rows_back v h)) in
        ap (λ (c : ℕ). ltb level answered && leb w c) long
        ∙ over_width r level answered w (rows_in w labels counts v)
        (omega (arith, long, count_at_lem n rows v h, g.fit v h))
        ∙ ap (λ (x : Row). ltb w (length x)) (rows_next v h)

    far_frame_lem : (v : ℕ) → v < n
        → kept n w S L labels counts (hub_of O r) v && ltb 4095 (level_of n w S L labels counts (hub_of O r) v)
        ≡ far_frame n S L O r v
    unfolding kept walked_rows walk_row level_of so_far rows_in far_frame row_by rule_row
    far_frame_lem v h =
        let level : ℕ = level_of n w S L labels counts (hub_of O r) v in
        let answered : ℕ = so_far n w labels counts (hub_of O r) v in
        kept_same r level answered (joins_to n S L (hub_of O r) v) (hubs (far 1 n) (joins_to n S L) (hub_of O) r (hub_of O r) v)
        (rows v) (λ m. ltb 4095 m) (ap (keep r level answered) (sym (rows_back v h)) ∙ rows_next v h)

    -- it has no room exactly where the rule's rows at r + 1 are over w
    walk_full : walk_fits n w S L labels counts (hub_of O r) ≡ not (full_at n w S L O r)
    unfolding walk_fits full_at
    walk_full = ap not (some_ext _ _ 0 n (λ v l h. full_frame v (omega arith)))

    -- it is too far exactly where the rule's entries of rank r are over 4,095 joins
    walk_far : walk_near n w S L labels counts (hub_of O r) ≡ not (far_at n S L O r)
    unfolding walk_near far_at
    walk_far = ap not (some_ext _ _ 0 n (λ v l h. far_frame_lem v (omega arith)))

    pub walk_is : walk_of n w S L labels counts (hub_of O r) ≡ decided (not (full_at n w S L O r)) (not (far_at n S L O r))
    unfolding walk_of
    walk_is = λ i. decided (walk_full i) (walk_far i)
