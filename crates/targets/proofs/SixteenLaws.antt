-- The laws of the sixteen counts: with the rows of all records noted by rank, a frame's row read against the table finds the
-- fewest joins to any record; and one frame more raises one count.
use Rattle.std.specs.Prelude.{Ok, Err}
use Prim.Native.Nat.{ℕ, zero, suc, ◌+◌, ◌≤◌, ◌<◌, min}
use mathlib.Core.Path.{◌≡◌, refl, sym, ap, ◌∙◌}
use mathlib.Core.List.{List, [], ◌∷◌}
use native.Mathlib.Nat.{le_antisymm}
use native.Mathlib.Numerals.{add-one}
use native.Mathlib.Omega.{arith}
use borrow.Author.Tests.{lt-ltb, le-ltb, eq-eqb, ne_eqb}
use lib.ListN.{length, get_or, set, drop, replicate, length-set, length-replicate, drop_of_length-le}
use lib.Dec.{ltb}
use lib.Seq.{drop-cons}
use Rattle.basics.specs.Places.{count, least, some, table, sum}
use Rattle.basics.proofs.Laws.{bcase, lt_or_ge, cond_true, cond_false, at_set, count_none, count_hit, count_miss, count_most, count_ext, least_most, least_le, least_ge, least_found, length_table, get_d_table, is_table, table_ext, least_ext, some_one, some_none}
use Rattle.refusal.specs.Tests.{Verdict, fine, Refusal}
use Rattle.theory.specs.Rows.{at, answer}
use Rattle.entry.specs.Entry.{rank_of, decode}
use Rattle.rows.specs.Rooms.{part_of, row_at}
use Rattle.rows.proofs.PairLaws.{sound_whole}
use Rattle.targets.specs.Inner.{noted_in, reach_of, NotedLow, RanksIn, RowKnown, RowsKnown, AllKnown, noted_rows, raised_at, RaiseIn, reached_counts}
use Rattle.targets.specs.Sixteen.{sixteen_told, counted_at, sixteen_by, sixteen_counts, sixteen_of, sixteen_tests}
use Rattle.targets.specs.Targets.{apart, joins_to, fewest_joins}
use Rattle.targets.proofs.ByRank.{noted_long, noted_at, noted_low, blank_at, blank_low, reach_least, joins_answer, row_known, part_known}
use Rattle.targets.proofs.TestLaws.{SixteenAsked, sixteen_asked}

-- ---- least values

-- the first value taken out in place of the last
least_front : (B k : ℕ) (f : ℕ → ℕ) → least B (suc k) f ≡ min (f zero) (least B k (λ i. f (suc i)))
unfolding least
least_front B zero f = refl
least_front B (suc k) f = omega (arith, least_front B k f)

-- the two minima change places
least_swap : (B n m : ℕ) (a : ℕ → ℕ) (b : ℕ → ℕ → ℕ)
    → least B n (λ r. a r + least B m (λ i. b i r)) ≡ least B m (λ i. least B n (λ r. a r + b i r))
least_swap B n m a b =
    let low : ℕ → ℕ = λ r. least B m (λ i. b i r) in
    let by_rank : ℕ → ℕ = λ r. a r + low r in
    let one : ℕ → ℕ → ℕ = λ i r. a r + b i r in
    let by-record : ℕ → ℕ = λ i. least B n (one i) in
    le_antisymm
    (least_ge B m by-record (least B n by_rank) (least_most B n by_rank)
    (λ i h.
    least_ge B n (one i) (least B n by_rank) (least_most B n by_rank)
    (λ r k. omega (arith, least_le B n by_rank r k, least_le B m (λ j. b j r) i h))))
    (least_ge B n by_rank (least B m by-record) (least_most B m by-record)
    (λ r k.
    lt_or_ge (low r) B
    (λ l.
    let (i, h, e) = least_found B m (λ j. b j r) l in
    omega (arith, least_le B m by-record i h, least_le B n (one i) r k))
    (λ g. omega (arith, least_most B m by-record))))

-- ---- the rows of all records noted

-- one turn of the loop, and its end
module _ (w : ℕ) (labels counts fs : List ℕ) where
  pub rows_turn : {noted₀ : List ℕ} (noted : List ℕ) (i : ℕ) {row next whole : List ℕ} → i < length fs
      → RowKnown w labels counts noted₀ (get_or fs i 0) → length noted ≡ length noted₀
      → noted_rows w labels counts (drop i fs) noted ≡ whole
      → row ≡ part_of w labels (get_or fs i 0) (get_or counts (get_or fs i 0) 0) → next ≡ noted_in row noted
      → (length next ≡ length noted₀) × (noted_rows w labels counts (drop (i + 1) fs) next ≡ whole)
  unfolding noted_rows
  rows_turn noted i {row} h known long same p e =
      let here : row ≡ row_at w labels counts (get_or fs i 0) = p ∙ part_known known in
      let on : noted_rows w labels counts (drop (i + 1) fs) (noted_in (row_at w labels counts (get_or fs i 0)) noted)
      ≡ noted_rows w labels counts (drop i fs) noted = rw (add-one i, drop-cons fs i 0 h) refl in (
        ap length e ∙ noted_long row noted ∙ long,
        ap (noted_rows w labels counts (drop (i + 1) fs)) (e ∙ ap (λ (x : List ℕ). noted_in x noted) here) ∙ on ∙ same,
      )

  pub rows_over : (noted : List ℕ) (i : ℕ) → length fs ≤ i → noted_rows w labels counts (drop i fs) noted ≡ noted
  unfolding noted_rows
  rows_over noted i h = ap (λ (l : List ℕ). noted_rows w labels counts l noted) (drop_of_length-le fs {i = i} h)

-- the part cut for a known row, and a table as long as its own
pub ranks_part : {w : ℕ} {labels counts noted : List ℕ} {v : ℕ} (other : List ℕ) {row : List ℕ}
    → RowKnown w labels counts noted v → length other ≡ length noted → row ≡ part_of w labels v (get_or counts v 0)
    → RanksIn other row
ranks_part other {row} known long p =
    let here = p ∙ part_known known in
    record {
      low = λ i h.
          omega
          (arith, ap (λ (x : List ℕ). rank_of (get_or x i 0)) here, known.ranks.low i (omega (arith, ap length here)));
    }

pub rows_long : (w : ℕ) (labels counts fs noted : List ℕ) → length (noted_rows w labels counts fs noted) ≡ length noted
unfolding noted_rows
rows_long w labels counts [] noted = refl
rows_long w labels counts (f ∷ fs) noted =
    rows_long w labels counts fs (noted_in (row_at w labels counts f) noted) ∙ noted_long (row_at w labels counts f) noted

pub rows_low : (w : ℕ) (labels counts fs : List ℕ) {noted : List ℕ} → NotedLow noted → NotedLow (noted_rows w labels counts fs noted)
unfolding noted_rows
rows_low w labels counts [] low = low
rows_low w labels counts (f ∷ fs) low = rows_low w labels counts fs (noted_low (row_at w labels counts f) low)

-- the joins that the row of record i has for rank r
record_at : ℕ → List ℕ → List ℕ → List ℕ → ℕ → ℕ → ℕ
record_at w labels counts fs r i = at apart (decode (row_at w labels counts (get_or fs i 0))) r

-- each rank has the least of all records' joins
rows_at : (w : ℕ) (labels counts fs noted : List ℕ) (r : ℕ) → r < length noted → NotedLow noted
    → get_or (noted_rows w labels counts fs noted) r 0
    ≡ min (least apart (length fs) (record_at w labels counts fs r)) (get_or noted r 0)
unfolding noted_rows least record_at
rows_at w labels counts [] noted r h low = omega (arith, low.most r h)
rows_at w labels counts (f ∷ fs) noted r h low =
    let row : List ℕ = row_at w labels counts f in
    let rest = rows_at w labels counts fs (noted_in row noted) r (omega (arith, noted_long row noted)) (noted_low row low) in
    let one = noted_at row noted r h (low.most r h) in
    let front = least_front apart (length fs) (record_at w labels counts (f ∷ fs) r) in
    omega arith

-- ---- behind fine tests

module _ {n w : ℕ} {labels counts fs : List ℕ} (asked : SixteenAsked n w labels counts fs) where
  pub rows_known : RowsKnown w labels counts fs (replicate 4096 apart)
  rows_known = record {
    few = asked.frames.few;
    low = blank_low;
    rows = λ i h.
        row_known (replicate 4096 apart) asked.rooms (asked.frames.low i h) (asked.sound _ (asked.frames.low i h))
        (length-replicate 4096 apart);
  }

  -- with all their rows noted
  module _ {noted : List ℕ} (e : noted ≡ noted_rows w labels counts fs (replicate 4096 apart)) where
    pub all_known : AllKnown w labels counts noted
    all_known =
        let low : NotedLow noted = rw e (rows_low w labels counts fs blank_low) in
        let long : length noted ≡ 4096 =
        ap length e ∙ rows_long w labels counts fs (replicate 4096 apart) ∙ length-replicate 4096 apart in
        record {
          few = omega (arith, asked.rooms.each, asked.rooms.sizes.frames);
          low = low;
          rows = λ v h.
              let inside : v < n = omega (arith, asked.rooms.each) in
              row_known noted asked.rooms inside (asked.sound v inside) long;
        }

    -- a frame's row finds the fewest joins to any record
    pub reach_fewest : (v : ℕ) → v < n → reach_of noted (row_at w labels counts v) ≡ fewest_joins w labels counts fs v
    unfolding fewest_joins answer record_at
    reach_fewest v h =
        let row : List ℕ = row_at w labels counts v in
        let t : ℕ → ℕ = λ r. least apart (length fs) (record_at w labels counts fs r) in
        reach_least n noted row t
        (λ r k.
        let inside : r < 4096 = omega (arith, asked.rooms.sizes.frames) in
        omega (
          arith,
          ap (λ (x : List ℕ). get_or x r 0) e,
          rows_at w labels counts fs (replicate 4096 apart) r (omega (arith, length-replicate {A = ℕ} 4096 apart)) blank_low,
          blank_at r inside,
          least_most apart (length fs) (record_at w labels counts fs r),
        ))
        (sound_whole asked.rooms h (asked.sound v h)).rank
        ∙ least_swap apart n (length fs) (at apart (decode row)) (λ i r. record_at w labels counts fs r i)
        ∙ least_ext apart (length fs) _ (joins_to w labels counts fs v)
        (λ i k.
        let low = asked.frames.low i k in
        sym (joins_answer asked.rooms fs v i h low (asked.sound v h) (asked.sound _ low)))

    -- so the counts by what is noted are the sixteen counts
    pub reached_sixteen : reached_counts w labels counts noted (length counts) ≡ sixteen_counts n w labels counts fs
    unfolding reached_counts sixteen_counts
    reached_sixteen =
        table_ext 16 _ _
        (λ i h.
        ap (count _) asked.rooms.each
        ∙ count_ext _ _ n (λ v k. ap (λ (j : ℕ). counted_at j i) (reach_fewest v k)))

-- ---- the answer

pub asked_by : (n w : ℕ) (labels counts fs : List ℕ) {verdict : Verdict} → verdict ≡ sixteen_tests n w labels counts fs
    → verdict ≡ fine → SixteenAsked n w labels counts fs
asked_by n w labels counts fs told fine = sixteen_asked n w labels counts fs (sym told ∙ fine)

-- behind fine tests
pub sixteen_fine : (n w : ℕ) (labels counts fs : List ℕ) {verdict : Verdict} {made : List ℕ} → verdict ≡ sixteen_tests n w labels counts fs
    → verdict ≡ fine → made ≡ sixteen_counts n w labels counts fs → Ok made ≡ sixteen_of n w labels counts fs
unfolding sixteen_of sixteen_by
sixteen_fine n w labels counts fs told fine e =
    ap Ok e ∙ sym (ap (λ (v : Verdict). sixteen_by v (sixteen_counts n w labels counts fs)) (sym told ∙ fine))

-- else the tests' refusal stands
pub sixteen_refused : (n w : ℕ) (labels counts fs : List ℕ) {verdict : Verdict} {r : Refusal} → verdict ≡ sixteen_tests n w labels counts fs
    → verdict ≡ Err r → Err r ≡ sixteen_of n w labels counts fs
unfolding sixteen_of sixteen_by
sixteen_refused n w labels counts fs told refused =
    sym (ap (λ (v : Verdict). sixteen_by v (sixteen_counts n w labels counts fs)) (sym told ∙ refused))

-- ---- one frame more

-- the sixteen counts of k frames, by their joins
counts_of : (ℕ → ℕ) → ℕ → List ℕ
counts_of f k = table 16 (λ i. count (λ v. counted_at (f v) i) k)

counts_long : (f : ℕ → ℕ) (k : ℕ) → length (counts_of f k) ≡ 16
unfolding counts_of
counts_long f k = length_table 16 (λ i. count (λ v. counted_at (f v) i) k)

counts_at : (f : ℕ → ℕ) (k i : ℕ) → i < 16 → get_or (counts_of f k) i 0 ≡ count (λ v. counted_at (f v) i) k
unfolding counts_of
counts_at f k i h = get_d_table 16 (λ j. count (λ v. counted_at (f v) j) k) i 0 h

raised_on : (f : ℕ → ℕ) (k : ℕ) → raised_at (counts_of f k) (f k) ≡ counts_of f (suc k)
unfolding raised_at counts_of counted_at
raised_on f k =
    let l : List ℕ = counts_of f k in
    let p : ℕ = min (f k) 15 in
    let inside : p < length l = omega (arith, counts_long f k) in
    bcase (ltb (f k) apart)
    (λ e.
    cond_true _ _ e
    ∙ is_table 0 (set l p (get_or l p 0 + 1)) 16 _
    (length-set l p _ ∙ counts_long f k)
    (λ i h.
    at_set l p i _ 0 _ inside
    (λ q.
    let hit : count (λ v. counted_at (f v) i) (suc k) ≡ suc (count (λ v. counted_at (f v) i) k) =
    count_hit (λ v. counted_at (f v) i) k (rw (e, eq-eqb p i (sym q)) refl) in
    let here : get_or l p 0 ≡ count (λ v. counted_at (f v) i) k = ap (λ (j : ℕ). get_or l j 0) (sym q) ∙ counts_at f k i h in
    omega arith)
    (λ q.
    counts_at f k i h ∙ sym (count_miss (λ v. counted_at (f v) i) k (rw (e, ne_eqb p i (λ s. q (sym s))) refl)))))
    (λ e.
    cond_false _ _ e
    ∙ table_ext 16 _ _ (λ i h. sym (count_miss (λ v. counted_at (f v) i) k (rw e refl))))

-- ---- the loops over the frames

pub raised : (sixteen : List ℕ) (joins : ℕ) {i : ℕ} → joins < apart → i ≡ min joins 15
    → set sixteen i (get_or sixteen i 0 + 1) ≡ raised_at sixteen joins
unfolding raised_at
raised sixteen joins h e =
    ap (λ (k : ℕ). set sixteen k (get_or sixteen k 0 + 1)) e ∙ sym (cond_true _ _ (lt-ltb joins apart h))

pub not_raised : (sixteen : List ℕ) (joins : ℕ) → apart ≤ joins → sixteen ≡ raised_at sixteen joins
unfolding raised_at
not_raised sixteen joins h = sym (cond_false _ _ (le-ltb joins apart h))

module _ (w : ℕ) (labels counts noted : List ℕ) where
  pub none_reached : replicate 16 0 ≡ reached_counts w labels counts noted 0
  unfolding reached_counts table count
  none_reached = refl

  pub raise_in : (k : ℕ) {sixteen : List ℕ} → k ≤ 4096 → sixteen ≡ reached_counts w labels counts noted k → RaiseIn sixteen
  unfolding reached_counts counts_of
  raise_in k {sixteen} h e =
      let joins : ℕ → ℕ = λ v. reach_of noted (row_at w labels counts v) in
      record {
        long = ap length e ∙ counts_long joins k;
        low = λ i l.
            omega
            (arith, ap (λ (x : List ℕ). get_or x i 0) e, counts_at joins k i l, count_most (λ v. counted_at (joins v) i) k);
      }

  pub reached_turn : (k : ℕ) {sixteen next row : List ℕ} {joins : ℕ} → RowKnown w labels counts noted k
      → sixteen ≡ reached_counts w labels counts noted k → row ≡ part_of w labels k (get_or counts k 0)
      → joins ≡ reach_of noted row → next ≡ raised_at sixteen joins → next ≡ reached_counts w labels counts noted (k + 1)
  unfolding reached_counts counts_of
  reached_turn k known same p q e =
      e
      ∙ (λ i. raised_at (same i) ((q ∙ ap (reach_of noted) (p ∙ part_known known)) i))
      ∙ raised_on (λ v. reach_of noted (row_at w labels counts v)) k
      ∙ ap (reached_counts w labels counts noted) (sym (add-one k))

-- ---- they add up

sum_set : (l : List ℕ) (i : ℕ) → i < length l → sum (set l i (get_or l i 0 + 1)) ≡ suc (sum l)
unfolding sum
sum_set [] i h = absurd (omega arith)
sum_set (x ∷ l) zero h = omega arith
sum_set (x ∷ l) (suc i) h = omega (arith, sum_set l i (omega arith))

none_sum : (f : ℕ → ℕ) → sum (counts_of f zero) ≡ 0
unfolding counts_of table count sum
none_sum f = refl

sum_counts : (f : ℕ → ℕ) (k : ℕ) → sum (counts_of f k) ≡ count (λ v. ltb (f v) apart) k
sum_counts f zero = none_sum f ∙ sym (count_none (λ v. ltb (f v) apart))
sum_counts f (suc k) =
    let l : List ℕ = counts_of f k in
    let rest : sum l ≡ count (λ v. ltb (f v) apart) k = sum_counts f k in
    let on : sum (counts_of f (suc k)) ≡ sum (raised_at l (f k)) = ap sum (sym (raised_on f k)) in
    lt_or_ge (f k) apart
    (λ h.
    on ∙ ap sum (sym (raised l (f k) h refl)) ∙ sum_set l (min (f k) 15) (omega (arith, counts_long f k)) ∙ ap suc rest
    ∙ sym (count_hit (λ v. ltb (f v) apart) k (lt-ltb (f k) apart h)))
    (λ h.
    on ∙ ap sum (sym (not_raised l (f k) h)) ∙ rest ∙ sym (count_miss (λ v. ltb (f v) apart) k (le-ltb (f k) apart h)))

-- to the frames that some target reaches
pub sixteen_sum : (n w : ℕ) (labels counts fs : List ℕ)
    → sum (sixteen_counts n w labels counts fs) ≡ count (λ v. ltb (fewest_joins w labels counts fs v) apart) n
unfolding sixteen_counts counts_of
sixteen_sum n w labels counts fs = sum_counts (fewest_joins w labels counts fs) n

-- a least value below the most is one of those below it
reached_some : (most k : ℕ) (f : ℕ → ℕ) → ltb (least most k f) most ≡ some (λ i. ltb (f i) most) 0 k
reached_some most k f =
    lt_or_ge (least most k f) most
    (λ h.
    let (i, b, e) = least_found most k f h in
    lt-ltb (least most k f) most h
    ∙ sym (some_one (λ i. ltb (f i) most) 0 k i (omega arith) (omega arith) (lt-ltb (f i) most (omega arith))))
    (λ h.
    le-ltb (least most k f) most h
    ∙ sym (some_none (λ i. ltb (f i) most) 0 k (λ i _ l. le-ltb (f i) most (omega (arith, least_le most k f i (omega arith))))))

-- behind fine tests the counts handed back add up to the frames with joins to some record
pub sixteen_reached : (n w : ℕ) (labels counts fs : List ℕ) → sixteen_tests n w labels counts fs ≡ fine
    → sum (sixteen_told (sixteen_of n w labels counts fs)).values
    ≡ count (λ v. some (λ i. ltb (joins_to w labels counts fs v i) apart) 0 (length fs)) n
unfolding sixteen_of sixteen_by sixteen_told fewest_joins
sixteen_reached n w labels counts fs fine =
    ap (λ (v : Verdict). sum (sixteen_told (sixteen_by v (sixteen_counts n w labels counts fs))).values) fine
    ∙ sixteen_sum n w labels counts fs
    ∙ count_ext _ _ n (λ v h. reached_some apart (length fs) (joins_to w labels counts fs v))
