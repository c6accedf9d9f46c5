-- The order's test: what a pass over the ranks keeps, that sizes and lengths tested first leave the test itself, and that
-- the test is passed exactly by each frame once.
use Rattle.std.specs.Prelude.{Err}
use Prim.Native.Nat.{ℕ, ◌+◌, ◌-◌, ◌≤◌, ◌<◌}
use mathlib.Core.Path.{◌≡◌, refl, sym, ap, ◌∙◌}
use mathlib.Core.Bool.{Bool, true, false}
use mathlib.Core.List.{List}
use native.Mathlib.Omega.{arith}
use native.Mathlib.Nat.{sub-zero}
use lib.ListN.{length, get_or, set, replicate, length-set, length-replicate, get_or-replicate}
use lib.Dec.{leb}
use borrow.Author.Tests.{le-leb, lt-leb, eq-eqb, ne_eqb, leb-false}
use Rattle.basics.specs.Places.{first, stands}
use Rattle.basics.proofs.Laws.{not_both, either_false, either_left, either_right, neither, first_here, first_step, first_over, stands_at, stands_not, stands_none, stands_other, at_set}
use Rattle.refusal.specs.Numbers.{SIZE, LENGTH, ORDER}
use Rattle.refusal.specs.Tests.{refusal, fine}
use Rattle.refusal.proofs.Laws.{test_fine, test_refused, after_fine, after_refused, lowest_fine, lowest_refused, lowest_none, none_lowest}
use Rattle.theory.specs.Links.{Order, hub_of}
use Rattle.refusal.specs.Sizes.{frames_fit}
use Rattle.refusal.proofs.SizeLaws.{frames_fit_lem}
use Rattle.links.specs.Order.{faulty_rank, order_test, check_order}
use Rattle.links.specs.Inner.{Seen}

-- ---- sizes and lengths

-- where sizes and lengths fit, check order is its own test
pub order_alone : (n : ℕ) (O : List ℕ) → 1 ≤ n → n ≤ 4096 → length O ≡ n → check_order n O ≡ order_test n O
unfolding check_order
order_alone n O one most long =
    after_fine _ (test_fine _ _ (frames_fit_lem n one most)) ∙ after_fine _ (test_fine _ _ (eq-eqb (length O) n long))

pub order_unfit : (n : ℕ) (O : List ℕ) → frames_fit n ≡ false → check_order n O ≡ Err (refusal SIZE 0)
unfolding check_order
order_unfit n O e = after_refused _ (test_refused _ _ e)

pub order_length : (n : ℕ) (O : List ℕ) → frames_fit n ≡ true → (length O ≡ n → ⊥) → check_order n O ≡ Err (refusal LENGTH 0)
unfolding check_order
order_length n O fits other =
    after_fine _ (test_fine _ _ fits)
    ∙ after_refused _ (test_refused _ _ (ne_eqb (length O) n other))

-- ---- one pass over the ranks

module _ (n : ℕ) (f : ℕ → ℕ) where
  pub rank_out : (r : ℕ) → n ≤ f r → faulty_rank n f r ≡ true
  unfolding faulty_rank
  rank_out r h = either_left _ _ (le-leb n (f r) h)

  pub rank_again : (r : ℕ) → stands f r (f r) ≡ true → faulty_rank n f r ≡ true
  unfolding faulty_rank
  rank_again r h = either_right (leb n (f r)) _ h

  pub rank_sound : (r : ℕ) → f r < n → stands f r (f r) ≡ false → faulty_rank n f r ≡ false
  unfolding faulty_rank
  rank_sound r h k = neither _ _ (lt-leb n (f r) h) k

  pub sound_inside : (r : ℕ) → faulty_rank n f r ≡ false → f r < n
  unfolding faulty_rank
  sound_inside r e = leb-false n (f r) (either_false _ _ e).0

  pub sound_new : (r : ℕ) → faulty_rank n f r ≡ false → stands f r (f r) ≡ false
  unfolding faulty_rank
  sound_new r e = (either_false (leb n (f r)) _ e).1

-- no frame seen yet
pub seen_none : (f : ℕ → ℕ) → Seen f (replicate 4096 false) 0
seen_none f = record {
  long = length-replicate 4096 false;
  has = λ v small. get_or-replicate 4096 v false false small ∙ sym (stands_none f v);
}

module _ {f : ℕ → ℕ} {seen : List Bool} {r v : ℕ} (s : Seen f seen r) (e : v ≡ f r) (small : v < 4096) where
  -- what the flags say of the next frame
  pub seen_says : {b : Bool} → get_or seen v false ≡ b → stands f r (f r) ≡ b
  seen_says q = ap (stands f r) (sym e) ∙ sym (s.has v small) ∙ q

  -- it is seen from now on
  pub seen_on : Seen f (set seen v true) (r + 1)
  seen_on = record {
    long = length-set seen v true ∙ s.long;
    has = λ u low.
        at_set seen v u true false (stands f (r + 1) u) (omega (arith, s.long))
        (λ q. sym (stands_at f (r + 1) r (omega arith) (sym (q ∙ e))))
        (λ q. s.has u low ∙ sym (stands_other f r u (λ i. q (i ∙ sym e))));
  }

-- what the pass keeps: the frames seen are those that stand below rank r, and the lowest faulty rank lies from r on
pub record Passed (n : ℕ) (O : List ℕ) (seen : List Bool) (r : ℕ) : Type 0 where
  pub upto : r ≤ n
  pub flags : Seen (hub_of O) seen r
  pub rest : first (faulty_rank n (hub_of O)) r (n - r) ≡ first (faulty_rank n (hub_of O)) 0 n

module _ {n : ℕ} {O : List ℕ} {seen : List Bool} {r : ℕ} (s : Passed n O seen r) where
  -- a faulty rank is the lowest
  pub passed_stop : r < n → faulty_rank n (hub_of O) r ≡ true → order_test n O ≡ Err (refusal ORDER r)
  unfolding order_test
  passed_stop h bad = lowest_refused _ n ORDER (sym (first_here _ r n h bad) ∙ s.rest) (λ e. omega arith)

  -- a frame seen before makes a faulty rank
  pub passed_twice : n ≤ 4096 → r < n → hub_of O r < n → get_or seen (hub_of O r) false ≡ true
      → order_test n O ≡ Err (refusal ORDER r)
  passed_twice most h low old =
      passed_stop h (rank_again n (hub_of O) r (seen_says s.flags refl (omega arith) old))

  -- a sound rank is passed, and its frame is seen from now on
  pub passed_on : n ≤ 4096 → r < n → hub_of O r < n → get_or seen (hub_of O r) false ≡ false
      → Passed n O (set seen (hub_of O r) true) (r + 1)
  passed_on most h low new = record {
    upto = omega arith;
    flags = seen_on s.flags refl (omega arith);
    rest =
        first_step (faulty_rank n (hub_of O)) r n h
        (rank_sound n (hub_of O) r low (seen_says s.flags refl (omega arith) new))
        ∙ s.rest;
  }

  -- all ranks passed
  pub passed_end : n ≤ r → order_test n O ≡ fine
  unfolding order_test
  passed_end h = lowest_fine _ n ORDER (sym (first_over _ r n h) ∙ s.rest) (omega (arith, s.upto))

-- no rank passed yet
pub passed_first : (n : ℕ) (O : List ℕ) → Passed n O (replicate 4096 false) 0
passed_first n O = record { upto = omega arith; flags = seen_none (hub_of O); rest = rw sub-zero refl }

-- ---- a passed test

pub order_sound : (n : ℕ) (O : List ℕ) → order_test n O ≡ fine → length O ≡ n → Order n O
unfolding order_test
order_sound n O fine long =
    let f : ℕ → ℕ = hub_of O in
    let sound : (r : ℕ) → r < n → faulty_rank n f r ≡ false = lowest_none (faulty_rank n f) n ORDER fine in
    record {
      long = long;
      inside = λ r h. sound_inside n f r (sound r h);
      once = λ r s h k e. not_both (stands_at f s r h e) (sound_new n f s (sound s k));
    }

-- an order passes its test
pub order_passes : (n : ℕ) (O : List ℕ) → Order n O → order_test n O ≡ fine
unfolding order_test
order_passes n O o =
    let f : ℕ → ℕ = hub_of O in
    none_lowest (faulty_rank n f) n ORDER
    (λ r h. rank_sound n f r (o.inside r h) (stands_not f r (f r) (λ j l. o.once j r l h)))

-- and, where n fits, check order
pub order_whole : (n : ℕ) (O : List ℕ) → Order n O → 1 ≤ n → n ≤ 4096 → check_order n O ≡ fine
order_whole n O o one most = order_alone n O one most o.long ∙ order_passes n O o
