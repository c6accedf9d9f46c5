-- The row rule: `rule_row` holds exactly what the paper's words let in. A hub's joins to v are below every sum over
-- lower ranks exactly if no such sum equals them (no sum is less, by the way round); rows are made rank by rank, so
-- ranks rise.
use Prim.Native.Nat.{ℕ, zero, suc, ◌+◌, ◌≤◌, ◌<◌}
use mathlib.Core.Path.{◌≡◌, refl, sym, ap, subst, ◌∙◌}
use mathlib.Core.Logic.{◌↔◌}
use mathlib.Core.List.Memᴰ
use mathlib.Core.List.{[], ◌∷◌, ◌++◌}
use native.Mathlib.Decide.{ℕ_discrete}
use native.Mathlib.Omega.{arith}
use lib.ListN.{length, get_or, length-append, get_or-append}
use lib.Seq.{get_or_at}
use borrow.Author.Tests.{lt-ltb, le-ltb}
use Rattle.basics.specs.Places.{least}
use Rattle.basics.proofs.Laws.{by_cases, cases, lt_or_ge, cond_true, cond_false, least_most, least_le, least_ge}
use Rattle.theory.specs.Rows.{Row, In, Rule, Metric, hubs, keep, rule_row}

-- ---- keeping

pub keep_not : (r m p : ℕ) (x : Row) → p ≤ m → keep r m p x ≡ x
unfolding keep
keep_not r m p x h = cond_false (x ++ ((r, m) ∷ [])) x (le-ltb m p h)

pub keep_yes : (r m p : ℕ) (x : Row) → m < p → keep r m p x ≡ x ++ ((r, m) ∷ [])
unfolding keep
keep_yes r m p x h = cond_true (x ++ ((r, m) ∷ [])) x (lt-ltb m p h)

-- what a row has after a hub: the new entry, where it was kept, or an old one
pub keep_cases {ℓ} : {C : Type ℓ} (r m p : ℕ) (x : Row) {q j : ℕ} → In q j (keep r m p x) → (In q j x → C)
    → (m < p → q ≡ r → j ≡ m → C) → C
keep_cases r m p x {q} {j} mem old new =
    lt_or_ge m p
    (λ h.
    cases (Memᴰ.append_cases x (subst (In q j) (keep_yes r m p x h) mem)) old
    (λ one.
    let e : ◌≡◌ {A = ℕ × ℕ} (q, j) (r, m) = Memᴰ.eq_of_singleton one in
    new h (ap (λ (z : ℕ × ℕ). z.0) e) (ap (λ (z : ℕ × ℕ). z.1) e)))
    (λ h. old (subst (In q j) (keep_not r m p x h) mem))

pub keep_old : (r m p : ℕ) (x : Row) {q j : ℕ} → In q j x → In q j (keep r m p x)
keep_old r m p x {q} {j} mem =
    lt_or_ge m p
    (λ h. subst (In q j) (sym (keep_yes r m p x h)) (Memᴰ.append_left ((r, m) ∷ []) mem))
    (λ h. subst (In q j) (sym (keep_not r m p x h)) mem)

pub keep_new : (r m p : ℕ) (x : Row) → m < p → In r m (keep r m p x)
keep_new r m p x h = subst (In r m) (sym (keep_yes r m p x h)) (Memᴰ.append_right x (Memᴰ.head refl))

-- ---- rising ranks

-- the rank and the joins at place i of a row
abbrev pub rank_at : Row → ℕ → ℕ
rank_at x i = (get_or x i (0, 0)).0

abbrev pub joins_at : Row → ℕ → ℕ
joins_at x i = (get_or x i (0, 0)).1

-- ranks strictly rise and lie below k
pub record Rising (k : ℕ) (x : Row) : Type 0 where
  pub below : (i : ℕ) → i < length x → rank_at x i < k
  pub rise : (i j : ℕ) → i < j → j < length x → rank_at x i < rank_at x j

pub place_in : (x : Row) (i : ℕ) → i < length x → In (rank_at x i) (joins_at x i) x
place_in [] i h = absurd (omega arith)
place_in (e ∷ x) zero h = Memᴰ.head refl
place_in (e ∷ x) (suc i) h = Memᴰ.tail (place_in x i (omega arith))

pub in_place : (x : Row) {r m : ℕ} → In r m x → (i : ℕ) × (i < length x) × (rank_at x i ≡ r) × (joins_at x i ≡ m)
in_place [] mem = absurd (Memᴰ.not-nil mem)
in_place (e ∷ x) {r} {m} mem =
    cases (Memᴰ.cases_cons mem)
    (λ (q : ◌≡◌ {A = ℕ × ℕ} (r, m) e). (0, omega arith, ap (λ (z : ℕ × ℕ). z.0) (sym q), ap (λ (z : ℕ × ℕ). z.1) (sym q)))
    (λ later.
    let (i, h, p, q) = in_place x later in
    (suc i, omega arith, p, q))

pub rising_snoc : (r m : ℕ) (x : Row) → Rising r x → Rising (suc r) (x ++ ((r, m) ∷ []))
rising_snoc r m x s = record { below = below; rise = rise }
  where
    long : length (x ++ ((r, m) ∷ [])) ≡ length x + 1
    long = length-append x ((r, m) ∷ [])

    front : (i : ℕ) → i < length x → rank_at (x ++ ((r, m) ∷ [])) i ≡ rank_at x i
    front i h = ap (λ (z : ℕ × ℕ). z.0) (get_or-append x ((r, m) ∷ []) (0, 0) i h)

    last : (i : ℕ) → i ≡ length x → rank_at (x ++ ((r, m) ∷ [])) i ≡ r
    last i h = ap (λ (z : ℕ × ℕ). z.0) (get_or_at x (r, m) [] (0, 0) i (sym h))

    below : (i : ℕ) → i < length (x ++ ((r, m) ∷ [])) → rank_at (x ++ ((r, m) ∷ [])) i < suc r
    below i h =
        by_cases (ℕ_discrete i (length x))
        (λ e. omega (arith, last i e))
        (λ e. omega (arith, long, front i (omega (arith, long)), s.below i (omega (arith, long))))

    rise : (i j : ℕ) → i < j → j < length (x ++ ((r, m) ∷ []))
        → rank_at (x ++ ((r, m) ∷ [])) i < rank_at (x ++ ((r, m) ∷ [])) j
    rise i j h l =
        by_cases (ℕ_discrete j (length x))
        (λ e. omega (arith, last j e, front i (omega arith), s.below i (omega arith)))
        (λ e.
        let k : j < length x = omega (arith, long) in
        omega (arith, front i (omega arith), front j k, s.rise i j h k))

pub rising_more : {r k : ℕ} {x : Row} → r ≤ k → Rising r x → Rising k x
rising_more {r} {k} {x} h s = record { below = λ i l. omega (arith, s.below i l); rise = s.rise }

pub rising_keep : (r m p : ℕ) (x : Row) → Rising r x → Rising (suc r) (keep r m p x)
rising_keep r m p x s =
    lt_or_ge m p
    (λ h. subst (Rising (suc r)) (sym (keep_yes r m p x h)) (rising_snoc r m x s))
    (λ h. subst (Rising (suc r)) (sym (keep_not r m p x h)) (rising_more (omega arith) s))

-- ranks of a row by the rule strictly rise, below the stop
pub row_rising : (B : ℕ) (d : ℕ → ℕ → ℕ) (h : ℕ → ℕ) (k v : ℕ) → Rising k (rule_row B d h k v)
unfolding rule_row
row_rising B d h zero v = record { below = λ i l. absurd (omega arith); rise = λ i j g l. absurd (omega arith) }
row_rising B d h (suc r) v = rising_keep r _ _ _ (row_rising B d h r v)

-- ---- the rule

module _ {B n : ℕ} {d : ℕ → ℕ → ℕ} (h : ℕ → ℕ) (𝓜 : Metric B n d) (inside : (r : ℕ) → r < n → h r < n) where
  -- no sum over another hub is less than the distance
  pub never_less : (k s t : ℕ) → k ≤ n → s < n → t < n → d s t ≤ hubs B d h k s t
  unfolding hubs
  never_less k s t l p q =
      least_ge B k _ (d s t) (𝓜.cap s t p q)
      (λ r g. 𝓜.via s (h r) t p (inside r (omega arith)) q)

  -- the rule in the paper's words, as the comparison that makes the rows
  pub rule_lt : (r v : ℕ) → r < n → v < n → Rule B d h r v ↔ (d (h r) v < hubs B d h r (h r) v)
  unfolding hubs
  rule_lt r v p f = (there, back)
    where
      there : Rule B d h r v → d (h r) v < least B r (λ q. d (h r) (h q) + d (h q) v)
      there rule =
          least_ge B r _ (suc (d (h r) v)) rule.reach
          (λ q l.
          let g : d (h r) v ≤ d (h r) (h q) + d (h q) v = 𝓜.via (h r) (h q) v (inside r p) (inside q (omega arith)) f in
          let a : d (h r) (h q) + d (h q) v ≡ d (h r) v → ⊥ = rule.alone q l in
          omega arith)

      back : d (h r) v < least B r (λ q. d (h r) (h q) + d (h q) v) → Rule B d h r v
      back l =
          record {
            reach = omega (arith, least_most B r (λ q. d (h r) (h q) + d (h q) v));
            alone = λ q g e. omega (arith, least_le B r (λ z. d (h r) (h z) + d (h z) v) q g);
          }

  row_takes : (k v : ℕ) → k ≤ n → v < n → (r : ℕ) → r < k → Rule B d h r v → In r (d (h r) v) (rule_row B d h k v)
  unfolding rule_row
  row_takes zero v l q r g rule = absurd (omega arith)
  row_takes (suc k) v l q r g rule =
      by_cases (ℕ_discrete r k)
      (λ (e : r ≡ k).
      subst (λ (z : ℕ). In z (d (h z) v) (rule_row B d h (suc k) v)) (sym e)
      (keep_new k (d (h k) v) _ (rule_row B d h k v)
      ((rule_lt k v l q).0 (subst (λ (z : ℕ). Rule B d h z v) e rule))))
      (λ e.
      keep_old k _ _ _
      (row_takes k v (omega arith) q r (omega arith) rule))

  row_gives : (k v : ℕ) → k ≤ n → v < n → {r m : ℕ} → In r m (rule_row B d h k v)
      → (r < k) × Rule B d h r v × (m ≡ d (h r) v)
  unfolding rule_row
  row_gives zero v l q mem = absurd (Memᴰ.not-nil mem)
  row_gives (suc k) v l q {r} {m} mem =
      keep_cases k _ _ _ mem
      (λ old.
      let (a, b, c) = row_gives k v (omega arith) q old in
      (omega arith, b, c))
      (λ less e f.
      (omega arith, subst (λ (z : ℕ). Rule B d h z v) (sym e) ((rule_lt k v l q).1 less), f ∙ ap (λ (z : ℕ). d (h z) v) (sym e)))

  -- what a row holds: exactly what the rule lets in
  pub in_row : (k v : ℕ) → k ≤ n → v < n → {r m : ℕ}
      → In r m (rule_row B d h k v) ↔ ((r < k) × Rule B d h r v × (m ≡ d (h r) v))
  in_row k v l q {r} {m} =
      (row_gives k v l q, λ z. subst (λ (j : ℕ). In r j (rule_row B d h k v)) (sym z.2) (row_takes k v l q r z.0 z.1))

  -- a frame of rank below k has itself at 0 joins
  pub own_entry : 0 < B → ((r s : ℕ) → r < s → s < n → h r ≡ h s → ⊥) → (k r : ℕ) → k ≤ n → r < k
      → In r 0 (rule_row B d h k (h r))
  own_entry some once k r l g =
      let f : h r < n = inside r (omega arith) in
      let z : d (h r) (h r) ≡ 0 = 𝓜.self (h r) f in
      (in_row k (h r) l f).1 (
        g,
        record {
          reach = omega arith;
          alone = λ q p e.
              once q r p (omega arith) (sym (𝓜.apart (h r) (h q) f (inside q (omega arith)) (omega arith)));
        },
        sym z,
      )

  -- a row has no rank above its frame's own
  pub no_higher : (k q r m : ℕ) → k ≤ n → q < n → In r m (rule_row B d h k (h q)) → r ≤ q
  no_higher k q r m l p mem =
      let f : h q < n = inside q p in
      let (a, b, c) = (in_row k (h q) l f).0 mem in
      lt_or_ge q r
      (λ g. absurd (b.alone q g (omega (arith, 𝓜.self (h q) f))))
      (λ g. g)

  -- joins of a row are at most what distances are
  pub joins_most : (most : ℕ) → ((a b : ℕ) → a < n → b < n → d a b < B → d a b ≤ most)
      → (k v r m : ℕ) → k ≤ n → v < n → In r m (rule_row B d h k v) → m ≤ most
  joins_most most bound k v r m l q mem =
      let (a, b, c) = (in_row k v l q).0 mem in
      omega (arith, bound (h r) v (inside r (omega arith)) q b.reach)
