-- Demand 3's last clause: no entry is spare. Without the entry (r, m) of v the pair (hub of r, v) loses the sum that gave
-- its distance: the hub's row has no higher rank, rank r itself is gone, and by the rule every lower rank gives more.
use Prim.Native.Nat.{ℕ, suc, ◌+◌, ◌≤◌, ◌<◌}
use mathlib.Core.Path.{◌≡◌, refl, sym, ap, subst, ◌∙◌}
use mathlib.Core.List.Memᴰ
use mathlib.Core.List.{[], ◌∷◌, ◌++◌}
use native.Mathlib.Decide.{ℕ_discrete}
use native.Mathlib.Omega.{arith}
use lib.ListN.{length, length-append, get_or-append}
use lib.Seq.{get_or-append-add, get_or-append_seam}
use borrow.Author.Tests.{eq-eqb, ne_eqb}
use Rattle.basics.proofs.Laws.{by_cases, cases, lt_or_ge, cond_true, cond_false}
use Rattle.theory.specs.Distance.{said}
use Rattle.theory.specs.Rows.{Row, In, Rule, Metric, at, answer, rule_row, instead}
use Rattle.theory.proofs.Rule.{Rising, rank_at, in_place, row_rising, in_row, no_higher}
use Rattle.theory.proofs.Answer.{at_in, at_rule, answer_ge}
use Rattle.theory.proofs.DistLeast.{said_joins, said_is}
use Rattle.theory.proofs.Demand.{hub_count}

-- a row with an entry taken out has no more for any rank
at_drop : (B : ℕ) (xs : Row) (e : ℕ × ℕ) (ys : Row) (q : ℕ) → at B (xs ++ (e ∷ ys)) q ≤ at B (xs ++ ys) q
unfolding at
at_drop B [] e ys q = omega arith
at_drop B (x ∷ xs) e ys q = omega (arith, at_drop B xs e ys q)

in_drop : (xs : Row) (e : ℕ × ℕ) (ys : Row) {r m : ℕ} → In r m (xs ++ ys) → In r m (xs ++ (e ∷ ys))
in_drop xs e ys mem =
    cases (Memᴰ.append_cases xs mem) (Memᴰ.append_left (e ∷ ys)) (λ later. Memᴰ.append_right xs (Memᴰ.tail later))

-- ranks rise, so the entry's rank is in no other place
gone : {k : ℕ} (xs : Row) (r m : ℕ) (ys : Row) {j : ℕ} → Rising k (xs ++ ((r, m) ∷ ys)) → In r j (xs ++ ys) → ⊥
gone {k} xs r m ys {j} s mem =
    let x : Row = xs ++ ((r, m) ∷ ys) in
    let long : length x ≡ length xs + suc (length ys) = length-append xs ((r, m) ∷ ys) in
    let here : rank_at x (length xs) ≡ r = ap (λ (z : ℕ × ℕ). z.0) (get_or-append_seam xs (r, m) ys (0, 0)) in
    cases (Memᴰ.append_cases xs mem)
    (λ before.
    let (i, l, p, q) = in_place xs before in
    let there : rank_at x i ≡ rank_at xs i = ap (λ (z : ℕ × ℕ). z.0) (get_or-append xs ((r, m) ∷ ys) (0, 0) i l) in
    omega (arith, s.rise i (length xs) l (omega arith)))
    (λ behind.
    let (i, l, p, q) = in_place ys behind in
    let there : rank_at x (length xs + suc i) ≡ rank_at ys i =
    ap (λ (z : ℕ × ℕ). z.0) (get_or-append-add xs ((r, m) ∷ ys) (suc i) (0, 0)) in
    omega (arith, s.rise (length xs) (length xs + suc i) (omega arith) (omega arith)))

pub instead_at : (R : ℕ → Row) (v : ℕ) (x : Row) (u : ℕ) → u ≡ v → instead R v x u ≡ x
unfolding instead
instead_at R v x u e = cond_true x (R u) (eq-eqb u v e)

pub instead_not : (R : ℕ → Row) (v : ℕ) (x : Row) (u : ℕ) → (u ≡ v → ⊥) → instead R v x u ≡ R u
unfolding instead
instead_not R v x u e = cond_false x (R u) (ne_eqb u v e)

-- a number and a greater one say different counts
said_other : (B a b : ℕ) → a < B → a < b → said B a ≡ said B b → ⊥
said_other B a b h l e = omega (arith, (said_is B b a (sym e ∙ said_joins B a h)).0)

module _ {B n : ℕ} {d : ℕ → ℕ → ℕ} (h : ℕ → ℕ) (𝓜 : Metric B n d) (inside : (r : ℕ) → r < n → h r < n) (k v : ℕ)
    (upto : k ≤ n) (frame : v < n) where
  -- without the entry, and with any row of the hub that has no more than its own
  more : (xs : Row) (r m : ℕ) (ys : Row) → rule_row B d h k v ≡ xs ++ ((r, m) ∷ ys) → (x : Row)
      → ((q : ℕ) → at B (rule_row B d h k (h r)) q ≤ at B x q) → r < k → Rule B d h r v
      → d (h r) v < answer B n x (xs ++ ys)
  more xs r m ys split x over g rule =
      let f : h r < n = inside r (omega arith) in
      answer_ge B n x (xs ++ ys) (suc (d (h r) v)) rule.reach
      (λ q l.
      lt_or_ge (at B (xs ++ ys) q) B
      (λ a.
      lt_or_ge (at B x q) B
      (λ b.
      let mine : In q (at B (xs ++ ys) q) (xs ++ ys) = at_in B (xs ++ ys) q a in
      let (i, other, e) = (in_row h 𝓜 inside k v upto frame).0 (subst (In q (at B (xs ++ ys) q)) (sym split) (in_drop xs (r, m) ys mine)) in
      let low : at B (rule_row B d h k (h r)) q < B = omega (arith, over q) in
      let (j, same) = at_rule h 𝓜 inside k (h r) q upto f low in
      let lower : q ≤ r = no_higher h 𝓜 inside k r q _ upto (omega arith) (at_in B (rule_row B d h k (h r)) q low) in
      let apart : q ≡ r → ⊥ =
      λ z.
      gone xs r m ys (subst (Rising k) split (row_rising B d h k v)) (subst (λ (y : ℕ). In y (at B (xs ++ ys) q) (xs ++ ys)) z mine) in
      let alone : d (h r) (h q) + d (h q) v ≡ d (h r) v → ⊥ = rule.alone q (omega arith) in
      let hub : h q < n = inside q l in
      omega (arith, 𝓜.via (h r) (h q) v f hub frame, 𝓜.swap (h r) (h q) f hub, over q))
      (λ b. omega (arith, rule.reach)))
      (λ a. omega (arith, rule.reach)))

  -- no entry is spare: without it, the pair of its hub and its frame (the same frame, it may be) is answered otherwise
  pub spare : (xs : Row) (r m : ℕ) (ys : Row) → rule_row B d h k v ≡ xs ++ ((r, m) ∷ ys)
      → said B (answer B n (rule_row B d h k (h r)) (rule_row B d h k v))
      ≡ said B (answer B n (instead (rule_row B d h k) v (xs ++ ys) (h r)) (instead (rule_row B d h k) v (xs ++ ys) v)) → ⊥
  spare xs r m ys split =
      let R : ℕ → Row = rule_row B d h k in
      let mem : In r m (R v) = subst (In r m) (sym split) (Memᴰ.append_right xs (Memᴰ.head refl)) in
      let (g, rule, e) = (in_row h 𝓜 inside k v upto frame).0 mem in
      let now : answer B n (R (h r)) (R v) ≡ d (h r) v = hub_count h 𝓜 inside k r v upto g frame in
      let without : Row = xs ++ ys in
      let over : (q : ℕ) → at B (R (h r)) q ≤ at B (instead R v without (h r)) q =
      λ q.
      by_cases (ℕ_discrete (h r) v)
      (λ (same : h r ≡ v).
      rw (instead_at R v without (h r) same, same, split) (at_drop B xs (r, m) ys q))
      (λ other. rw (instead_not R v without (h r) other) (omega arith)) in
      let then : d (h r) v < answer B n (instead R v without (h r)) without = more xs r m ys split (instead R v without (h r)) over g rule in
      rw (instead_at R v without v refl)
      (said_other B (answer B n (R (h r)) (R v)) (answer B n (instead R v without (h r)) without) (omega (arith, rule.reach)) (omega arith))
