-- A walk with every frame of its queue done is theory's finished walk, so its levels are the level-by-level ones, and the
-- met room holds the marks that the definition says.
use Prim.Native.Nat.{ℕ, ◌+◌, ◌-◌, ◌≤◌, ◌<◌}
use mathlib.Core.Path.{◌≡◌, sym, ap, ◌∙◌}
use mathlib.Core.Logic.{◌⊎◌}
use mathlib.Core.Bool.{Bool, cond}
use mathlib.Core.List.{List}
use native.Mathlib.Omega.{arith}
use lib.ListN.{get_or}
use lib.Dec.{leb, ltb}
use borrow.Author.Tests.{lt-ltb, le-ltb, leb-true, leb-false}
use Rattle.basics.specs.Places.{table}
use Rattle.basics.proofs.Laws.{bcase, cases, lt_or_ge, cond_true, cond_false, is_table}
use Rattle.theory.specs.Links.{Block, Link}
use Rattle.theory.specs.Plain.{ones, joined}
use Rattle.theory.specs.Walk.{Met, levels}
use Rattle.theory.proofs.DistPlain.{joined_link, link_joined}
use Rattle.theory.proofs.Levels.{one_each, met_levels}
use Rattle.walk.specs.Inner.{mark, Bfs, Low, Kept, Dropped, met_at}
use Rattle.walk.proofs.RoomMarks.{mark_yes, mark_drop, mark_none}

-- the level that a met room holds for v, and B where v is not met
unfoldable pub level_in : ℕ → List ℕ → ℕ → ℕ
level_in B M v = cond (ltb 0 (get_or M v 0)) (met_at M v - 1) B

module _ {n : ℕ} {S L : List ℕ} (block : Block n 1 S L ones) {drop : ℕ → ℕ → Bool} {hub : ℕ} (inside : hub < n)
    {M Q : List ℕ} {tail : ℕ} (b : Bfs n S L drop hub M Q tail tail) (B : ℕ) (above : n < B) (A : ℕ → ℕ)
    (capped : (u : ℕ) → A u ≤ B)
    (test : (u level : ℕ) → u < n → level < n → drop u level ≡ leb (A u) level) where
  not_met : (v : ℕ) → get_or M v 0 ≡ 0 → level_in B M v ≡ B
  unfolding level_in
  not_met v e = cond_false _ _ (le-ltb 0 (get_or M v 0) (omega arith))

  is_met : (v : ℕ) → 0 < get_or M v 0 → level_in B M v ≡ met_at M v - 1
  unfolding level_in
  is_met v m = cond_true _ _ (lt-ltb 0 (get_or M v 0) m)

  -- a frame that is met stands in the queue and is done; its level is below n
  record Place (v : ℕ) : Type 0 where
    at : ℕ
    before : at < tail
    here : get_or Q at 0 ≡ v
    level : level_in B M v + 1 ≡ met_at M v
    low : level_in B M v < n
    small : get_or M v 0 < 131072
    done : Kept S L drop M v ⊎ Dropped drop M v

  place : (v : ℕ) → v < n → 0 < get_or M v 0 → Place v
  place v h m =
      let (i, p, q) = b.line.all v (omega (arith, b.long)) m in
      let one : 1 ≤ met_at M v = rw q at (b.least i p) in
      let most : met_at M v ≤ i + 1 = rw q at (b.short i p) in
      record {
        at = i;
        before = p;
        here = q;
        level = omega (arith, is_met v m);
        low = omega (arith, is_met v m, b.line.few, b.long);
        small = rw q at (b.small i p);
        done = rw q at (b.done i p);
      }

  at_frame {ℓ} : {C : Type ℓ} (v : ℕ) → v < n → (get_or M v 0 ≡ 0 → level_in B M v ≡ B → C) → (0 < get_or M v 0 → Place v → C) → C
  at_frame v h out met =
      lt_or_ge 0 (get_or M v 0)
      (λ m. met m (place v h m))
      (λ z.
      let e : get_or M v 0 ≡ 0 = omega arith in
      out e (not_met v e))

  -- the drop test of a met frame is by its level, so kept is below the answer, and dropped is not
  by_level : (v : ℕ) → v < n → Place v → drop v (met_at M v - 1) ≡ leb (A v) (level_in B M v)
  by_level v h p =
      let l : met_at M v - 1 ≡ level_in B M v = omega (arith, p.level) in
      ap (drop v) l ∙ test v (level_in B M v) h p.low

  kept_below : (v : ℕ) → v < n → Place v → Kept S L drop M v → level_in B M v < A v
  kept_below v h p k = leb-false (A v) (level_in B M v) (sym (by_level v h p) ∙ k.free)

  dropped_above : (v : ℕ) → v < n → Place v → Dropped drop M v → A v ≤ level_in B M v
  dropped_above v h p d = leb-true (A v) (level_in B M v) (sym (by_level v h p) ∙ d.found)

  cap : (v : ℕ) → v < n → level_in B M v ≤ B
  cap v h = at_frame v h (λ e o. omega arith) (λ m p. omega (arith, p.low))

  on : (u v : ℕ) → u < n → v < n → level_in B M u < A u → level_in B M v ≤ level_in B M u + one_each B (joined S L) u v
  on u v p q below =
      bcase (joined S L u v)
      (λ j.
      let one : one_each B (joined S L) u v ≡ 1 = cond_true 1 B j in
      at_frame u p
      (λ e o. omega (arith, cap v q))
      (λ m place-u.
      cases place-u.done
      (λ k.
      let (w, l) = joined_link {S = S} {L = L} ones u v j in
      let link : Link S L ones u v 1 = rw (sym l.costs) at l in
      let place-v : Place v = place v q (k.met_all v link) in
      omega (arith, k.next v link, place-u.level, place-v.level))
      (λ d. absurd (omega (arith, dropped_above u p place-u d)))))
      (λ j. omega (arith, cap v q, cond_false {A = ℕ} 1 B j))

  from : (v : ℕ) → v < n → (v ≡ hub → ⊥) → level_in B M v < B
      → (u : ℕ) × (u < n) × (level_in B M u < A u) × (level_in B M v ≡ level_in B M u + one_each B (joined S L) u v)
  from v h other met =
      at_frame v h
      (λ e o. absurd (omega arith))
      (λ m pv.
      cases (b.reason pv.at pv.before)
      (λ q. absurd (other (sym pv.here ∙ q)))
      (λ r.
      let u : ℕ = get_or Q r.place 0 in
      let low : u < n = omega (arith, b.line.low r.place r.before, b.long) in
      let pu : Place u = place u low (b.line.is_met r.place r.before) in
      let link : Link S L ones u v 1 = rw pv.here at r.link in
      let next : met_at M v ≡ met_at M u + 1 = rw pv.here at r.met_at in
      let one : one_each B (joined S L) u v ≡ 1 = cond_true 1 B (link_joined block low link) in
      cases pu.done
      (λ k. (u, low, kept_below u low pu k, omega (arith, pu.level, pv.level)))
      (λ d. absurd (omega (arith, r.kept, d.over)))))

  pub bfs_met : Met B n (one_each B (joined S L)) A hub (level_in B M)
  bfs_met =
      let first : 0 < get_or M hub 0 = rw b.first at (b.line.is_met 0 b.some) in
      record {
        cap = cap;
        start = omega (arith, is_met hub first, b.start);
        on = on;
        from = from;
      }

  -- the met room, place by place
  room_at : (v : ℕ) → v < n → get_or M v 0 ≡ mark B (levels B n (joined S L) A hub n v) (A v)
  room_at v h =
      let same : level_in B M v ≡ levels B n (joined S L) A hub n v =
      met_levels B n (joined S L) A hub inside above (level_in B M) bfs_met v h in
      rw (← same)
      (at_frame v h
      (λ e o. e ∙ sym (mark_none B (level_in B M v) (A v) (omega arith)))
      (λ m p.
      let low : level_in B M v < B = omega (arith, p.low) in
      cases p.done
      (λ k. omega (arith, mark_yes B (level_in B M v) (A v) low (kept_below v h p k), p.level, k.plain))
      (λ d. omega (arith, mark_drop B (level_in B M v) (A v) low (dropped_above v h p d), p.level, d.over, p.small))))

  pub bfs_room : M ≡ table n (λ v. mark B (levels B n (joined S L) A hub n v) (A v))
  bfs_room = is_table 0 M n (λ v. mark B (levels B n (joined S L) A hub n v) (A v)) b.long room_at

-- level j needs j frames before it in the queue
pub bfs_low : {n : ℕ} {S L : List ℕ} {drop : ℕ → ℕ → Bool} {hub : ℕ} {M Q : List ℕ} {tail : ℕ} → Bfs n S L drop hub M Q tail tail → Low M tail
bfs_low {M = M} b =
    record {
      mark = λ v h plain.
          lt_or_ge 0 (get_or M v 0)
          (λ m.
          let (i, p, q) = b.line.all v h m in
          let short : met_at M v ≤ i + 1 = rw q at (b.short i p) in
          omega arith)
          (λ z. omega arith);
    }
