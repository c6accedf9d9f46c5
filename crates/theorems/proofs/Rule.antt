-- The rows that rooms hold are exactly the row rule's, in chains: d(a,b) is the least number of links of a chain from a to b.
use Prim.Native.Nat.{ℕ, ◌<◌}
use mathlib.Core.Path.{◌≡◌, sym, subst, ◌∙◌}
use mathlib.Core.Logic.{◌↔◌}
use mathlib.Core.List.{List}
use native.Mathlib.Omega.{arith}
use Rattle.theory.specs.Links.{Block, hub_of}
use Rattle.theory.specs.Chains.{joins, Least}
use Rattle.theory.specs.Distance.{far}
use Rattle.theory.specs.Rows.{In}
use Rattle.theory.specs.Plain.{ones, joins_to}
use Rattle.theory.proofs.DistLeast.{least_one, said_joins, said_is}
use Rattle.theory.proofs.DistPlain.{joins_is}
use Rattle.theory.proofs.Plain.{plain_in_row}
use Rattle.entry.specs.Entry.{decode}
use Rattle.rows.specs.Rooms.{row_at}
use Rattle.theorems.specs.Demands.{Joins, RowRule}
use Rattle.theorems.proofs.Held.{Held}

module _ {n : ℕ} {S L : List ℕ} (block : Block n 1 S L ones) (a b : ℕ) (p : a < n) where
  -- a distance below infinity is the least number of links
  to_chains : joins_to n S L a b < far 1 n → Least (Joins S L a b) (joins (joins_to n S L a b))
  to_chains h = subst (Least (Joins S L a b)) (said_joins (far 1 n) (joins_to n S L a b) h) (joins_is block a b p)

  -- the least number of links is the distance
  from_chains : (m : ℕ) → Least (Joins S L a b) (joins m) → (joins_to n S L a b ≡ m) × (joins_to n S L a b < far 1 n)
  from_chains m l = said_is (far 1 n) (joins_to n S L a b) m (least_one (Joins S L a b) _ (joins m) (joins_is block a b p) l)

module _ {n w k : ℕ} {S L O labels counts : List ℕ} (h : Held n w k S L O labels counts) where
  pub held_rule : (v : ℕ) → v < n → (r m : ℕ) → In r m (decode (row_at w labels counts v)) ↔ RowRule S L O k v r m
  held_rule v p r m = (there, back)
    where
      hub : (q : ℕ) → q < k → hub_of O q < n
      hub q g = h.order.inside q (omega (arith, h.stop))

      there : In r m (decode (row_at w labels counts v)) → RowRule S L O k v r m
      there mem =
          let (g, rule, e) = (plain_in_row h.block h.order k v h.stop p).0 (subst (In r m) (h.rows v p) mem) in
          record {
            used = g;
            reach = subst (λ (j : ℕ). Least (Joins S L (hub_of O r) v) (joins j)) (sym e)
                (to_chains h.block (hub_of O r) v (hub r g) rule.reach);
            alone = λ q a b l x y f.
                let (one, _) = from_chains h.block (hub_of O r) (hub_of O q) (hub r g) a x in
                let (two, _) = from_chains h.block (hub_of O q) v (hub q (omega arith)) b y in
                rule.alone q l (omega arith);
          }

      back : RowRule S L O k v r m → In r m (decode (row_at w labels counts v))
      back c =
          let g : r < k = c.used in
          let (e, less) = from_chains h.block (hub_of O r) v (hub r g) m c.reach in
          subst (In r m) (sym (h.rows v p))
          ((plain_in_row h.block h.order k v h.stop p).1 (
            g,
            record {
              reach = less;
              alone = λ q l f.
                  c.alone q (joins_to n S L (hub_of O r) (hub_of O q)) (joins_to n S L (hub_of O q) v) l
                  (to_chains h.block (hub_of O r) (hub_of O q) (hub r g) (omega arith))
                  (to_chains h.block (hub_of O q) v (hub q (omega arith)) (omega arith))
                  (f ∙ e);
            },
            sym e,
          ))
