-- Success is 0 and nothing else: each refusal has a number, so that number 0 means fine.
use Prim.Native.Nat.{ℕ}
use mathlib.Core.Path.{◌≡◌}
use mathlib.Core.List.{List}
use Rattle.refusal.specs.Tests.{fine}
use Rattle.refusal.specs.Told.{verdict_told}
use Rattle.refusal.proofs.Laws.{numbered_fine}
use Rattle.links.specs.Links.{check_links}
use Rattle.links.specs.Order.{check_order, degree_of, scattered_of}

-- check links
pub links_named : (n : ℕ) (S L : List ℕ) → (verdict_told (check_links n S L)).number ≡ 0 → check_links n S L ≡ fine
links_named n S L = numbered_fine _

-- check order
pub order_named : (n : ℕ) (O : List ℕ) → (verdict_told (check_order n O)).number ≡ 0 → check_order n O ≡ fine
order_named n O = numbered_fine _

-- both orders
pub degree_named : (n : ℕ) (S L O : List ℕ) → (verdict_told (degree_of n S L O).verdict).number ≡ 0 → (degree_of n S L O).verdict ≡ fine
degree_named n S L O = numbered_fine _

pub scattered_named : (n : ℕ) (S L O : List ℕ) → (verdict_told (scattered_of n S L O).verdict).number ≡ 0
    → (scattered_of n S L O).verdict ≡ fine
scattered_named n S L O = numbered_fine _
