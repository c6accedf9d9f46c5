-- The build's tests before any walk: which refusal each gives, and what they show when all are passed.
use Rattle.std.specs.Prelude.{Err}
use Prim.Native.Nat.{ℕ, ◌+◌, ◌*◌, ◌≤◌}
use mathlib.Core.Path.{◌≡◌, sym, ap, ◌∙◌}
use mathlib.Core.Bool.{true, ◌&&◌}
use mathlib.Core.List.{List}
use borrow.Author.Tests.{leb-true, eqb-true}
use lib.ListN.{length}
use lib.Dec.{leb, eqb}
use Rattle.basics.proofs.Laws.{both_true}
use Rattle.refusal.specs.Numbers.{SIZE, LENGTH}
use Rattle.refusal.specs.Sizes.{sizes_fit, places_fit}
use Rattle.refusal.specs.Inner.{Sizes}
use Rattle.refusal.specs.Tests.{test, ◌then◌, Verdict, fine, Refusal}
use Rattle.refusal.proofs.Laws.{test_fine, test_held, after_fine, after_refused, then_fine, then_assoc}
use Rattle.refusal.proofs.SizeLaws.{sizes_held, places_held}
use Rattle.links.specs.Links.{starts_test, lists_test, check_links}
use Rattle.links.specs.Order.{order_test, check_order}
use Rattle.links.specs.Inner.{Fits}
use Rattle.links.proofs.Links.{links_alone, links_sound}
use Rattle.links.proofs.Order.{order_alone, order_sound}
use Rattle.build.specs.Build.{build_sizes, build_rooms, build_tests}
use Rattle.build.specs.Inner.{MakeIn}

-- test 1 passed
pub record InRange (n w k places : ℕ) : Type 0 where
  pub fit : Sizes n w
  pub stop : k ≤ n
  pub most : places ≤ 65536

-- test 2 passed
pub record Lengths (n w starts order labels counts met queue : ℕ) : Type 0 where
  pub starts_long : starts ≡ n + 1
  pub order_long : order ≡ n
  pub labels_long : labels ≡ n * w
  pub counts_long : counts ≡ n
  pub met_long : met ≡ n
  pub queue_long : queue ≡ n

pub sizes_hold : (n w k places : ℕ) → build_sizes n w k places ≡ true → InRange n w k places
unfolding build_sizes
sizes_hold n w k places e =
    let halves = both_true (sizes_fit n w) (leb k n && places_fit places) e in
    let rest = both_true (leb k n) (places_fit places) halves.1 in
    record {
      fit = sizes_held n w halves.0;
      stop = leb-true k n rest.0;
      most = places_held places rest.1;
    }

pub rooms_hold : (n w starts order labels counts met queue : ℕ) → build_rooms n w starts order labels counts met queue ≡ true
    → Lengths n w starts order labels counts met queue
unfolding build_rooms
rooms_hold n w starts order labels counts met queue e =
    let a = both_true (eqb starts (n + 1)) (eqb order n && (eqb labels (n * w) && (eqb counts n && (eqb met n && eqb queue n)))) e in
    let b = both_true (eqb order n) (eqb labels (n * w) && (eqb counts n && (eqb met n && eqb queue n))) a.1 in
    let d = both_true (eqb labels (n * w)) (eqb counts n && (eqb met n && eqb queue n)) b.1 in
    let f = both_true (eqb counts n) (eqb met n && eqb queue n) d.1 in
    let g = both_true (eqb met n) (eqb queue n) f.1 in
    record {
      starts_long = eqb-true starts (n + 1) a.0;
      order_long = eqb-true order n b.0;
      labels_long = eqb-true labels (n * w) d.0;
      counts_long = eqb-true counts n f.0;
      met_long = eqb-true met n g.0;
      queue_long = eqb-true queue n g.1;
    }

-- sizes and lengths of the links
links_fit : {n w k order labels counts met queue : ℕ} {S L : List ℕ} → InRange n w k (length L)
    → Lengths n w (length S) order labels counts met queue → Fits n S L
links_fit s l = record { one = s.fit.some_frames; frames = s.fit.frames; places = s.most; long = l.starts_long }

module _ (n w k : ℕ) (S L O : List ℕ) (labels counts met queue : ℕ) where
  module _ (sized : build_sizes n w k (length L) ≡ true) where
    module _ (long : build_rooms n w (length S) (length O) labels counts met queue ≡ true) where
      sizes : InRange n w k (length L)
      sizes = sizes_hold n w k (length L) sized

      rooms : Lengths n w (length S) (length O) labels counts met queue
      rooms = rooms_hold n w (length S) (length O) labels counts met queue long

      links_are : check_links n S L ≡ (starts_test n S L then lists_test n S L)
      links_are = links_alone n S L (links_fit sizes rooms)

      rest : build_tests n w k S L O labels counts met queue ≡ (check_links n S L then order_test n O)
      unfolding build_tests
      rest =
          after_fine _ (test_fine SIZE 0 sized)
          ∙ after_fine _ (test_fine LENGTH 0 long)
          ∙ sym (then_assoc (starts_test n S L) (lists_test n S L) (order_test n O))
          ∙ ap (λ (v : Verdict). v then order_test n O) (sym links_are)

      pub tests_links : (r : Refusal) → check_links n S L ≡ Err r → build_tests n w k S L O labels counts met queue ≡ Err r
      tests_links r e = rest ∙ after_refused _ e

      pub tests_order : check_links n S L ≡ fine → build_tests n w k S L O labels counts met queue ≡ check_order n O
      tests_order e =
          rest
          ∙ after_fine _ e
          ∙ sym (order_alone n O sizes.fit.some_frames sizes.fit.frames rooms.order_long)

-- all passed
pub tests_fine : (n w k : ℕ) (S L O labels counts met queue : List ℕ)
    → build_tests n w k S L O (length labels) (length counts) (length met) (length queue) ≡ fine
    → MakeIn n w k S L O labels counts met queue
unfolding build_tests
tests_fine n w k S L O labels counts met queue e =
    let a = then_fine (test (build_sizes n w k (length L)) SIZE 0) _ e in
    let b = then_fine (test (build_rooms n w (length S) (length O) _ _ _ _) LENGTH 0) _ a.1 in
    let d = then_fine (starts_test n S L) _ b.1 in
    let f = then_fine (lists_test n S L) (order_test n O) d.1 in
    let s : InRange n w k (length L) = sizes_hold n w k (length L) (test_held _ SIZE 0 a.0) in
    let l : Lengths n w (length S) (length O) (length labels) (length counts) (length met) (length queue) =
    rooms_hold n w (length S) (length O) _ _ _ _ (test_held _ LENGTH 0 b.0) in
    record {
      given =
          record {
            sizes = s.fit;
            stop = s.stop;
            block = links_sound n S L (links_fit s l) d.0 f.0;
            order = order_sound n O f.1 l.order_long;
          };
      labels_long = l.labels_long;
      counts_long = l.counts_long;
      met_long = l.met_long;
      queue_long = l.queue_long;
    }
