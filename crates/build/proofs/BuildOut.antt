-- The build's outcome: what is left when a test is refused, when a walk is refused, and when all walks are made.
use Rattle.refusal.specs.Tests.{Verdict, fine, Refusal}
use Rattle.std.specs.Prelude.{Ok, Err}
use Prim.Native.Nat.{ℕ, ◌*◌}
use mathlib.Core.Path.{◌≡◌, refl, sym, ap, ◌∙◌}
use mathlib.Core.List.{List}
use lib.ListN.{length, get_or, replicate, length-replicate}
use Rattle.basics.specs.Places.{sum}
use Rattle.refusal.proofs.Laws.{Named, named, gives_apart, refuses_apart, gives_refuses}
use Rattle.theory.specs.Plain.{row_by}
use Rattle.rows.specs.Inner.{Laid}
use Rattle.build.specs.Build.{stop_at, walks_test, build_tests, BuildOutcome, build_outcome, after_walks, after_tests, build_of, built_told, Built}
use Rattle.build.specs.Inner.{MakeIn, RunIn, RunOut}
use Rattle.build.proofs.RunStops.{at_end}
use Rattle.build.proofs.BuildTests.{tests_fine}

same_outcome : {a b : Built} {l l' c c' m m' q q' : List ℕ} → a ≡ b → l ≡ l' → c ≡ c' → m ≡ m' → q ≡ q'
    → build_outcome a l c m q ≡ build_outcome b l' c' m' q'
same_outcome p l c m q = λ i. build_outcome (p i) (l i) (c i) (m i) (q i)

-- ---- after the tests

module _ {n w k : ℕ} {S L O labels counts met queue : List ℕ} (i : MakeIn n w k S L O labels counts met queue) where
  -- cleared rooms may be walked over
  pub cleared : {labels' counts' met' queue' : List ℕ} → labels' ≡ replicate (length labels) 0 → counts' ≡ replicate (length counts) 0
      → met' ≡ replicate (length met) 0 → queue' ≡ replicate (length queue) 0
      → RunIn (length counts') w k S L O labels' counts' met' queue' (replicate 4096 65536)
  cleared {counts' = counts'} l c m q =
      let long : length counts' ≡ n = ap length c ∙ length-replicate (length counts) 0 ∙ i.counts_long in
      rw long
      (record {
        given = i.given;
        labels_zero = l ∙ ap (λ (j : ℕ). replicate j 0) i.labels_long;
        counts_zero = c ∙ ap (λ (j : ℕ). replicate j 0) i.counts_long;
        met_zero = m ∙ ap (λ (j : ℕ). replicate j 0) i.met_long;
        queue_zero = q ∙ ap (λ (j : ℕ). replicate j 0) i.queue_long;
        noted_lacking = refl;
      })

module _ {n' n w k : ℕ} {S L O : List ℕ} {verdict : Verdict} {labels counts met queue : List ℕ}
    (out : RunOut n' w k S L O verdict labels counts met queue) (is : n' ≡ n) where
  o : RunOut n w k S L O verdict labels counts met queue
  o = rw is at out

  -- a walk refused: every room 0
  pub stopped_out : {r : Refusal} {labels' counts' : List ℕ} → verdict ≡ Err r → labels' ≡ replicate (n * w) 0
      → counts' ≡ replicate n 0
      → build_outcome (Err r) labels' counts' met queue ≡ after_walks n w (row_by n S L O k) (walks_test n w k S L O)
  unfolding after_walks
  stopped_out e l c =
      same_outcome refl l c o.met_zero o.queue_zero
      ∙ ap (after_walks n w (row_by n S L O k)) (sym e ∙ o.answer)

  -- all walks made: the rule's rows at k, and the sum of the counts
  pub made_out : {entries : ℕ} → verdict ≡ fine → entries ≡ sum counts
      → build_outcome (Ok entries) labels counts met queue ≡ after_walks n w (row_by n S L O k) (walks_test n w k S L O)
  unfolding after_walks
  made_out e all =
      let at : stop_at n w k S L O ≡ k = at_end n w S L O k (sym o.answer ∙ e) in
      let laid : Laid n w (row_by n S L O k) labels counts = rw at at o.laid in
      same_outcome (ap Ok (all ∙ ap sum laid.numbers)) laid.rows laid.numbers o.met_zero o.queue_zero
      ∙ ap (after_walks n w (row_by n S L O k)) (sym e ∙ o.answer)

-- ---- the whole

module _ (n w k : ℕ) (S L O labels counts met queue : List ℕ) where
  lent : BuildOutcome
  lent = build_outcome (Ok 0) labels counts met queue

  made : BuildOutcome
  made = after_walks n w (row_by n S L O k) (walks_test n w k S L O)

  -- what the tests say decides
  tests_decide : {v : Verdict} → build_tests n w k S L O (length labels) (length counts) (length met) (length queue) ≡ v
      → after_tests lent v made ≡ build_of n w k S L O labels counts met queue
  unfolding build_of lent made
  tests_decide e = ap (λ (v : Verdict). after_tests lent v made) (sym e)

  -- a test refused: every room as lent
  pub refused_out : (r : Refusal)
      → build_tests n w k S L O (length labels) (length counts) (length met) (length queue) ≡ Err r
      → build_outcome (Err r) labels counts met queue ≡ build_of n w k S L O labels counts met queue
  unfolding after_tests lent
  refused_out r e = tests_decide e

  module _ (e : build_tests n w k S L O (length labels) (length counts) (length met) (length queue) ≡ fine) where
    passed : MakeIn n w k S L O labels counts met queue
    passed = tests_fine n w k S L O labels counts met queue e

    pub counts_are : length counts ≡ n
    counts_are = passed.counts_long

    pub make_in : MakeIn (length counts) w k S L O labels counts met queue
    make_in = rw counts_are passed

    pub walked_out : (out : BuildOutcome)
        → out ≡ after_walks (length counts) w (row_by (length counts) S L O k) (walks_test (length counts) w k S L O)
        → out ≡ build_of n w k S L O labels counts met queue
    unfolding after_tests made
    walked_out out is =
        is ∙ ap (λ (j : ℕ). after_walks j w (row_by j S L O k) (walks_test j w k S L O)) counts_are ∙ tests_decide e

-- ---- the paper's numbers

-- every refusal of the build has a number
pub build_named : (n w k : ℕ) (S L O labels counts met queue : List ℕ) → Named Err (build_of n w k S L O labels counts met queue).answer
build_named n w k S L O labels counts met queue = named Err _

-- answers with the same numbers are the same
pub built_apart : (a b : Built) → built_told a ≡ built_told b → a ≡ b
unfolding built_told
built_apart (Ok e) (Ok f) t = ap (λ (vs : List ℕ). Ok (get_or vs 0 0)) (gives_apart t)
built_apart (Ok e) (Err s) t = gives_refuses s 1 t
built_apart (Err r) (Ok f) t = gives_refuses r 1 (sym t)
built_apart (Err r) (Err s) t = ap Err (refuses_apart 1 t)
