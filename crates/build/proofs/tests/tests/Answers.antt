-- The tests in the paper's order: the first that fails gives its refusal.
use mathlib.Core.Path.{sym, ◌∙◌}
use Rattle.std.proofs.Common.{rules}
use Rattle.refusal.proofs.Laws.{test_held, then_stops, then_goes}
use Rattle.build.specs.Build.{build_tests}
use Rattle.build.proofs.BuildTests.{sizes_hold, tests_links, tests_order}
use Rattle.build.proofs.tests.tests.Goals as goal

pub returns-in_err-test : goal.returns-in_err-test
unfolding build_tests
returns-in_err-test c = then_stops _ (rw c.build_sizes.ensures at c.test.ensures) c.in_err-test.was (search rules)

pub build_rooms-long-requires : goal.build_rooms-long-requires
build_rooms-long-requires c =
    let s = sizes_hold _ _ _ _ (test_held _ _ _ (sym (rw c.build_sizes.ensures at c.test.ensures) ∙ c.in_ok-test.was)) in
    (s.fit.frames, s.fit.width)

pub returns-in_err-test-2 : goal.returns-in_err-test-2
unfolding build_tests
returns-in_err-test-2 c = then_goes (rw c.build_sizes.ensures at c.test.ensures) c.in_ok-test.was
    (then_stops _ (rw c.build_rooms-long.ensures at c.test-2.ensures) c.in_err-test-2.was (search rules))

pub returns-in_err-check_links : goal.returns-in_err-check_links
returns-in_err-check_links c = search rules
    ∙ sym
    (tests_links _ _ _ _ _ _ _ _ _ _
    (test_held _ _ _ (sym (rw c.build_sizes.ensures at c.test.ensures) ∙ c.in_ok-test.was))
    (test_held _ _ _ (sym (rw c.build_rooms-long.ensures at c.test-2.ensures) ∙ c.in_ok-test-2.was)) _
    (sym c.check_links.ensures.answer ∙ c.in_err-check_links.was))

pub returns : goal.returns
returns c = c.check_order.ensures.answer
    ∙ sym
    (tests_order _ _ _ _ _ _ _ _ _ _
    (test_held _ _ _ (sym (rw c.build_sizes.ensures at c.test.ensures) ∙ c.in_ok-test.was))
    (test_held _ _ _ (sym (rw c.build_rooms-long.ensures at c.test-2.ensures) ∙ c.in_ok-test-2.was))
    (sym c.check_links.ensures.answer ∙ c.in_ok-check_links.was))
