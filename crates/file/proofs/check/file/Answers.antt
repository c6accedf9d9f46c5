-- `file` makes the reader's tests in their order: the width, the header, the lengths, the body.
use mathlib.Core.Path.{sym, ap₂, ◌∙◌}
use native.Mathlib.Omega.{arith}
use Rattle.std.proofs.Common.{rules}
use Rattle.file.specs.Reader.{header_of, read_test, indexed}
use Rattle.refusal.proofs.Laws.{after_fine, after_refused}
use Rattle.refusal.proofs.SizeLaws.{width_held}
use Rattle.file.proofs.Steps.{held, test_stops, test_goes}
use Rattle.file.proofs.Reader.{body_left}
use Rattle.file.proofs.Heading.{opened_fine, opened_refused, index_is, refused_is, frames_most, headed}
use Rattle.file.proofs.check.file.Goals as goal

pub returns-in_err-test : goal.returns-in_err-test
unfolding read_test
returns-in_err-test c =
    opened_refused _ _ (test_stops _ (rw c.width_fits.ensures at c.test.ensures) c.in_err-test.was) (search rules)

pub returns-in_err-index : goal.returns-in_err-index
unfolding read_test header_of
returns-in_err-index c =
    opened_refused _ _
    (test_goes _ (rw c.width_fits.ensures at c.test.ensures) c.in_ok-test.was
    ∙ after_refused _ (refused_is _ _ _ (sym c.in_err-index.was ∙ c.header.ensures.given)))
    (search rules)

pub lengths_fit-requires : goal.lengths_fit-requires
unfolding header_of
lengths_fit-requires c =
    let (e, p, q) = index_is _ _ _ (sym c.in_ok-index.was ∙ c.header.ensures.given) in (
      omega (arith, frames_most c.args.bytes.now),
      (width_held _ (held _ _ _ (rw c.width_fits.ensures at c.test.ensures) c.in_ok-test.was)).1,
    )

pub returns-in_err-test-2 : goal.returns-in_err-test-2
unfolding read_test header_of
returns-in_err-test-2 c =
    let (e, p, q) = index_is _ _ _ (sym c.in_ok-index.was ∙ c.header.ensures.given) in
    opened_refused _ _
    (test_goes _ (rw c.width_fits.ensures at c.test.ensures) c.in_ok-test.was ∙ after_fine _ e
    ∙ test_stops _ (rw (c.lengths_fit.ensures, p) at c.test-2.ensures) c.in_err-test-2.was)
    (search rules)

pub invariant_of-reading : goal.invariant_of-reading
unfolding header_of
invariant_of-reading c =
    let (e, p, q) = index_is _ _ _ (sym c.in_ok-index.was ∙ c.header.ensures.given) in omega (arith, frames_most c.args.bytes.now, (headed _ e).long)

pub body-requires : goal.body-requires
unfolding header_of
body-requires c = (headed _ (index_is _ _ _ (sym c.in_ok-index.was ∙ c.header.ensures.given)).0).long

pub returns-in_err-body : goal.returns-in_err-body
unfolding header_of
returns-in_err-body c =
    let (e, p, q) = index_is _ _ _ (sym c.in_ok-index.was ∙ c.header.ensures.given) in
    let width = held _ _ _ (rw c.width_fits.ensures at c.test.ensures) c.in_ok-test.was in
    let lengths = held _ _ _ (rw c.lengths_fit.ensures at c.test-2.ensures) c.in_ok-test-2.was in
    opened_refused _ _ (body_left _ _ _ _ _ width e p q lengths ∙ sym c.body.ensures ∙ c.in_err-body.was) (search rules)

pub returns : goal.returns
unfolding header_of
returns c =
    let (e, p, q) = index_is _ _ _ (sym c.in_ok-index.was ∙ c.header.ensures.given) in
    let width = held _ _ _ (rw c.width_fits.ensures at c.test.ensures) c.in_ok-test.was in
    let lengths = held _ _ _ (rw c.lengths_fit.ensures at c.test-2.ensures) c.in_ok-test-2.was in
    ap₂ indexed p q ∙ opened_fine _ _ (body_left _ _ _ _ _ width e p q lengths ∙ sym c.body.ensures ∙ c.in_ok-body.was)
