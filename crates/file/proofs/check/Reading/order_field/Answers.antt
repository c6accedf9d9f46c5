-- `order_field` makes the tests of its field: SHORT or n or more, then whether the frame stands at a lower rank. The flags say
-- that, and a legal field's frame is one of those from then on.
use Prim.Native.Nat.{ℕ, ◌+◌, ◌*◌, ◌≤◌, ◌<◌}
use mathlib.Core.Path.{◌≡◌, refl, sym, ap, ◌∙◌}
use mathlib.Core.Bool.{Bool, false, not}
use mathlib.Core.List.{List}
use native.Mathlib.Omega.{arith}
use lib.ListN.{get_or}
use Rattle.std.proofs.Common.{rules}
use Rattle.refusal.specs.Numbers.{FIELD}
use Rattle.refusal.specs.Tests.{test, fine}
use Rattle.refusal.proofs.Laws.{fine_not_refused}
use Rattle.links.specs.Inner.{Seen}
use Rattle.links.proofs.Order.{seen_says, seen_on}
use Rattle.file.specs.Reader.{short_test, frame_at, order_field_test}
use Rattle.file.proofs.Fields.{order_out, order_left}
use Rattle.file.proofs.Steps.{below, stopped, refused_by}
use Rattle.file.proofs.check.Reading.order_field.Goals as goal

-- behind a frame below n its flag decides
flagged : (s : List ℕ) (n r : ℕ) {frame : ℕ} {seen : List Bool} → n ≤ 4096 → Seen (frame_at s) seen r
    → (short_test s (32 + 12 * r) 12 ≡ fine) × (frame ≡ frame_at s r) × (frame < n)
    → order_field_test s n r ≡ test (not (get_or seen frame false)) FIELD (32 + 12 * r)
flagged s n r few flags (e, q, low) =
    order_left s n r e (omega arith)
    ∙ ap (λ (b : Bool). test (not b) FIELD (32 + 12 * r)) (seen_says flags q (omega arith) refl)

pub returns-in_err-frame : goal.returns-in_err-frame
unfolding frame_at
returns-in_err-frame c =
    let o = order_out _ c.args.self.n c.args.r (stopped _ _ c.field_in_four.ensures c.in_err-frame.was) in
    record { found = refused_by o (search rules); noted = λ h. fine_not_refused (sym h ∙ o) }

pub bounds-seen-frame : goal.bounds-seen-frame
bounds-seen-frame c = omega (arith, (below _ _ _ _ c.field_in_four.ensures c.in_ok-frame.was).2, c.requires.1.long)

pub returns-in_err-test : goal.returns-in_err-test
unfolding frame_at
returns-in_err-test c =
    let o = flagged _ c.args.self.n c.args.r c.args.self.few c.requires.1 (below _ _ _ _ c.field_in_four.ensures c.in_ok-frame.was)
    ∙ sym c.test.ensures ∙ c.in_err-test.was in
    record { found = refused_by o (search rules); noted = λ h. fine_not_refused (sym h ∙ o) }

pub bounds-seen-frame-2 : goal.bounds-seen-frame-2
bounds-seen-frame-2 c = omega (arith, (below _ _ _ _ c.field_in_four.ensures c.in_ok-frame.was).2, c.requires.1.long)

pub returns : goal.returns
unfolding frame_at
returns c =
    let (e, q, low) = below _ _ _ _ c.field_in_four.ensures c.in_ok-frame.was in
    let o = flagged _ c.args.self.n c.args.r c.args.self.few c.requires.1 (e, q, low) ∙ sym c.test.ensures ∙ c.in_ok-test.was in
    record { found = sym o; noted = λ h. seen_on c.requires.1 q (omega arith) }
