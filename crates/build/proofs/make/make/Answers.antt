-- Cleared rooms may be walked over; what the walks leave is the outcome, or all 0 where one was refused.
use Prim.Native.Nat.{ℕ}
use mathlib.Core.Path.{◌≡◌, ap, ◌∙◌}
use native.Mathlib.Omega.{arith}
use lib.ListN.{length, replicate}
use Rattle.std.proofs.Common.{rules}
use Rattle.rows.proofs.RoomLaws.{total_sum}
use Rattle.build.proofs.BuildOut.{cleared, stopped_out, made_out}
use Rattle.build.proofs.make.make.Goals as goal

pub walks-requires : goal.walks-requires
walks-requires c = cleared c.requires (search rules) (search rules) (search rules) (search rules)

pub returns-in-Err : goal.returns-in-Err
returns-in-Err c =
    let labels : c.fill-in-Err.new.self ≡ replicate (length c.walks.new.labels) 0 = search rules in
    let counts : c.fill-in-Err-2.new.self ≡ replicate (length c.walks.new.counts) 0 = search rules in
    stopped_out c.walks.ensures c.fill-2.auto.self c.in-Err.is
    (labels ∙ ap (λ (j : ℕ). replicate j 0) (c.walks.auto.labels ∙ c.fill.auto.self ∙ c.requires.labels_long))
    (counts ∙ ap (λ (j : ℕ). replicate j 0) (c.walks.auto.counts ∙ c.fill-2.auto.self))

pub returns : goal.returns
returns c = made_out c.walks.ensures c.fill-2.auto.self c.in_default.is
    (c.total.ensures.0
    ∙ total_sum _ (omega (arith, c.walks.auto.counts, c.fill-2.auto.self, c.requires.given.sizes.frames)))
