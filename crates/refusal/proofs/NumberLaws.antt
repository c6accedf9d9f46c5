-- The paper's numbers are the enum's own, and tell the reasons apart.
use Rattle.std.specs.Prelude.{ℕ, ◌+◌, ◌<◌, cond, eqb}
use mathlib.Core.Path.{◌≡◌, refl, sym, ap, ◌∙◌}
use native.Mathlib.Omega.{arith}
use Rattle.refusal.specs.Numbers.{number_of}
use Rattle.refusal.specs.declared.Reason.{Reason}
use Rattle.refusal.specs.contracts.Reason.{the_type}
use denote.Enum.Declared.{tag_of}

pub tag_number : (r : Reason) → tag_of the_type r + 1 ≡ number_of r
unfolding number_of
tag_number Reason.Size = refl
tag_number Reason.Length = refl
tag_number Reason.Starts = refl
tag_number Reason.Links = refl
tag_number Reason.Order = refl
tag_number Reason.Room = refl
tag_number Reason.Far = refl
tag_number Reason.Frame = refl
tag_number Reason.Row = refl
tag_number Reason.Short = refl
tag_number Reason.Version = refl
tag_number Reason.Field = refl
tag_number Reason.Long = refl
tag_number Reason.Out = refl

-- no reason has number 0
pub some_number : (r : Reason) → 0 < number_of r
unfolding number_of
some_number Reason.Size = omega arith
some_number Reason.Length = omega arith
some_number Reason.Starts = omega arith
some_number Reason.Links = omega arith
some_number Reason.Order = omega arith
some_number Reason.Room = omega arith
some_number Reason.Far = omega arith
some_number Reason.Frame = omega arith
some_number Reason.Row = omega arith
some_number Reason.Short = omega arith
some_number Reason.Version = omega arith
some_number Reason.Field = omega arith
some_number Reason.Long = omega arith
some_number Reason.Out = omega arith

-- the reason of a number
reason_of : ℕ → Reason
reason_of n =
    cond (eqb n 1) Reason.Size (
    cond (eqb n 2) Reason.Length (
    cond (eqb n 3) Reason.Starts (
    cond (eqb n 4) Reason.Links (
    cond (eqb n 5) Reason.Order (
    cond (eqb n 6) Reason.Room (
    cond (eqb n 7) Reason.Far (
    cond (eqb n 8) Reason.Frame (
    cond (eqb n 9) Reason.Row (
    cond (eqb n 10) Reason.Short (
    cond (eqb n 11) Reason.Version (
    cond (eqb n 12) Reason.Field (
    cond (eqb n 13) Reason.Long (
    Reason.Out)))))))))))))

number_back : (r : Reason) → reason_of (number_of r) ≡ r
unfolding number_of reason_of
number_back Reason.Size = refl
number_back Reason.Length = refl
number_back Reason.Starts = refl
number_back Reason.Links = refl
number_back Reason.Order = refl
number_back Reason.Room = refl
number_back Reason.Far = refl
number_back Reason.Frame = refl
number_back Reason.Row = refl
number_back Reason.Short = refl
number_back Reason.Version = refl
number_back Reason.Field = refl
number_back Reason.Long = refl
number_back Reason.Out = refl

pub numbers_apart : {r s : Reason} → number_of r ≡ number_of s → r ≡ s
numbers_apart {r = r} {s = s} e = sym (number_back r) ∙ ap reason_of e ∙ number_back s
