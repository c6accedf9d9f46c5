-- Success is 0, and nothing else: every refusal of the header and of the reader has a number of the paper's table, so the
-- paper's numbers alone tell what was answered.
use Rattle.refusal.specs.Tests.{Verdict}
use Rattle.std.specs.Prelude.{Ok, Err}
use Prim.Native.Nat.{ℕ}
use mathlib.Core.Path.{◌≡◌, refl, sym, ap, ap₂, ◌∙◌}
use mathlib.Core.List.{List}
use native.Mathlib.Omega.{arith}
use lib.ListN.{length, get_or}
use Rattle.refusal.specs.Told.{Told}
use Rattle.refusal.proofs.Laws.{Named, named, gives_apart, refuses_apart, gives_refuses}
use Rattle.file.specs.Reader.{frames_of, stop_of, header_test, read_test, opened, header_of, filled_in, read_of, opened_told, Opened, indexed}
use Rattle.file.proofs.Heading.{frames_some}

-- an answer with the numbers of what the tests give is that answer: an index has frames, and their refusal a number
told_is : (v : Verdict) (s : List ℕ) (a : Opened) → opened_told a ≡ opened_told (opened v (frames_of s) (stop_of s))
    → a ≡ opened v (frames_of s) (stop_of s)
unfolding opened opened_told
told_is (Ok _) s (Ok x) e =
    ap₂ indexed (ap (λ (vs : List ℕ). get_or vs 0 0) (gives_apart e)) (ap (λ (vs : List ℕ). get_or vs 1 0) (gives_apart e))
told_is (Ok _) s (Err r) e =
    let none : 0 ≡ frames_of s = ap (λ (t : Told). get_or t.values 0 0) e in
    absurd (omega (arith, frames_some s))
told_is (Err r) s (Ok x) e = gives_refuses r 2 e
told_is (Err r) s (Err q) e = ap {B = Opened} Err (refuses_apart 2 e)

-- every refusal of the header and of the reader has a number
pub header_named : (s : List ℕ) → Named Err (header_of s)
header_named s = named Err _

pub header_tells : (s : List ℕ) (a : Opened) → opened_told a ≡ opened_told (header_of s) → a ≡ header_of s
unfolding header_of
header_tells s a e = told_is (header_test s) s a e

pub answer_is : (v : Verdict) (s : List ℕ) (w : ℕ) (order labels counts : List ℕ)
    → (filled_in v s w order labels counts).answer ≡ opened v (frames_of s) (stop_of s)
unfolding filled_in opened
answer_is (Ok _) s w order labels counts = refl
answer_is (Err r) s w order labels counts = refl

pub read_named : (s : List ℕ) (w : ℕ) (order labels counts : List ℕ) → Named Err (read_of s w order labels counts).answer
read_named s w order labels counts = named Err _

pub read_tells : (s : List ℕ) (w : ℕ) (order labels counts : List ℕ) (a : Opened)
    → opened_told a ≡ opened_told (read_of s w order labels counts).answer → a ≡ (read_of s w order labels counts).answer
unfolding read_of
read_tells s w order labels counts a e =
    let v : Verdict = read_test s w (length order) (length labels) (length counts) in
    let is : (filled_in v s w order labels counts).answer ≡ opened v (frames_of s) (stop_of s) = answer_is v s w order labels counts in
    told_is v s a (e ∙ ap opened_told is) ∙ sym is
