-- The laws of text put behind what a room holds, and of a number's decimal digits.
use Prim.Native.Nat.{ℕ, ◌+◌, ◌-◌, ◌^◌, ◌≤◌, ◌<◌}
use native.Mathlib.Nat.{pow-le-pow_right, add-zero}
use native.Mathlib.Numerals.{add-one}
use native.Mathlib.Omega.{arith}
use mathlib.Core.Path.{◌≡◌, refl, sym, ap, subst, ◌∙◌}
use mathlib.Core.List.{List, [], ◌∷◌, ◌++◌, append_assoc, append-nil}
use lib.ListN.{length, take, drop, set, length-append, length-drop, length-set}
use lib.Seq.{length-take-le, take-suc-set, drop-set-lt}
use Rattle.std.proofs.Math.Seq.{take-append-add, take-append_seam, drop-append-add, drop-append_seam}
use Rattle.std.proofs.lemmas.List.{drop-drop}
use lib.Dec.{ltb}
use borrow.Author.Tests.{lt-ltb, le-ltb}
use Rattle.basics.proofs.Laws.{first_is, lt_or_ge, drop_later}
use Rattle.io.specs.Digits.{last_digits, IsDigitCount}
use Rattle.listing.specs.Text.{digit_count, decimal}
use Rattle.listing.specs.Inner.{PutText}

-- ---- text in a room

-- nothing put
pub put_none : (room : List ℕ) (at : ℕ) → PutText room at [] room at
put_none room at = record { long = refl; ends = sym (add-zero at); holds = sym (append-nil (take at room)); rest = refl }

-- one byte put
pub put_byte : (room : List ℕ) (at b : ℕ) → at < length room → PutText room at (b ∷ []) (set room at b) (at + 1)
put_byte room at b h =
    record {
      long = length-set room at b;
      ends = refl;
      holds = rw add-one (take-suc-set room at b h);
      rest = drop-set-lt (at + 1) room at b (omega arith);
    }

-- text, and more text behind it
pub put_more : {room mid last s t : List ℕ} {at next end : ℕ} → PutText room at s mid next → PutText mid next t last end
    → PutText room at (s ++ t) last end
put_more {room} {mid} {last} {s} {t} {at} {next} {end} p q =
    record {
      long = q.long ∙ p.long;
      ends = q.ends ∙ (ap (λ (k : ℕ). k + length t) p.ends ∙ omega (arith, length-append s t));
      holds = q.holds ∙ (ap (λ (l : List ℕ). l ++ t) p.holds ∙ append_assoc (take at room) s t);
      rest = q.rest ∙ drop_later mid room next end (omega (arith, q.ends)) p.rest;
    }

-- the same text
pub put_as : {room last s t : List ℕ} {at end : ℕ} → s ≡ t → PutText room at s last end → PutText room at t last end
put_as {room} {last} {at = at} {end} e p = subst (λ (t : List ℕ). PutText room at t last end) e p

-- text copied into a part of the room that is as long
pub put_part : (room text : List ℕ) (at k : ℕ) → k ≡ length text → at + k ≤ length room
    → PutText room at text (take at room ++ (text ++ drop k (drop at room))) (at + length text)
put_part room text at k e h =
    let front : List ℕ = take at room in
    let back : List ℕ = drop k (drop at room) in
    let long : length front ≡ at = length-take-le at room (omega arith) in
    record {
      long =
          omega
          (arith, long, length-append front (text ++ back), length-append text back, length-drop k (drop at room), length-drop at room);
      ends = refl;
      holds =
          ap (λ (j : ℕ). take (j + length text) (front ++ (text ++ back))) (sym long)
          ∙ take-append-add front (text ++ back) (length text)
          ∙ ap (λ (l : List ℕ). front ++ l) (take-append_seam text back);
      rest =
          ap (λ (j : ℕ). drop (j + length text) (front ++ (text ++ back))) (sym long)
          ∙ drop-append-add front (text ++ back) (length text)
          ∙ drop-append_seam text back
          ∙ drop-drop k at room
          ∙ ap (λ (j : ℕ). drop j room) (omega arith);
    }

-- ---- a number

-- fewer digits than the fewest do not hold a number
fewer : (x k j : ℕ) → IsDigitCount 10 1 x k → 1 ≤ j → j < k → 10 ^ j ≤ x
fewer x k j few some below =
    let high : 10 ^ (k - 1) ≤ x = few.2 (omega arith) in
    let less : 10 ^ j ≤ 10 ^ (k - 1) = pow-le-pow_right (omega arith) (omega arith) in
    omega arith

-- a number of 64 bits has at most twenty digits
pub few_digits : (x k : ℕ) → x < 18446744073709551616 → IsDigitCount 10 1 x k → k ≤ 20
few_digits x k small few =
    lt_or_ge 20 k (λ more. let high = fewer x k 20 few (omega arith) more in absurd (omega arith)) (λ most. most)

-- the fewest digits that hold a number are as many as it has
pub digit_count_is : (x k : ℕ) → k ≤ 20 → IsDigitCount 10 1 x k → digit_count x ≡ k
unfolding digit_count
digit_count_is x k most few =
    first_is (λ j. ltb x (10 ^ j)) 1 20 k few.0 (omega arith) (lt-ltb x (10 ^ k) few.1)
    (λ j low below. le-ltb x (10 ^ j) (fewer x k j few low below))

-- those digits are the number in decimal
pub decimal_is : (x k : ℕ) → k ≤ 20 → IsDigitCount 10 1 x k → last_digits 10 k x ≡ decimal x
unfolding decimal
decimal_is x k most few = ap (λ (j : ℕ). last_digits 10 j x) (sym (digit_count_is x k most few))
