-- Rooms that hold the rows of the rule: their rows are sound, no pair of frames is refused, and the answer is the theory's.
use Rattle.refusal.specs.Tests.{Verdict, fine}
use Rattle.std.specs.Prelude.{Some, None}
use Prim.Native.Nat.{ℕ, ◌+◌, ◌≤◌, ◌<◌}
use mathlib.Core.Path.{◌≡◌, refl, sym, ap, ◌∙◌}
use mathlib.Core.Bool.{true}
use mathlib.Core.List.{List}
use native.Mathlib.Omega.{arith}
use lib.ListN.{length, get_or}
use Rattle.theory.specs.Links.{Block, Order, hub_of}
use Rattle.theory.specs.Distance.{far, said}
use Rattle.theory.specs.Rows.{Row, answer}
use Rattle.theory.specs.Walk.{walks}
use Rattle.theory.specs.Plain.{ones, joined, row_by, answer_by}
use Rattle.theory.proofs.Rule.{rank_at, joins_at}
use Rattle.theory.proofs.Plain.{plain_rising, plain_places, plain_walks}
use Rattle.entry.specs.Entry.{rank_of, joins_of, decode}
use Rattle.rows.specs.Meetings.{meeting_of, Best}
use Rattle.rows.specs.Pair.{pair_tests, answered, pair_of, pair_told}
use Rattle.rows.specs.Inner.{Rooms}
use Rattle.rows.specs.Rooms.{row_at, sound_row, rows_test}
use Rattle.entry.proofs.Laws.{length_decode, decoded}
use Rattle.rows.proofs.Laws.{Sound, sound_row_lem, sound_higher}
use Rattle.rows.proofs.RoomLaws.{length_row, sound_all}
use Rattle.rows.proofs.PairLaws.{asked_fine}
use Rattle.rows.proofs.PairAnswer.{pair_answer}
use Rattle.theorems.specs.Demands.{asked_of}

-- a label room and a count room that hold the rows of the rule at stop k
pub record Held (n w k : ℕ) (S L O labels counts : List ℕ) : Type 0 where
  pub block : Block n 1 S L ones
  pub order : Order n O
  pub stop : k ≤ n
  pub rooms : Rooms n w labels counts
  pub narrow : (v : ℕ) → v < n → get_or counts v 0 ≤ w
  pub rows : (v : ℕ) → v < n → decode (row_at w labels counts v) ≡ row_by n S L O k v

-- whatever it meets, a question whose tests are fine has number 0
fine_told : (best : Best) → (pair_told (answered fine best)).number ≡ 0
unfolding pair_told answered
fine_told None = refl
fine_told (Some m) = refl

pub told_fine : (n w : ℕ) (labels counts : List ℕ) (s t : ℕ) → pair_tests n w labels counts s t ≡ fine
    → (pair_told (pair_of n w labels counts s t)).number ≡ 0
unfolding pair_of
told_fine n w labels counts s t e =
    let best : Best = meeting_of (row_at w labels counts s) (row_at w labels counts t) in
    ap (λ (v : Verdict). (pair_told (answered v best)).number) e ∙ fine_told best

-- rooms whose rows are sound for a stop
module _ {n w k : ℕ} {labels counts : List ℕ} (rooms : Rooms n w labels counts) (stop : k ≤ n)
    (narrow : (v : ℕ) → v < n → get_or counts v 0 ≤ w)
    (sound : (v : ℕ) → v < n → Sound n k (row_at w labels counts v) (get_or counts v 0)) where
  row_sound : (v : ℕ) → v < n → sound_row n w n labels counts v ≡ true
  row_sound v p = sound_row_lem n w n labels counts v (narrow v p) (sound_higher stop (sound v p))

  -- no pair of frames is refused
  pub sound_fine : (s t : ℕ) → s < n → t < n → pair_tests n w labels counts s t ≡ fine
  sound_fine s t p q =
      asked_fine record { rooms = rooms; first = p; second = q; first_sound = row_sound s p; second_sound = row_sound t q }

  -- and the answer is the theory's over the rows R that the rooms hold
  pub sound_answer : (R : ℕ → Row) → ((v : ℕ) → v < n → decode (row_at w labels counts v) ≡ R v) → (s t : ℕ) → s < n → t < n
      → asked_of n w labels counts s t ≡ said (far 1 n) (answer (far 1 n) n (R s) (R t))
  sound_answer R rows s t p q =
      pair_answer n w labels counts s t (sound_fine s t p q) ∙ (λ i. said (far 1 n) (answer (far 1 n) n (rows s p i) (rows t q i)))

module _ {n w k : ℕ} {S L O labels counts : List ℕ} (h : Held n w k S L O labels counts) where
  pub held_length : (v : ℕ) → v < n → length (row_at w labels counts v) ≡ get_or counts v 0
  held_length v p = length_row h.rooms v p (h.narrow v p)

  rule_length : (v : ℕ) → v < n → length (row_by n S L O k v) ≡ get_or counts v 0
  rule_length v p =
      sym (ap (λ (x : Row). length x) (h.rows v p)) ∙ length_decode (row_at w labels counts v) ∙ held_length v p

  held_entry : (v i : ℕ) → v < n → i < get_or counts v 0
      → (rank_of (get_or (row_at w labels counts v) i 0) ≡ rank_at (row_by n S L O k v) i)
      × (joins_of (get_or (row_at w labels counts v) i 0) ≡ joins_at (row_by n S L O k v) i)
  held_entry v i p l = decoded (row_at w labels counts v) (h.rows v p) i (omega (arith, held_length v p))

  -- ranks strictly rise below k, joins are below n
  pub held_sound : (v : ℕ) → v < n → Sound n k (row_at w labels counts v) (get_or counts v 0)
  held_sound v p =
      let long : length (row_by n S L O k v) ≡ get_or counts v 0 = rule_length v p in
      let stop : k ≤ n = h.stop in
      record {
        rank = λ i l.
            omega (arith, (held_entry v i p l).0, (plain_places h.block h.order k v i stop p (omega arith)).0);
        joins = λ i l.
            omega (arith, (held_entry v i p l).1, (plain_places h.block h.order k v i stop p (omega arith)).1);
        rising = λ i l.
            omega (
              arith,
              (held_entry v i p (omega arith)).0,
              (held_entry v (i + 1) p l).0,
              (plain_rising n S L O k v).rise i (i + 1) (omega arith) (omega arith),
            );
      }

  -- every row is sound for the bound k, as the writer asks
  pub held_rows : rows_test n w k labels counts ≡ fine
  held_rows = sound_all n w k labels counts (λ v p. sound_row_lem n w k labels counts v (h.narrow v p) (held_sound v p))

  -- the rows are the walks'
  pub held_walks : (v : ℕ) → v < n → decode (row_at w labels counts v) ≡ walks (far 1 n) n (joined S L) (hub_of O) k v
  held_walks v p = h.rows v p ∙ sym (plain_walks h.block h.order k v h.stop p)

  -- no pair of frames is refused
  pub held_fine : (s t : ℕ) → s < n → t < n → pair_tests n w labels counts s t ≡ fine
  held_fine = sound_fine h.rooms h.stop h.narrow held_sound

  -- and the answer is the theory's
  pub held_answer : (s t : ℕ) → s < n → t < n → asked_of n w labels counts s t ≡ said (far 1 n) (answer_by n S L O k s t)
  held_answer = sound_answer h.rooms h.stop h.narrow held_sound (row_by n S L O k) h.rows
