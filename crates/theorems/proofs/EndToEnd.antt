-- From the links handed in to an answer asked of a file read back. The read-back rooms have the built ones' counts and used
-- entries, so they hold the rows of the rule too, and demands 2 and 3 follow for them as for the built ones.
use Rattle.std.specs.Prelude.{Ok}
use Prim.Native.Nat.{ℕ, ◌+◌, ◌*◌, ◌≤◌}
use mathlib.Core.Path.{◌≡◌, sym, ap, ◌∙◌}
use mathlib.Core.List.{List}
use native.Mathlib.Omega.{arith}
use lib.ListN.{length, get_or, take, drop, get_or-eq_default}
use Rattle.basics.specs.Places.{sum}
use Rattle.basics.proofs.Laws.{lt_or_ge}
use Rattle.links.proofs.Order.{order_passes}
use Rattle.entry.specs.Entry.{decode}
use Rattle.rows.specs.Pair.{pair_of}
use Rattle.rows.specs.Inner.{Rooms}
use Rattle.rows.proofs.Laws.{entry_at}
use Rattle.rows.proofs.PairDepends.{SameRow, pair_depends}
use Rattle.build.specs.Build.{build_outcome, build_of}
use Rattle.fields.specs.Layout.{file_size}
use Rattle.file.specs.Index.{stored, SameIndex}
use Rattle.file.specs.Reader.{read_outcome as read, read_of, Opened}
use Rattle.file.specs.Inner.{Fit}
use Rattle.file.specs.Writer.{write_outcome, write_of, Written}
use Rattle.file.proofs.ReadWrite.{read_takes}
use Rattle.theorems.specs.EndToEnd.{EndToEnd}
use Rattle.theorems.proofs.Built.{Made, built_tests, built_held}
use Rattle.theorems.proofs.Demand.{held_demands}
use Rattle.theorems.proofs.Held.{Held, held_rows}
use Rattle.theorems.proofs.Trips.{write_taken, write_then_read}

-- a built index passes the writer's tests
pub built_fit : {n w k : ℕ} {S L O : List ℕ} {entries : ℕ} {labels counts met queue : List ℕ}
    → Made n w k S L O entries labels counts met queue → Fit n w k O labels counts
built_fit m =
    let h = built_held m in
    record { rooms = h.rooms; stop = m.given.stop; long = m.given.order.long; once = order_passes _ _ m.given.order; sound = held_rows h }

module _ {n w k : ℕ} {S L O labels counts : List ℕ} (h : Held n w k S L O labels counts) {order₂ labels₂ counts₂ : List ℕ}
    (rooms₂ : Rooms n w labels₂ counts₂) (same : SameIndex (stored n w k O labels counts) (stored n w k order₂ labels₂ counts₂)) where
  -- the same index in other rooms holds the same rows
  pub same_held : Held n w k S L O labels₂ counts₂
  same_held =
      record {
        block = h.block;
        order = h.order;
        stop = h.stop;
        rooms = rooms₂;
        narrow = λ v p. omega (arith, h.narrow v p, ap (λ (l : List ℕ). get_or l v 0) same.counts);
        rows = λ v p. ap decode (sym (same.entries v p)) ∙ h.rows v p;
      }

  -- frame v has the same count, and the same used entries; behind the last frame there are none
  same_row : (v : ℕ) → SameRow w labels₂ counts₂ labels counts v
  same_row v =
      let count : get_or counts₂ v 0 ≡ get_or counts v 0 = ap (λ (l : List ℕ). get_or l v 0) (sym same.counts) in
      record {
        count = count;
        entries = λ i low wide.
            lt_or_ge v n
            (λ p.
            sym (entry_at w labels₂ counts₂ v i low)
            ∙ ap (λ (l : List ℕ). get_or l i 0) (sym (same.entries v p))
            ∙ entry_at w labels counts v i (omega arith))
            (λ p. absurd (omega (arith, get_or-eq_default counts₂ 0 {n = v} (omega (arith, rooms₂.each)))));
      }

  -- and gets the same answers
  pub same_answers : (s t : ℕ) → pair_of n w labels₂ counts₂ s t ≡ pair_of n w labels counts s t
  same_answers s t =
      pair_depends n w labels₂ counts₂ labels counts s t (rooms₂.places ∙ sym h.rooms.places)
      (rooms₂.each ∙ sym h.rooms.each) (same_row s) (same_row t)

-- links and order handed in, a build to k that is not refused, the index written from any start into any room long enough,
-- and read back with the same W into any rooms of the right lengths
pub end_to_end : (n w k : ℕ) (S L O labels₀ counts₀ met₀ queue₀ : List ℕ) (entries : ℕ) (labels counts met queue : List ℕ)
    → build_outcome (Ok entries) labels counts met queue ≡ build_of n w k S L O labels₀ counts₀ met₀ queue₀
    → (out : List ℕ) (start : ℕ) → start + file_size n entries ≤ length out → (written : Written) (room : List ℕ)
    → write_outcome written room ≡ write_of n w k O labels counts out start
    → (order₁ labels₁ counts₁ : List ℕ) → length order₁ ≡ n → length labels₁ ≡ n * w → length counts₁ ≡ n
    → (opened : Opened) (order₂ labels₂ counts₂ : List ℕ)
    → read opened order₂ labels₂ counts₂ ≡ read_of (take (file_size n entries) (drop start room)) w order₁ labels₁ counts₁
    → EndToEnd n w k S L O entries labels counts met queue written opened order₂ labels₂ counts₂
end_to_end n w k S L O labels₀ counts₀ met₀ queue₀ entries labels counts met queue built out start enough written room filled
    order₁ labels₁ counts₁ p q r opened order₂ labels₂ counts₂ back =
    let m : Made n w k S L O entries labels counts met queue =
    built_tests n w k S L O labels₀ counts₀ met₀ queue₀ entries labels counts met queue built in
    let h : Held n w k S L O labels counts = built_held m in
    let total : file_size n (sum counts) ≡ file_size n entries = ap (file_size n) (sym m.total) in
    let size : written ≡ Ok (file_size n entries) =
    write_taken n w k O labels counts out start written room filled (built_fit m) (omega arith) ∙ ap Ok total in
    let (index, same) =
    write_then_read n w k O labels counts out start written room filled (file_size n entries) size order₁ labels₁ counts₁ p q r
    opened order₂ labels₂ counts₂ back in
    let fit : Fit n w k order₂ labels₂ counts₂ =
    read_takes (take (file_size n entries) (drop start room)) w order₁ labels₁ counts₁ n k order₂ labels₂ counts₂
    (ap (λ (a : Opened). read a order₂ labels₂ counts₂) (sym index) ∙ back) in
    record {
      total = m.total;
      met_zero = m.met_room_lem;
      queue_zero = m.queue_room;
      built = held_demands h;
      size = size;
      index = index;
      same = same;
      answers = same_answers h fit.rooms same;
      read = held_demands (same_held h fit.rooms same);
    }
