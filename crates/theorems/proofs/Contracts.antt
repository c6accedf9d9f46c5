-- The same theorems over the functions' own contracts. A call is any outcome that the function's contract allows: numbers and
-- room contents before it, what came back, and room contents after it.
use Rattle.std.specs.Prelude.{Ok}
use Prim.Native.Nat.{ℕ, ◌+◌, ◌*◌, ◌≤◌, ◌<◌}
use mathlib.Core.Path.{◌≡◌, refl, sym, ap, subst, ◌∙◌}
use mathlib.Core.List.{List}
use contract.Lifetimes.{Lfts}
use borrow.Fn.Kinds.{Dens, ended_of}
use denote.Triple.Clauses.{AtExit}
use lib.ListN.{length, take, drop}
use Rattle.theory.specs.Links.{hub_of}
use Rattle.theory.specs.Chains.{Least, Through}
use Rattle.rows.specs.Pair.{pair_of, pair_told, said_of, Answer}
use Rattle.rows.proofs.pair.pair.Kinds as pair-kinds
use Rattle.rows.proofs.pair.pair.Reads as pair-reads
use Rattle.build.specs.Build.{build_outcome, build_of, Built}
use Rattle.build.proofs.build.Kinds as build-kinds
use Rattle.build.proofs.build.Reads as build-reads
use Rattle.fields.specs.Bits.{Bytes}
use Rattle.fields.specs.Layout.{file_size}
use Rattle.file.specs.Index.{stored, SameIndex}
use Rattle.file.specs.Reader.{read_outcome as read, read_of, Opened, indexed}
use Rattle.file.specs.Writer.{write_outcome, write_of, Written}
use Rattle.file.proofs.write.Kinds as write-kinds
use Rattle.file.proofs.write.Reads as write-reads
use Rattle.file.proofs.read.Kinds as read-kinds
use Rattle.file.proofs.read.Reads as read-reads
use Rattle.theorems.specs.Demands.{Joins, Demands}
use Rattle.theorems.specs.EndToEnd.{EndToEnd}
use Rattle.theorems.proofs.Demand.{built_demands}
use Rattle.theorems.proofs.EndToEnd.{end_to_end}
use Rattle.theorems.proofs.Trips.{write_then_read, read_then_written}

-- a call of the build
pub record BuildCall (n w k : ℕ) (S L O labels₀ counts₀ met₀ queue₀ : List ℕ) (r : Built) (labels counts met queue : List ℕ) : Type 1 where
  pub κs : Lfts 7
  pub a : Dens κs build-kinds.ps
  pub s : AtExit (ended_of 7 build-kinds.ps build-kinds.r) κs
  pub post : build-reads.Post κs a r s
  pub frames : a.0 ≡ n
  pub width : a.1.0 ≡ w
  pub stop : a.1.1.0 ≡ k
  pub starts : a.1.1.1.0.now ≡ S
  pub places : a.1.1.1.1.0.now ≡ L
  pub order : a.1.1.1.1.1.0.now ≡ O
  pub labels_lent : a.1.1.1.1.1.1.0.now ≡ labels₀
  pub counts_lent : a.1.1.1.1.1.1.1.0.now ≡ counts₀
  pub met_lent : a.1.1.1.1.1.1.1.1.0.now ≡ met₀
  pub queue_lent : a.1.1.1.1.1.1.1.1.1.0.now ≡ queue₀
  pub labels_left : s.1.1.1.1.1.1.0.now ≡ labels
  pub counts_left : s.1.1.1.1.1.1.1.0.now ≡ counts
  pub met_left : s.1.1.1.1.1.1.1.1.0.now ≡ met
  pub queue_left : s.1.1.1.1.1.1.1.1.1.0.now ≡ queue

-- its contract, in those numbers and contents
build_out : {n w k : ℕ} {S L O labels₀ counts₀ met₀ queue₀ : List ℕ} {r : Built} {labels counts met queue : List ℕ}
    → BuildCall n w k S L O labels₀ counts₀ met₀ queue₀ r labels counts met queue
    → build_outcome r labels counts met queue ≡ build_of n w k S L O labels₀ counts₀ met₀ queue₀
build_out {r} c =
    (λ i. build_outcome r (sym c.labels_left i) (sym c.counts_left i) (sym c.met_left i) (sym c.queue_left i))
    ∙ c.post
    ∙ (λ i.
    build_of (c.frames i) (c.width i) (c.stop i) (c.starts i) (c.places i) (c.order i) (c.labels_lent i)
    (c.counts_lent i) (c.met_lent i) (c.queue_lent i))

-- a call of the writer
pub record WriteCall (n w k : ℕ) (O labels counts out : List ℕ) (start : ℕ) (r : Written) (room : List ℕ) : Type 1 where
  pub κs : Lfts 4
  pub a : Dens κs write-kinds.ps
  pub s : AtExit (ended_of 4 write-kinds.ps write-kinds.r) κs
  pub post : write-reads.Post κs a r s
  pub frames : a.0 ≡ n
  pub width : a.1.0 ≡ w
  pub stop : a.1.1.0 ≡ k
  pub order : a.1.1.1.0.now ≡ O
  pub labels_lent : a.1.1.1.1.0.now ≡ labels
  pub counts_lent : a.1.1.1.1.1.0.now ≡ counts
  pub out_lent : a.1.1.1.1.1.1.0.now ≡ out
  pub from : a.1.1.1.1.1.1.1.0 ≡ start
  pub out_left : s.1.1.1.1.1.1.0.now ≡ room

write_out : {n w k : ℕ} {O labels counts out : List ℕ} {start : ℕ} {r : Written} {room : List ℕ}
    → WriteCall n w k O labels counts out start r room → write_outcome r room ≡ write_of n w k O labels counts out start
write_out {r} c =
    (λ i. write_outcome r (sym c.out_left i))
    ∙ c.post
    ∙ (λ i.
    write_of (c.frames i) (c.width i) (c.stop i) (c.order i) (c.labels_lent i) (c.counts_lent i) (c.out_lent i) (c.from i))

-- a call of the reader
pub record ReadCall (bytes : List ℕ) (w : ℕ) (order₁ labels₁ counts₁ : List ℕ) (r : Opened) (order₂ labels₂ counts₂ : List ℕ) : Type 1 where
  pub κs : Lfts 4
  pub a : Dens κs read-kinds.ps
  pub s : AtExit (ended_of 4 read-kinds.ps read-kinds.r) κs
  pub post : read-reads.Post κs a r s
  pub file : a.0.now ≡ bytes
  pub width : a.1.0 ≡ w
  pub order_lent : a.1.1.0.now ≡ order₁
  pub labels_lent : a.1.1.1.0.now ≡ labels₁
  pub counts_lent : a.1.1.1.1.0.now ≡ counts₁
  pub order_left : s.1.1.0.now ≡ order₂
  pub labels_left : s.1.1.1.0.now ≡ labels₂
  pub counts_left : s.1.1.1.1.0.now ≡ counts₂

read_out : {bytes : List ℕ} {w : ℕ} {order₁ labels₁ counts₁ : List ℕ} {r : Opened} {order₂ labels₂ counts₂ : List ℕ}
    → ReadCall bytes w order₁ labels₁ counts₁ r order₂ labels₂ counts₂
    → read r order₂ labels₂ counts₂ ≡ read_of bytes w order₁ labels₁ counts₁
read_out {r} c =
    (λ i. read r (sym c.order_left i) (sym c.labels_left i) (sym c.counts_left i))
    ∙ c.post.0
    ∙ (λ i. read_of (c.file i) (c.width i) (c.order_lent i) (c.labels_lent i) (c.counts_lent i))

-- a call of the pair question
pub record PairCall (n w : ℕ) (labels counts : List ℕ) (s t : ℕ) (r : Answer) : Type 1 where
  pub κs : Lfts 2
  pub a : Dens κs pair-kinds.ps
  pub e : AtExit (ended_of 2 pair-kinds.ps pair-kinds.r) κs
  pub post : pair-reads.Post κs a r e
  pub frames : a.0 ≡ n
  pub width : a.1.0 ≡ w
  pub labels_lent : a.1.1.0.now ≡ labels
  pub counts_lent : a.1.1.1.0.now ≡ counts
  pub first : a.1.1.1.1.0 ≡ s
  pub second : a.1.1.1.1.1.0 ≡ t

pair_out : {n w : ℕ} {labels counts : List ℕ} {s t : ℕ} {r : Answer} → PairCall n w labels counts s t r
    → r ≡ pair_of n w labels counts s t
pair_out c =
    c.post.0 ∙ (λ i. pair_of (c.frames i) (c.width i) (c.labels_lent i) (c.counts_lent i) (c.first i) (c.second i))

-- any unrefused call of the build leaves rooms that meet demands 2 and 3
pub build_demands : {n w k : ℕ} {S L O labels₀ counts₀ met₀ queue₀ : List ℕ} {entries : ℕ} {labels counts met queue : List ℕ}
    → BuildCall n w k S L O labels₀ counts₀ met₀ queue₀ (Ok entries) labels counts met queue
    → Demands n w k S L O labels counts
build_demands c = built_demands _ _ _ _ _ _ _ _ _ _ _ _ _ _ _ (build_out c)

-- any unrefused build, any call of the writer with room enough, any call of the reader with the same W and rooms of the right lengths
pub calls_end_to_end : {n w k : ℕ} {S L O labels₀ counts₀ met₀ queue₀ : List ℕ} {entries : ℕ} {labels counts met queue : List ℕ}
    → BuildCall n w k S L O labels₀ counts₀ met₀ queue₀ (Ok entries) labels counts met queue
    → {out : List ℕ} {start : ℕ} → start + file_size n entries ≤ length out → {written : Written} {room : List ℕ}
    → WriteCall n w k O labels counts out start written room
    → {order₁ labels₁ counts₁ : List ℕ} → length order₁ ≡ n → length labels₁ ≡ n * w → length counts₁ ≡ n
    → {opened : Opened} {order₂ labels₂ counts₂ : List ℕ}
    → ReadCall (take (file_size n entries) (drop start room)) w order₁ labels₁ counts₁ opened order₂ labels₂ counts₂
    → EndToEnd n w k S L O entries labels counts met queue written opened order₂ labels₂ counts₂
calls_end_to_end built enough wrote p q r back =
    end_to_end _ _ _ _ _ _ _ _ _ _ _ _ _ _ _ (build_out built) _ _ enough _ _ (write_out wrote) _ _ _ p q r _ _ _ _ (read_out back)

-- and whichever of these rooms is then asked, what the pair question hands back is demand 3's answer, with number 0
pub calls_asked : {n w k : ℕ} {S L O labels counts : List ℕ} {s t : ℕ} {r : Answer} → Demands n w k S L O labels counts
    → PairCall n w labels counts s t r → s < n → t < n
    → ((pair_told r).number ≡ 0) × Least (Through (Joins S L) (hub_of O) k s t) (said_of r)
calls_asked {k} {S} {L} {O} {s} {t} d c p q = (
  ap (λ (x : Answer). (pair_told x).number) (pair_out c) ∙ d.taken s t p q,
  subst (Least (Through (Joins S L) (hub_of O) k s t)) (sym (ap said_of (pair_out c))) (d.fewest s t p q),
)

-- any index written, and read back with the same W into rooms of the right lengths, is the same index
pub calls_write_read : {n w k : ℕ} {O labels counts out : List ℕ} {start bytes : ℕ} {room : List ℕ}
    → WriteCall n w k O labels counts out start (Ok bytes) room
    → {order₁ labels₁ counts₁ : List ℕ} → length order₁ ≡ n → length labels₁ ≡ n * w → length counts₁ ≡ n
    → {opened : Opened} {order₂ labels₂ counts₂ : List ℕ}
    → ReadCall (take bytes (drop start room)) w order₁ labels₁ counts₁ opened order₂ labels₂ counts₂
    → (opened ≡ indexed n k) × SameIndex (stored n w k O labels counts) (stored n w k order₂ labels₂ counts₂)
calls_write_read c p q r back =
    write_then_read _ _ _ _ _ _ _ _ _ _ (write_out c) _ refl _ _ _ p q r _ _ _ _ (read_out back)

-- any file read, and its index written again with the same W into room enough, is the same file
pub calls_read_write : {bytes : List ℕ} → Bytes bytes → {n w k : ℕ} {order₁ labels₁ counts₁ order₂ labels₂ counts₂ : List ℕ}
    → ReadCall bytes w order₁ labels₁ counts₁ (indexed n k) order₂ labels₂ counts₂
    → {out : List ℕ} {start : ℕ} {written : Written} {room : List ℕ} → WriteCall n w k order₂ labels₂ counts₂ out start written room
    → start + length bytes ≤ length out → (written ≡ Ok (length bytes)) × (take (length bytes) (drop start room) ≡ bytes)
calls_read_write b c d enough = read_then_written _ b _ _ _ _ _ _ _ _ _ (read_out c) _ _ _ _ (write_out d) enough
