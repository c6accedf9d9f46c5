-- The two trips over the writer's and the reader's contracts: an index written and read back is the same index, and a file
-- read and written again is the same file. Where the output room is long enough the writer is not refused.
use Rattle.std.specs.Prelude.{Ok}
use Prim.Native.Nat.{ℕ, ◌+◌, ◌*◌, ◌≤◌}
use mathlib.Core.Path.{◌≡◌, sym, ap, ◌∙◌}
use mathlib.Core.List.{List}
use native.Mathlib.Omega.{arith}
use lib.ListN.{length, take, drop}
use Rattle.basics.specs.Places.{sum}
use Rattle.fields.specs.Bits.{Bytes}
use Rattle.fields.specs.Layout.{file_of, file_size}
use Rattle.file.specs.Index.{stored, SameIndex}
use Rattle.file.specs.Reader.{read_outcome, read_of, Opened, indexed}
use Rattle.file.specs.Inner.{Fit}
use Rattle.file.specs.Writer.{write_outcome, write_of, Written}
use Rattle.file.proofs.Fit.{fit_fine, file_bytes}
use Rattle.file.proofs.ReadWrite.{read_takes, read_then_write, read_written}
use Rattle.file.proofs.WriteRead.{write_read_here}
use Rattle.file.proofs.Writing.{out_fits_lem, write_filled, write_same}

module _ (n w k : ℕ) (O labels counts out : List ℕ) (start : ℕ) (written : Written) (room : List ℕ)
    (given : write_outcome written room ≡ write_of n w k O labels counts out start) where
  -- an index that passes the writer's tests, and room enough: not refused, and so many bytes
  pub write_taken : Fit n w k O labels counts → start + file_size n (sum counts) ≤ length out
      → written ≡ Ok (file_size n (sum counts))
  write_taken fits enough =
      let long : length (file_of n w k O labels counts) ≡ file_size n (sum counts) = file_bytes n w k O labels counts fits in
      let filled = write_filled n w k O labels counts out start (fit_fine n w k O labels counts fits) (out_fits_lem (length out) start _ (omega arith) (omega arith)) in
      (write_same n w k O labels counts out start written (Ok (length (file_of n w k O labels counts))) room _ given (sym filled)).0
      ∙ ap Ok long

  -- what was written, read back with the same W into any rooms of the right lengths, is the same index
  pub write_then_read : (bytes : ℕ) → written ≡ Ok bytes → (order₁ labels₁ counts₁ : List ℕ) → length order₁ ≡ n
      → length labels₁ ≡ n * w → length counts₁ ≡ n → (opened : Opened) (order₂ labels₂ counts₂ : List ℕ)
      → read_outcome opened order₂ labels₂ counts₂ ≡ read_of (take bytes (drop start room)) w order₁ labels₁ counts₁
      → (opened ≡ indexed n k) × SameIndex (stored n w k O labels counts) (stored n w k order₂ labels₂ counts₂)
  write_then_read bytes e order₁ labels₁ counts₁ p q r opened order₂ labels₂ counts₂ back =
      write_read_here n w k O labels counts out start bytes room (ap (λ (a : Written). write_outcome a room) (sym e) ∙ given)
      order₁ labels₁ counts₁ p q r order₂ labels₂ counts₂ opened back

-- a file read without a refusal, and its index written again into room enough: not refused, and the very bytes
module _ (s : List ℕ) (bytes : Bytes s) (w : ℕ) (order₁ labels₁ counts₁ : List ℕ) (n k : ℕ) (order₂ labels₂ counts₂ : List ℕ)
    (given : read_outcome (indexed n k) order₂ labels₂ counts₂ ≡ read_of s w order₁ labels₁ counts₁) where
  pub read_then_written : (out : List ℕ) (start : ℕ) (written : Written) (room : List ℕ)
      → write_outcome written room ≡ write_of n w k order₂ labels₂ counts₂ out start → start + length s ≤ length out
      → (written ≡ Ok (length s)) × (take (length s) (drop start room) ≡ s)
  read_then_written out start written room e enough =
      let fits : Fit n w k order₂ labels₂ counts₂ = read_takes s w order₁ labels₁ counts₁ n k order₂ labels₂ counts₂ given in
      let again : file_of n w k order₂ labels₂ counts₂ ≡ s = read_then_write s w order₁ labels₁ counts₁ n k order₂ labels₂ counts₂ given bytes in
      let long : length (file_of n w k order₂ labels₂ counts₂) ≡ length s = ap (λ (l : List ℕ). length l) again in
      let size : length (file_of n w k order₂ labels₂ counts₂) ≡ file_size n (sum counts₂) = file_bytes n w k order₂ labels₂ counts₂ fits in
      let same : file_size n (sum counts₂) ≡ length s = sym size ∙ long in
      let took : written ≡ Ok (length s) =
      write_taken n w k order₂ labels₂ counts₂ out start written room e fits (omega arith) ∙ ap Ok same in (
        took,
        read_written s w order₁ labels₁ counts₁ n k order₂ labels₂ counts₂ given bytes out start (length s) room
            (ap (λ (a : Written). write_outcome a room) (sym took) ∙ e),
      )
