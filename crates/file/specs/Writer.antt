-- The writer of the index file, in the paper's words: the tests in their order, and what the output room holds afterwards.
-- n frames, width w, stop k, order O, label room and count room; the file goes into the output room from byte `start` on.
use Rattle.std.specs.Prelude.{ℕ, ◌+◌, ◌-◌, Bool, ◌&&◌, List, [], ◌∷◌, ◌++◌, length, take, drop, leb, Ok, Err, Result}
use Rattle.refusal.specs.Numbers.{SIZE, LENGTH, OUT}
use Rattle.refusal.specs.Sizes.{sizes_fit}
use Rattle.refusal.specs.Tests.{test, ◌then◌, Verdict, Refusal}
use Rattle.refusal.specs.Told.{Told, gives, refuses}
use Rattle.links.specs.Order.{order_test}
use Rattle.rows.specs.Rooms.{rows_test}
use Rattle.fields.specs.Layout.{file_of}
use Rattle.file.specs.Index.{lengths_fit}

-- the bytes filled, or a refusal
abbrev pub Written : Type 0
Written = Result ℕ Refusal

-- n from 1 to 4,096, W from 1 to 256, k from 0 to n
unfoldable pub index_sizes : ℕ → ℕ → ℕ → Bool
index_sizes n w k = sizes_fit n w && leb k n

-- 1, 2, 5, and 9 with the bound k
unfoldable pub write_tests : ℕ → ℕ → ℕ → List ℕ → List ℕ → List ℕ → Verdict
write_tests n w k O labels counts =
    test (index_sizes n w k) SIZE 0
    then test (lengths_fit n w (length O) (length labels) (length counts)) LENGTH 0
    then order_test n O
    then rows_test n w k labels counts

-- a start inside the room, and from there to its end as many bytes as the file has
unfoldable pub out_fits : ℕ → ℕ → ℕ → Bool
out_fits room start size = leb start room && leb size (room - start)

-- 14: start past the room's end, or fewer bytes from there to the end than the file has
unfoldable pub out_test : ℕ → ℕ → ℕ → Verdict
out_test room start size = test (out_fits room start size) OUT 0

-- the paper's numbers: the bytes filled
unfoldable pub written_told : Written → Told
written_told (Ok filled) = gives (filled ∷ [])
written_told (Err r) = refuses r 1

-- what comes back, also in the paper's numbers, and what the output room then holds
pub record WriteOutcome : Type 0 where
  pub answer : Written
  pub told : Told
  pub room : List ℕ

abbrev pub write_outcome : Written → List ℕ → WriteOutcome
write_outcome answer room = record { answer = answer; told = written_told answer; room = room }

-- the file fills a stretch of the room from `start` on, bytes outside it stay; as lent where the tests refuse
unfoldable pub filled_from : Verdict → List ℕ → ℕ → List ℕ → WriteOutcome
filled_from (Ok _) out start file =
    write_outcome (Ok (length file)) (take start out ++ (file ++ drop (start + length file) out))
filled_from (Err r) out start file = write_outcome (Err r) out

-- the writer
unfoldable pub write_of : ℕ → ℕ → ℕ → List ℕ → List ℕ → List ℕ → List ℕ → ℕ → WriteOutcome
write_of n w k O labels counts out start =
    let file : List ℕ = file_of n w k O labels counts in
    filled_from (write_tests n w k O labels counts then out_test (length out) start (length file)) out start file
