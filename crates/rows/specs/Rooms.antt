-- The label room and the count room, and the tests on their rows: row v starts at place v * w and has as many used
-- entries as the count room says.
use Rattle.std.specs.Prelude.{ℕ, ◌+◌, ◌-◌, ◌*◌, Bool, cond, not, ◌&&◌, ◌||◌, List, [], length, get_or, take, drop, leb, ltb, eqb}
use Rattle.basics.specs.Places.{some, sum}
use Rattle.refusal.specs.Numbers.{SIZE, LENGTH, FRAME, ROW}
use Rattle.refusal.specs.Sizes.{most_frames, most_width, sizes_fit}
use Rattle.refusal.specs.Tests.{test, ◌then◌, lowest_test, Verdict}
use Rattle.entry.specs.Entry.{rank_of, joins_of}

-- the label room has n * W places, the count room n
unfoldable pub rooms_fit : ℕ → ℕ → List ℕ → List ℕ → Bool
rooms_fit n w labels counts = eqb (length labels) (n * w) && eqb (length counts) n

-- 1 and 2 for a label room and a count room
unfoldable pub room_tests : ℕ → ℕ → List ℕ → List ℕ → Verdict
room_tests n w labels counts = test (sizes_fit n w) SIZE 0 then test (rooms_fit n w labels counts) LENGTH 0

-- the sum of a count room; 0 for one of over 4,096 counts, which no index has
unfoldable pub total_of : List ℕ → ℕ
total_of counts = cond (leb (length counts) most_frames) (sum counts) 0

-- `count` entries of row v
unfoldable pub part : ℕ → List ℕ → ℕ → ℕ → List ℕ
part w labels v count = take count (drop (v * w) labels)

-- `count` entries of row v lie in a room: rows are below 4,096 and at most 256 wide, and the room goes so far
unfoldable pub in_room : ℕ → List ℕ → ℕ → ℕ → Bool
in_room w labels v count = ltb v most_frames && leb w most_width && leb (v * w + count) (length labels)

-- `count` entries of row v, and none where they do not lie in the room
unfoldable pub part_of : ℕ → List ℕ → ℕ → ℕ → List ℕ
part_of w labels v count = cond (in_room w labels v count) (part w labels v count) []

-- where such a part starts in the label room: at its front where it does not lie in it
unfoldable pub part_start : ℕ → List ℕ → ℕ → ℕ → ℕ
part_start w labels v count = cond (in_room w labels v count) (v * w) 0

-- the used part of row v
unfoldable pub row_at : ℕ → List ℕ → List ℕ → ℕ → List ℕ
row_at w labels counts v = part w labels v (get_or counts v 0)

-- entry i of a row breaks the rule: rank not below the bound, joins not below n, or rank not above the one before
unfoldable pub faulty_entry : ℕ → ℕ → List ℕ → ℕ → Bool
faulty_entry n bound row i =
    leb bound (rank_of (get_or row i 0))
    || leb n (joins_of (get_or row i 0))
    || (ltb 0 i && leb (rank_of (get_or row i 0)) (rank_of (get_or row (i - 1) 0)))

-- a sound row has count at most W, strictly rising ranks below the bound, joins below n
unfoldable pub sound_row : ℕ → ℕ → ℕ → List ℕ → List ℕ → ℕ → Bool
sound_row n w bound labels counts v =
    leb (get_or counts v 0) w && not (some (faulty_entry n bound (row_at w labels counts v)) 0 (get_or counts v 0))

-- row v is not sound
abbrev pub unsound : ℕ → ℕ → ℕ → List ℕ → List ℕ → ℕ → Bool
unsound n w bound labels counts v = not (sound_row n w bound labels counts v)

-- 8: the asked frame is n or more
unfoldable pub frame_test : ℕ → ℕ → ℕ → Verdict
frame_test n v place = test (ltb v n) FRAME place

-- 9: row v is not sound; the frame
unfoldable pub row_test : ℕ → ℕ → ℕ → List ℕ → List ℕ → ℕ → Verdict
row_test n w bound labels counts v = test (sound_row n w bound labels counts v) ROW v

-- 9 for all rows: the lowest frame whose row is not sound
unfoldable pub rows_test : ℕ → ℕ → ℕ → List ℕ → List ℕ → Verdict
rows_test n w bound labels counts = lowest_test (unsound n w bound labels counts) n ROW

-- the test of all rows for a bound: 1, 2, 9
unfoldable pub check_rows : ℕ → ℕ → ℕ → List ℕ → List ℕ → Verdict
check_rows n w bound labels counts = room_tests n w labels counts then rows_test n w bound labels counts

-- 1, 2, 8: the rooms, then the one frame asked, or the first of two
unfoldable pub frame_tests : ℕ → ℕ → List ℕ → List ℕ → ℕ → Verdict
frame_tests n w labels counts v = room_tests n w labels counts then frame_test n v 0

-- the row check: 1, 2, 8, 9
unfoldable pub check_row : ℕ → ℕ → List ℕ → List ℕ → ℕ → Verdict
check_row n w labels counts v = frame_tests n w labels counts v then row_test n w n labels counts v
