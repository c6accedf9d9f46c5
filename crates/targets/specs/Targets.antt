-- The targets: records that each hold a frame and a mark, of which only the frame is read; their tests; and the joins from a
-- frame to them, which are the pair question's answers.
use Rattle.std.specs.Prelude.{ℕ, ◌+◌, List, [], ◌∷◌, length, get_or, leb}
use Rattle.basics.specs.Places.{least}
use Rattle.refusal.specs.Numbers.{SIZE}
use Rattle.refusal.specs.Tests.{test, ◌then◌, tests_from, Verdict, fine}
use Rattle.theory.specs.Chains.{Count, joins, none}
use Rattle.rows.specs.Meetings.{meeting_of}
use Rattle.rows.specs.Pair.{answered, said_of}
use Rattle.rows.specs.Rooms.{room_tests, frame_test, row_at}
use Rattle.targets.specs.declared.record.Target.{Target}

-- the most records
abbrev pub most_targets : ℕ
most_targets = 16

-- the frames of the records, in list order
unfoldable pub frames_of : List Target → List ℕ
frames_of [] = []
frames_of (t ∷ ts) = t.frame ∷ frames_of ts

-- 1 and 2 for a label room, a count room and so many records
unfoldable pub target_rooms : ℕ → ℕ → List ℕ → List ℕ → List ℕ → Verdict
target_rooms n w labels counts fs = test (leb (length fs) most_targets) SIZE 0 then room_tests n w labels counts

-- 8 for the records, in list order: the record's place plus one
unfoldable pub records_test : ℕ → List ℕ → Verdict
records_test n fs = tests_from (λ i. frame_test n (get_or fs i 0) (i + 1)) 0 (length fs)

-- above every answer of the pair question for sound rows: no joins at all
abbrev pub apart : ℕ
apart = 65535

-- what the pair question says, as a number; `apart` for none
unfoldable pub number_said : Count → ℕ
number_said (joins j) = j
number_said none = apart

-- the joins from frame v to record i, as the pair question answers for their two rows
unfoldable pub joins_to : ℕ → List ℕ → List ℕ → List ℕ → ℕ → ℕ → ℕ
joins_to w labels counts fs v i =
    number_said (said_of (answered fine (meeting_of (row_at w labels counts v) (row_at w labels counts (get_or fs i 0)))))

-- the fewest joins from frame v to any record
unfoldable pub fewest_joins : ℕ → List ℕ → List ℕ → List ℕ → ℕ → ℕ
fewest_joins w labels counts fs v = least apart (length fs) (joins_to w labels counts fs v)
