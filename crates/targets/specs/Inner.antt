-- What inner functions ask of each other and promise: the records taken apart, and a table of joins by rank.
use Rattle.refusal.specs.Tests.{fine}
use Rattle.std.specs.Prelude.{ℕ, ◌+◌, ◌<◌, ◌≤◌, min, ◌≡◌, cond, List, [], ◌∷◌, length, get_or, set, eqb, ltb}
use Rattle.basics.specs.Places.{count, first, least, table}
use Rattle.refusal.specs.Sizes.{most_frames, most_width}
use Rattle.entry.specs.Entry.{rank_of, joins_of}
use Rattle.rows.specs.Inner.{RowLies}
use Rattle.rows.specs.Rooms.{row_at}
use Rattle.targets.specs.Nearest.{nearest_by, NearestTarget}
use Rattle.targets.specs.Sixteen.{counted_at}
use Rattle.targets.specs.Targets.{most_targets, apart}
use Rattle.targets.specs.declared.record.Listed.{Listed}
use Rattle.targets.specs.declared.record.Target.{Target}

-- ---- the records taken apart

-- what stands where there is no record
abbrev pub no_target : Target
no_target = record { frame = 0; mark = 0 }

-- the frame of record i, 0 where there is none
unfoldable pub frame_at : List Target → ℕ → ℕ
frame_at ts i = (get_or ts i no_target).frame

-- so many records, and the frames taken of them
abbrev pub listed_with : ℕ → List ℕ → Listed
listed_with count frames = record { count = count; frames = frames }

-- how many records there are, and the frames of the first sixteen
unfoldable pub listed_of : List Target → Listed
listed_of ts = listed_with (length ts) (table most_targets (frame_at ts))

-- the frames of records taken apart: as many as there are records, 0 for those behind the sixteenth
unfoldable pub frames_in : Listed → List ℕ
frames_in l = table l.count (λ i. get_or l.frames i 0)

-- ---- a table of joins by rank

-- a table with a row's joins noted by rank, where they are fewer than what stands there
unfoldable pub noted_in : List ℕ → List ℕ → List ℕ
noted_in [] noted = noted
noted_in (e ∷ es) noted = noted_in es (set noted (rank_of e) (min (joins_of e) (get_or noted (rank_of e) 0)))

-- the fewest joins of a row's entries and the table together, at most `apart`
unfoldable pub reach_of : List ℕ → List ℕ → ℕ
reach_of noted [] = apart
reach_of noted (e ∷ es) = min (joins_of e + get_or noted (rank_of e) 0) (reach_of noted es)

-- every rank of the row has its place in the table
pub record RanksIn (noted row : List ℕ) : Type 0 where
  pub low : (i : ℕ) → i < length row → rank_of (get_or row i 0) < length noted

-- no joins in the table are above `apart`
pub record NotedLow (noted : List ℕ) : Type 0 where
  pub most : (r : ℕ) → r < length noted → get_or noted r 0 ≤ apart

-- ---- rows behind fine tests

-- every frame named is below n
pub record FramesIn (n : ℕ) (fs : List ℕ) : Type 0 where
  pub few : length fs ≤ most_targets
  pub low : (i : ℕ) → i < length fs → get_or fs i 0 < n

-- row v lies in the rooms, and its ranks have their places in the table
pub record RowKnown (w : ℕ) (labels counts noted : List ℕ) (v : ℕ) : Type 0 where
  pub wide : w ≤ most_width
  pub frame : v < most_frames
  pub row : RowLies w labels counts v
  pub ranks : RanksIn noted (row_at w labels counts v)

-- that for the rows of all records
pub record RowsKnown (w : ℕ) (labels counts fs noted : List ℕ) : Type 0 where
  pub few : length fs ≤ most_targets
  pub low : NotedLow noted
  pub rows : (i : ℕ) → i < length fs → RowKnown w labels counts noted (get_or fs i 0)

-- that for the rows of all frames
pub record AllKnown (w : ℕ) (labels counts noted : List ℕ) : Type 0 where
  pub few : length counts ≤ most_frames
  pub low : NotedLow noted
  pub rows : (v : ℕ) → v < length counts → RowKnown w labels counts noted v

-- the rows of a list of frames noted, one after another
unfoldable pub noted_rows : ℕ → List ℕ → List ℕ → List ℕ → List ℕ → List ℕ
noted_rows w labels counts [] noted = noted
noted_rows w labels counts (f ∷ fs) noted = noted_rows w labels counts fs (noted_in (row_at w labels counts f) noted)

-- what is noted reaches record i in so many joins
unfoldable pub reach_to : ℕ → List ℕ → List ℕ → List ℕ → List ℕ → ℕ → ℕ
reach_to w labels counts fs noted i = reach_of noted (row_at w labels counts (get_or fs i 0))

-- the first record of fewest joins to what is noted, where any has less than `apart`
unfoldable pub first_reached : ℕ → List ℕ → List ℕ → List ℕ → List ℕ → NearestTarget
first_reached w labels counts fs noted =
    let fewest : ℕ = least apart (length fs) (reach_to w labels counts fs noted) in
    nearest_by fine fewest (first (λ i. eqb (reach_to w labels counts fs noted i) fewest) 0 (length fs))

-- one more counted, so many joins away
unfoldable pub raised_at : List ℕ → ℕ → List ℕ
raised_at sixteen joins =
    cond (ltb joins apart) (set sixteen (min joins 15) (get_or sixteen (min joins 15) 0 + 1)) sixteen

-- sixteen counts that can be raised
pub record RaiseIn (sixteen : List ℕ) : Type 0 where
  pub long : length sixteen ≡ 16
  pub low : (i : ℕ) → i < 16 → get_or sixteen i 0 ≤ most_frames

-- the sixteen counts of the first k frames, by what is noted
unfoldable pub reached_counts : ℕ → List ℕ → List ℕ → List ℕ → ℕ → List ℕ
reached_counts w labels counts noted k =
    table 16 (λ i. count (λ v. counted_at (reach_of noted (row_at w labels counts v)) i) k)
