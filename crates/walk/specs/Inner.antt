-- What the inner functions of one hub's walk ask of each other and promise. The search: what it needs of the rooms, what it
-- leaves in the queue, and what holds between two frames of it. `noted` is the hub's row by rank: its joins, and `lacking`
-- where the row lacks the rank. Then the stores, told by the met room. Last what `walk` asks of the build, and what it promises.
use Rattle.std.specs.Prelude.{ℕ, ◌+◌, ◌-◌, ◌*◌, ◌%◌, ◌≤◌, ◌<◌, ◌≡◌, ◌⊎◌, Bool, true, false, cond, not, ◌&&◌, List, [], ◌∷◌, ◌++◌, length, get_or, take, drop, set, replicate, leb, ltb}
use Rattle.basics.specs.Places.{some, stands, table}
use Rattle.refusal.specs.Sizes.{most_frames, most_joins}
use Rattle.theory.specs.Distance.{far}
use Rattle.theory.specs.Links.{Block, Link}
use Rattle.theory.specs.Plain.{ones}
use Rattle.theory.specs.Rows.{Row}
use Rattle.entry.specs.Entry.{rank_of, joins_of}
use Rattle.rows.specs.Rooms.{row_at}
use Rattle.rows.specs.Inner.{Laid}
use Rattle.rows.specs.Laid.{rows_in}
use Rattle.std.specs.List.{list_any}
use Rattle.walk.specs.Walk.{Walked, level_of, so_far, decided, if_made, walked_rows, walk_of}

-- ---- what the rooms hold

-- what the mark of a dropped frame has more than its level + 1
abbrev pub drop_mark : ℕ
drop_mark = 65536

-- the joins noted for a rank that the hub's row lacks: above every level
abbrev pub lacking : ℕ
lacking = 65536

-- what the met room holds for a frame: 0 not met; level + 1 kept; `drop_mark` more than that where it is dropped
unfoldable pub mark : ℕ → ℕ → ℕ → ℕ
mark most level answered = cond (ltb level most) (cond (ltb level answered) (level + 1) (level + 1 + drop_mark)) 0

-- the met room after the walk has found its frames
unfoldable pub met_room : ℕ → ℕ → List ℕ → List ℕ → List ℕ → List ℕ → ℕ → List ℕ
met_room n w S L labels counts hub =
    table n (λ v. mark (far 1 n) (level_of n w S L labels counts hub v) (so_far n w labels counts hub v))

-- ---- the search

-- every row is such that a walk can go by it: count at most W, strictly rising ranks below n
pub record RisingRows (n w : ℕ) (labels counts : List ℕ) : Type 0 where
  pub fits : (v : ℕ) → v < n → get_or counts v 0 ≤ w
  pub ranks : (v i : ℕ) → v < n → i < get_or counts v 0 → rank_of (get_or (row_at w labels counts v) i 0) < n
  pub rising : (v i j : ℕ) → v < n → i < j → j < get_or counts v 0
      → rank_of (get_or (row_at w labels counts v) i 0) < rank_of (get_or (row_at w labels counts v) j 0)

-- a block of n frames, rising rows of width w, a hub, the two work rooms at 0, and the table of joins by rank at `lacking`
pub record ExploreIn (n w : ℕ) (S L labels counts : List ℕ) (hub : ℕ) (met queue noted : List ℕ) : Type 0 where
  pub frames : n ≤ 4096
  pub wide : 1 ≤ w
  pub width : w ≤ 256
  pub block : Block n 1 S L ones
  pub labels_long : length labels ≡ n * w
  pub rows : RisingRows n w labels counts
  pub hub_in : hub < n
  pub met_zero : met ≡ replicate n 0
  pub queue_zero : queue ≡ replicate n 0
  pub noted_lacking : noted ≡ replicate most_frames lacking

-- The first `tail` places of the queue are the frames that the met room marks, each once; the places behind them are 0.
pub record Queued (met queue : List ℕ) (tail : ℕ) : Type 0 where
  pub long : length queue ≡ length met
  pub few : tail ≤ length met
  pub low : (i : ℕ) → i < tail → get_or queue i 0 < length met
  pub is_met : (i : ℕ) → i < tail → 0 < get_or met (get_or queue i 0) 0
  pub all : (v : ℕ) → v < length met → 0 < get_or met v 0 → (i : ℕ) × (i < tail) × (get_or queue i 0 ≡ v)
  pub once : (i j : ℕ) → i < j → j < tail → get_or queue i 0 ≡ get_or queue j 0 → ⊥
  pub rest : (i : ℕ) → tail ≤ i → get_or queue i 0 ≡ 0

-- frame v stands at one of the first i places of the list
abbrev pub stood : List ℕ → ℕ → ℕ → Bool
stood frames i v = stands (λ j. get_or frames j 0) i v

-- The list holds the frames that the met room marks, each once: the part of the queue that a walk has filled.
pub record Listed (met frames : List ℕ) : Type 0 where
  pub few : length frames ≤ length met
  pub low : (i : ℕ) → i < length frames → get_or frames i 0 < length met
  pub is_met : (i : ℕ) → i < length frames → 0 < get_or met (get_or frames i 0) 0
  pub all : (v : ℕ) → v < length met → 0 < get_or met v 0 → stood frames (length frames) v ≡ true
  pub once : (i j : ℕ) → i < j → j < length frames → get_or frames i 0 ≡ get_or frames j 0 → ⊥

-- a frame that is not dropped has a level below `tail`: its mark is the level + 1
pub record Low (met : List ℕ) (tail : ℕ) : Type 0 where
  pub mark : (v : ℕ) → v < length met → get_or met v 0 < drop_mark → get_or met v 0 ≤ tail

-- the mark that v was met with, one more than its level: what a drop adds is taken off
abbrev pub met_at : List ℕ → ℕ → ℕ
met_at met v = get_or met v 0 % drop_mark

-- a table with this note of each entry of a row stored at its rank
unfoldable pub noted_by : (ℕ → ℕ) → List ℕ → List ℕ → List ℕ
noted_by note [] noted = noted
noted_by note (e ∷ es) noted = noted_by note es (set noted (rank_of e) (note e))

-- the entry and the noted joins of its rank give a sum of at most the level
abbrev pub entry_within : List ℕ → ℕ → ℕ → Bool
entry_within noted level e = leb (joins_of e + get_or noted (rank_of e) 0) level

-- the answer for the noted row and this row is at most the level: some entry says so
unfoldable pub row_within : List ℕ → List ℕ → ℕ → Bool
row_within noted row level = list_any (entry_within noted level) row

-- the same for the row of u
unfoldable pub drops : ℕ → List ℕ → List ℕ → List ℕ → ℕ → ℕ → Bool
drops w labels counts noted u level = row_within noted (row_at w labels counts u) level

-- n rising rows in a label room of n * w places
pub record RowsRise (n w : ℕ) (labels counts : List ℕ) : Type 0 where
  pub long : length labels ≡ n * w
  pub rows : RisingRows n w labels counts

-- the list of v lies in the places
pub record ListLies (S L : List ℕ) (v : ℕ) : Type 0 where
  pub started : v + 1 < length S
  pub rise : get_or S v 0 ≤ get_or S (v + 1) 0
  pub lies : get_or S (v + 1) 0 ≤ length L

-- the list of v: its part of the places
unfoldable pub list_at : List ℕ → List ℕ → ℕ → List ℕ
list_at S L v = take (get_or S (v + 1) 0 - get_or S v 0) (drop (get_or S v 0) L)

-- what meeting the frames of a list needs: they are frames, and the mark says met
pub record MeetIn (list : List ℕ) (mark : ℕ) (met queue : List ℕ) (tail : ℕ) : Type 0 where
  pub low : (i : ℕ) → i < length list → get_or list i 0 < length met
  pub some : 0 < mark
  pub line : Queued met queue tail

-- The first `upto` frames of the list are met: those not met before with this mark, behind the old queue.
pub record Grown (list : List ℕ) (upto mark : ℕ) (met queue : List ℕ) (tail : ℕ) (met' queue' : List ℕ) (tail' : ℕ) : Type 0 where
  pub line : Queued met' queue' tail'
  pub long : length met' ≡ length met
  pub more : tail ≤ tail'
  pub front : (i : ℕ) → i < tail → get_or queue' i 0 ≡ get_or queue i 0
  pub old : (v : ℕ) → 0 < get_or met v 0 → get_or met' v 0 ≡ get_or met v 0
  pub fresh : (i : ℕ) → tail ≤ i → i < tail' → get_or met (get_or queue' i 0) 0 ≡ 0
  pub new : (v : ℕ) → get_or met v 0 ≡ 0 → 0 < get_or met' v 0
      → (get_or met' v 0 ≡ mark) × (i : ℕ) × (i < length list) × (get_or list i 0 ≡ v)
  pub all : (i : ℕ) → i < upto → 0 < get_or met' (get_or list i 0) 0

-- a frame that is not dropped: every neighbour is met, at most one level on
pub record Kept (S L : List ℕ) (drop : ℕ → ℕ → Bool) (met : List ℕ) (u : ℕ) : Type 0 where
  pub plain : get_or met u 0 < drop_mark
  pub free : drop u (met_at met u - 1) ≡ false
  pub met_all : (v : ℕ) → Link S L ones u v 1 → 0 < get_or met v 0
  pub next : (v : ℕ) → Link S L ones u v 1 → met_at met v ≤ met_at met u + 1

-- a frame that is dropped has `drop_mark` more than its mark
pub record Dropped (drop : ℕ → ℕ → Bool) (met : List ℕ) (u : ℕ) : Type 0 where
  pub over : drop_mark ≤ get_or met u 0
  pub found : drop u (met_at met u - 1) ≡ true

-- a frame that was met from a kept frame before place `head` of the queue
pub record Parent (S L met queue : List ℕ) (head v : ℕ) : Type 0 where
  pub place : ℕ
  pub before : place < head
  pub link : Link S L ones (get_or queue place 0) v 1
  pub kept : get_or met (get_or queue place 0) 0 < drop_mark
  pub met_at : met_at met v ≡ met_at met (get_or queue place 0) + 1

-- The walk with the frames before place `head` of the queue done: levels never fall along the queue, and the last is at most one above
-- that of the frame at `head`; every frame but the hub has its reason.
pub record Bfs (n : ℕ) (S L : List ℕ) (drop : ℕ → ℕ → Bool) (hub : ℕ) (met queue : List ℕ) (head tail : ℕ) : Type 0 where
  pub long : length met ≡ n
  pub line : Queued met queue tail
  pub ahead : head ≤ tail
  pub some : 0 < tail
  pub first : get_or queue 0 0 ≡ hub
  pub start : met_at met hub ≡ 1
  pub small : (i : ℕ) → i < tail → get_or met (get_or queue i 0) 0 < 2 * drop_mark
  pub least : (i : ℕ) → i < tail → 1 ≤ met_at met (get_or queue i 0)
  pub rise : (i j : ℕ) → i < j → j < tail → met_at met (get_or queue i 0) ≤ met_at met (get_or queue j 0)
  pub near : (j : ℕ) → head < tail → j < tail → met_at met (get_or queue j 0) ≤ met_at met (get_or queue head 0) + 1
  pub short : (j : ℕ) → j < tail → met_at met (get_or queue j 0) ≤ j + 1
  pub plain : (j : ℕ) → head ≤ j → j < tail → get_or met (get_or queue j 0) 0 < drop_mark
  pub reason : (j : ℕ) → j < tail → (get_or queue j 0 ≡ hub) ⊎ Parent S L met queue head (get_or queue j 0)
  pub done : (i : ℕ) → i < head → Kept S L drop met (get_or queue i 0) ⊎ Dropped drop met (get_or queue i 0)

-- ---- the stores

-- the mark of a met frame that is kept: level + 1, below the mark of a dropped one
unfoldable pub is_kept : ℕ → Bool
is_kept mark = ltb 0 mark && ltb mark drop_mark

-- a kept frame whose row has W entries already
unfoldable pub lacks_room : ℕ → ℕ → ℕ → Bool
lacks_room w count mark = is_kept mark && leb w count

-- a kept frame with over 4,095 joins
unfoldable pub is_far : ℕ → Bool
is_far mark = is_kept mark && ltb (most_joins + 1) mark

-- every kept frame has room for one more entry
unfoldable pub fits_all : ℕ → List ℕ → List ℕ → Bool
fits_all w counts met = not (some (λ v. lacks_room w (get_or counts v 0) (get_or met v 0)) 0 (length met))

-- no kept frame has over 4,095 joins
unfoldable pub none_far : List ℕ → Bool
none_far met = not (some (λ v. is_far (get_or met v 0)) 0 (length met))

-- the row with (rank, level) behind it where the mark says kept, else the row itself
unfoldable pub gain : ℕ → ℕ → Row → Row
gain rank mark x = cond (is_kept mark) (x ++ ((rank, mark - 1) ∷ [])) x

-- the rows after the walk of this rank
unfoldable pub rows_after : ℕ → ℕ → List ℕ → List ℕ → List ℕ → ℕ → Row
rows_after w rank labels counts met v = gain rank (get_or met v 0) (rows_in w labels counts v)

-- v is met, and if the mark says kept its row has room for an entry, at a place of the label room
pub record GiveIn (w v mark : ℕ) (labels counts : List ℕ) : Type 0 where
  pub met : 0 < mark
  pub inside : v < length counts
  pub width : w ≤ 256
  pub room : mark < drop_mark → get_or counts v 0 < w
  pub place : mark < drop_mark → v * w + get_or counts v 0 < length labels

-- the rooms as they have to be when phase two begins
pub record SettleIn (w : ℕ) (labels counts met frames : List ℕ) : Type 0 where
  pub few : length met ≤ 4096
  pub wide : 1 ≤ w
  pub width : w ≤ 256
  pub laid : Laid (length met) w (rows_in w labels counts) labels counts
  pub low : Low met (length frames)

-- what a walk decides, by the marks of the met room
unfoldable pub settle_of : ℕ → List ℕ → List ℕ → Walked
settle_of w counts met = decided (fits_all w counts met) (none_far met)

-- ---- the walk

-- a block, rising rows that the rooms hold and nothing else, work rooms 0
pub record WalkIn (n w : ℕ) (S L labels counts : List ℕ) (hub : ℕ) (met queue noted : List ℕ) : Type 0 where
  pub ready : ExploreIn n w S L labels counts hub met queue noted
  pub laid : Laid n w (rows_in w labels counts) labels counts

-- what the walk gives back, and the rooms after it; the work rooms are 0 either way
pub record WalkOut (n w : ℕ) (S L labels counts : List ℕ) (rank hub : ℕ) (walked : Walked)
    (labels_after counts_after met_after queue_after : List ℕ) : Type 0 where
  pub answer : walked ≡ walk_of n w S L labels counts hub
  pub laid : Laid n w (λ v. if_made walked (walked_rows n w S L labels counts rank hub v) (rows_in w labels counts v))
      labels_after counts_after
  pub met_zero : met_after ≡ replicate n 0
  pub queue_zero : queue_after ≡ replicate n 0
