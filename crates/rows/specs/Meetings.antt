-- The answer of two rows as entries lie in them: every pair of entries of equal rank is a meeting, and the best of them has
-- the least sum of joins, the lowest rank of these.
use Rattle.std.specs.Prelude.{ℕ, ◌+◌, Bool, cond, ◌&&◌, ◌||◌, List, [], ◌∷◌, ◌++◌, eqb, ltb, Some, None, Option}
use Rattle.entry.specs.Entry.{rank_of, joins_of}
use Rattle.rows.specs.declared.merge.Meeting.{Meeting}

-- the best meeting, if there is one
abbrev pub Best : Type 0
Best = Option Meeting

-- the meeting of two entries of equal rank
abbrev pub meeting : ℕ → ℕ → Meeting
meeting e f = record { rank = rank_of e; sum = joins_of e + joins_of f }

-- the meetings of one entry with a row
unfoldable pub meetings_at : ℕ → List ℕ → List Meeting
meetings_at e [] = []
meetings_at e (f ∷ b) = cond (eqb (rank_of e) (rank_of f)) (meeting e f ∷ meetings_at e b) (meetings_at e b)

-- the meetings of two rows
unfoldable pub meetings : List ℕ → List ℕ → List Meeting
meetings [] b = []
meetings (e ∷ a) b = meetings_at e b ++ meetings a b

-- one meeting goes before another: by sum, then by rank
unfoldable pub goes_before : Meeting → Meeting → Bool
goes_before m k = ltb m.sum k.sum || (eqb m.sum k.sum && ltb m.rank k.rank)

-- the lesser of the best so far and one more
unfoldable pub lesser_of : Best → Meeting → Best
lesser_of None m = Some m
lesser_of (Some k) m = cond (goes_before m k) (Some m) (Some k)

-- the least of a list of meetings and the best so far
unfoldable pub least_from : Best → List Meeting → Best
least_from best [] = best
least_from best (m ∷ ms) = least_from (lesser_of best m) ms

-- the best meeting of two rows
unfoldable pub meeting_of : List ℕ → List ℕ → Best
meeting_of a b = least_from None (meetings a b)
