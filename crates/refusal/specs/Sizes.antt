-- The limits, and the ranges that test 1 holds sizes to.
use Rattle.std.specs.Prelude.{ℕ, Bool, ◌&&◌, leb}

-- the most frames, the widest row, the most neighbour places
abbrev pub most_frames : ℕ
most_frames = 4096

abbrev pub most_width : ℕ
most_width = 256

abbrev pub most_places : ℕ
most_places = 65536

-- the most joins that a walk may give a frame: FAR above them
abbrev pub most_joins : ℕ
most_joins = 4095

-- from the least to the most
abbrev pub within : ℕ → ℕ → ℕ → Bool
within least most x = leb least x && leb x most

-- n frames, 1 to 4,096
unfoldable pub frames_fit : ℕ → Bool
frames_fit n = within 1 most_frames n

-- width W, 1 to 256
unfoldable pub width_fits : ℕ → Bool
width_fits w = within 1 most_width w

-- neighbour places, at most 65,536
unfoldable pub places_fit : ℕ → Bool
places_fit l = leb l most_places

-- n and W
unfoldable pub sizes_fit : ℕ → ℕ → Bool
sizes_fit n w = frames_fit n && width_fits w
