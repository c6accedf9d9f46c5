-- What the tests of the sizes show of those that they let through.
use Rattle.std.specs.Prelude.{ℕ, ◌≤◌}
use Rattle.refusal.specs.Sizes.{most_frames, most_width}

pub record Sizes (n w : ℕ) : Type 0 where
  pub some_frames : 1 ≤ n
  pub frames : n ≤ most_frames
  pub some_width : 1 ≤ w
  pub width : w ≤ most_width
