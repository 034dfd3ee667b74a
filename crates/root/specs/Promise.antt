-- What is promised of s and r, by the facts that document 01 names.
use Rattle.std.specs.Prelude.{ℕ, ◌+◌, ◌*◌, ◌^◌, ◌≤◌, ◌<◌}
use Rattle.grid.specs.Limits.{window_to, window_from}
use Rattle.root.specs.Root.{scaled}

-- s brings n into the window
pub record InWindow (n s : ℕ) : Type 0 where
  pub least : 2 ^ window_from ≤ scaled n s
  pub most : scaled n s < 2 ^ window_to

-- r is the whole root of m, rounded down
pub record WholeRoot (m r : ℕ) : Type 0 where
  pub not_above : r * r ≤ m
  pub next_above : m < (r + 1) * (r + 1)

pub record Rooted (n s r : ℕ) : Type 0 where
  pub window : InWindow n s
  pub root : WholeRoot (scaled n s) r
