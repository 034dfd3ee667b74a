-- The test of a grid's sides (document 01, "Numbers and sizes").
use Rattle.std.specs.Prelude.{Bool, ◌&&◌, ℕ, leb}
use Rattle.grid.specs.Limits.{least_side, most_side}

unfoldable pub side_fits : ℕ → Bool
side_fits n = leb least_side n && leb n most_side

unfoldable pub sides_fit : ℕ → ℕ → ℕ → Bool
sides_fit nx ny nz = side_fits nx && (side_fits ny && side_fits nz)
