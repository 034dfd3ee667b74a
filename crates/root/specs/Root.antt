-- The number s that brings N into the window, from 2^58 up to, and not reaching, 2^60, whose ends stand in Limits, and the whole root there, rounded down.
use Rattle.std.specs.Prelude.{Bool, true, false, cond, ℕ, zero, suc, ◌+◌, ◌*◌, ◌/◌, ◌^◌, leb}
use Rattle.grid.specs.Limits.{window_from, root_digits}

-- N·4^s
abbrev pub scaled : ℕ → ℕ → ℕ
scaled n s = n * 4 ^ s

-- the first s from `at` on that brings n to the window or above it, of as many as are left; b says whether `at` itself does
unfoldable pub first_scale : ℕ → Bool → ℕ → ℕ → ℕ
first_scale zero b at n = at
first_scale (suc left) true at n = at
first_scale (suc left) false at n = first_scale left (leb (2 ^ window_from) (scaled n (at + 1))) (at + 1) n

-- s, of a number of at least 1: the window begins at a power of four
unfoldable pub scale_of : ℕ → ℕ
unfolding first_scale
scale_of n = first_scale (window_from / 2) (leb (2 ^ window_from) n) 0 n

-- the root of m with one digit more than r, the root of m / 4: twice r, and one more if the square of that is not above m
unfoldable pub next_root : ℕ → ℕ → ℕ
next_root m r = cond (leb ((2 * r + 1) * (2 * r + 1)) m) (2 * r + 1) (2 * r)

-- the whole root of an m below 4^k, rounded down
unfoldable pub root_below : ℕ → ℕ → ℕ
unfolding next_root
root_below zero m = 0
root_below (suc k) m = next_root m (root_below k (m / 4))

-- r: the whole root of N·4^s, which is below the window's end, a power of four too
unfoldable pub root_of : ℕ → ℕ
unfolding scale_of root_below
root_of n = root_below root_digits (scaled n (scale_of n))
