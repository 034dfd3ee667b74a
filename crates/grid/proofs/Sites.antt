-- Samples by their coordinates.
use mathlib.Core.Path.{◌≡◌}
use Prim.Native.Nat.{ℕ, zero, suc, ◌+◌, ◌*◌, ◌/◌, ◌<◌}
use native.Mathlib.Nat.{mul-add, mod-add-div, mod-lt, div-lt_iff_lt-mul, mul_comm}
use native.Mathlib.Omega.{arith}
use Rattle.grid.specs.Grid.{Size, sample_count, site, coordinate}
use Rattle.laws.proofs.Digits.{low_mod, low_div, low_lt}

-- which of three goes with an axis
abbrev pub choose : ℕ → ℕ → ℕ → ℕ → ℕ
choose zero x y z = x
choose (suc zero) x y z = y
choose (suc (suc axis)) x y z = z

module _ (n : Size) where
  -- a sample from its coordinates, and a step from one sample to another
  pub site_add : (x y z a b c : ℕ) → site n (x + a) (y + b) (z + c) ≡ site n x y z + site n a b c
  unfolding site
  site_add x y z a b c = simp mul-add (omega arith)

  pub site_of : (s : ℕ) → site n (coordinate n 0 s) (coordinate n 1 s) (coordinate n 2 s) ≡ s
  unfolding site coordinate
  site_of s = rw (mod-add-div (s / n.nx) n.ny) (mod-add-div s n.nx)

  module _ (x y z : ℕ) (hx : x < n.nx) (hy : y < n.ny) (hz : z < n.nz) where
    pub site_small : site n x y z < sample_count n
    unfolding site
    site_small = low_lt x n.nx (y + n.ny * z) (n.ny * n.nz) hx (low_lt y n.ny z n.nz hy hz)

    pub coordinate_site : (axis : ℕ) → coordinate n axis (site n x y z) ≡ choose axis x y z
    unfolding coordinate site
    coordinate_site zero = low_mod x n.nx (y + n.ny * z) hx
    coordinate_site (suc zero) = rw (low_div x n.nx (y + n.ny * z) hx) (low_mod y n.ny z hy)
    coordinate_site (suc (suc axis)) = rw (low_div x n.nx (y + n.ny * z) hx) (low_div y n.ny z hy)

  -- a sample's coordinates are below the sides
  module _ (px : 0 < n.nx) (py : 0 < n.ny) (s : ℕ) (h : s < sample_count n) where
    pub below_x : coordinate n 0 s < n.nx
    unfolding coordinate
    below_x = mod-lt s px

    pub below_y : coordinate n 1 s < n.ny
    unfolding coordinate
    below_y = mod-lt (s / n.nx) py

    pub below_z : coordinate n 2 s < n.nz
    unfolding coordinate
    below_z =
        let a : s < n.nz * n.ny * n.nx = rw (mul_comm n.nz n.ny, mul_comm (n.ny * n.nz) n.nx) h in
        (div-lt_iff_lt-mul py).1 ((div-lt_iff_lt-mul px).1 a)
