-- Samples and grid edges (document 01, "Numbers and sizes", second paragraph).
use Rattle.std.specs.Prelude.{List, Bool, true, false, cond, ◌&&◌, ◌||◌, ℕ, zero, suc, ◌+◌, ◌*◌, ◌-◌, ◌/◌, ◌%◌, ◌^◌, eqb, leb, ltb, get_or}
use Rattle.std.specs.Bool.{xor}
use Rattle.laws.specs.Range.{one_if}

pub record Size : Type 0 where
  pub nx : ℕ
  pub ny : ℕ
  pub nz : ℕ

-- how many samples there are
abbrev pub sample_count : Size → ℕ
sample_count n = n.nx * (n.ny * n.nz)

-- sample (x, y, z) stands at s = x + nx (y + ny z)
unfoldable pub site : Size → ℕ → ℕ → ℕ → ℕ
site n x y z = x + n.nx * (y + n.ny * z)

-- the coordinate of sample s along an axis (0 is x, 1 is y, 2 is z), and the side along it
unfoldable pub coordinate : Size → ℕ → ℕ → ℕ
coordinate n zero s = s % n.nx
coordinate n (suc zero) s = s / n.nx % n.ny
coordinate n (suc (suc axis)) s = s / n.nx / n.ny

unfoldable pub side : Size → ℕ → ℕ
side n zero = n.nx
side n (suc zero) = n.ny
side n (suc (suc axis)) = n.nz

-- a sample is above if it is at least the grey value, else below
unfoldable pub is_above_grey : ℕ → List ℕ → ℕ → Bool
is_above_grey grey samples s = leb grey (get_or samples s 0)

-- A direction is dx + 2dy + 4dz: one sample along each axis that it names. Does it run along an axis?
abbrev pub along : ℕ → ℕ → ℕ
along d axis = d / 2 ^ axis % 2

-- the grid edges of a kind: how many leave each sample, and the direction of each
pub record Kind : Type 0 where
  pub many : ℕ
  pub direction : ℕ → ℕ

-- grid edge 3s + a leaves sample s along axis a
abbrev pub axes : Kind
axes = record { many = 3; direction = λ a. 2 ^ a }

-- the sample at the other end of the edge that leaves s in direction d, towards the larger coordinate
unfoldable pub other_end : Size → ℕ → ℕ → ℕ
other_end n s d = s + site n (along d 0) (along d 1) (along d 2)

-- is a sample there
unfoldable pub fits_along : Size → ℕ → ℕ → ℕ → Bool
fits_along n s d axis = ltb (coordinate n axis s + along d axis) (side n axis)

unfoldable pub is_there : Size → ℕ → ℕ → Bool
is_there n s d = fits_along n s d 0 && (fits_along n s d 1 && fits_along n s d 2)

-- is a coordinate the first or the last along its side
abbrev pub is_end : ℕ → ℕ → Bool
is_end c side = eqb c 0 || eqb c (side - 1)

-- does a sample stand at the first or at the last coordinate along an axis
unfoldable pub is_outermost : Size → ℕ → Bool → ℕ → Bool
is_outermost n axis last s = eqb (coordinate n axis s) (cond last (side n axis - 1) 0)

-- does one of the six outer faces pass the test: across each axis the first and the last
unfoldable pub some_face : (ℕ → Bool → Bool) → Bool
some_face p = p 0 false || (p 0 true || (p 1 false || (p 1 true || (p 2 false || p 2 true))))

-- `above` says which samples are above
module _ (k : Kind) (n : Size) where
  -- how many edge numbers there are
  abbrev pub edge_count : ℕ
  edge_count = k.many * sample_count n

  -- an edge is crossed when it is there and its two ends differ
  unfoldable pub crossed_from : (ℕ → Bool) → ℕ → ℕ → Bool
  crossed_from above s d = is_there n s d && xor (above s) (above (other_end n s d))

  unfoldable pub crossed : (ℕ → Bool) → ℕ → Bool
  crossed above e = crossed_from above (e / k.many) (k.direction (e % k.many))

  -- an edge lies on the first or the last outer face across an axis: it does not run along the axis, and stands at that coordinate
  unfoldable pub on_face_from : ℕ → Bool → ℕ → ℕ → Bool
  on_face_from axis last s d = eqb (along d axis) 0 && is_outermost n axis last s

  unfoldable pub on_face : ℕ → Bool → ℕ → Bool
  on_face axis last e = on_face_from axis last (e / k.many) (k.direction (e % k.many))

  -- a point's mark is 1 when its grid edge lies on an outer face, else 0
  unfoldable pub mark : ℕ → ℕ
  mark e = one_if (some_face (λ axis last. on_face axis last e))
