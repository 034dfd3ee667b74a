-- What the extractor's parts rely on while it runs.
use Rattle.std.specs.Prelude.{◌≡◌, List, [], ◌∷◌, ◌++◌, map, Bool, true, ℕ, ◌*◌, ◌+◌, ◌%◌, ◌^◌, ◌≤◌, ◌<◌, length, get_or}
use Rattle.laws.specs.Bits.{bit}
use Rattle.grid.specs.Limits.{least_side, most_side}
use Rattle.grid.specs.Grid.{Size, Kind, edge_count, crossed}
use Rattle.grid.specs.Point.{number}

abbrev pub size : ℕ → ℕ → ℕ → Size
size nx ny nz = record { nx = nx; ny = ny; nz = nz }

-- the sides are within the limits
pub record SidesFit (nx ny nz : ℕ) : Type 0 where
  pub least_x : least_side ≤ nx
  pub most_x : nx ≤ most_side
  pub least_y : least_side ≤ ny
  pub most_y : ny ≤ most_side
  pub least_z : least_side ≤ nz
  pub most_z : nz ≤ most_side

-- the work room holds, at each crossed edge, the number of its point
pub record Numbered (k : Kind) (n : Size) (above : ℕ → Bool) (work : List ℕ) : Type 0 where
  pub whole : length work ≡ edge_count k n
  pub ranks : (e : ℕ) → e < edge_count k n → crossed k n above e ≡ true → get_or work e 0 ≡ number k n above e

-- a kept sample is read by the lowest 16 bits of its number
abbrev pub sample_of : ℕ → ℕ
sample_of number = number % 2 ^ 16

-- the samples lent: first those that are kept, one a number, then those that come as they are
abbrev pub lent_samples : List ℕ → List ℕ → List ℕ
lent_samples kept samples = map sample_of kept ++ samples

-- what a grid edge is called: where names are lent the name at its number, else its number
unfoldable pub name_of : List ℕ → ℕ → ℕ
name_of [] e = e
name_of (name ∷ names) e = get_or (name ∷ names) e 0

-- an edge can be called so: its number fits a name, and where names are lent there is one for it
pub record Nameable (names : List ℕ) (e : ℕ) : Type 0 where
  pub fits : e < 2 ^ 32
  pub listed : (length names ≡ 0 → ⊥) → e < length names

-- names for so many edges, or none at all
abbrev pub NamesFit : ℕ → List ℕ → Type 0
NamesFit many names = (length names ≡ 0 → ⊥) → many ≤ length names

-- Words of found cubes, from the steps of a query to the walk along the cubes (document 02, (vi)): that of row (y, z) of cubes stands at y + mostSide z, and its bit x says whether cube (x, y, z) was found.
abbrev pub found_row : ℕ → ℕ → ℕ
found_row y z = y + most_side * z

abbrev pub is_found : List ℕ → ℕ → ℕ → ℕ → Bool
is_found found x y z = bit (get_or found (found_row y z) 0) x
