-- The crossed cubes, by which the steps of a query are bounded (document 02, (vi)).
use Rattle.std.specs.Prelude.{Bool, not, ◌&&◌, ℕ, ◌-◌}
use Rattle.laws.specs.Range.{some_to, sum_to, count_to}
use Rattle.grid.specs.Grid.{Size}
use Rattle.grid.specs.Mesh.{corner_site}

-- `above` says which samples are above
module _ (n : Size) (above : ℕ → Bool) where
  -- a cube is crossed when a corner is above and a corner is below
  unfoldable pub is_crossed : ℕ → ℕ → ℕ → Bool
  is_crossed x y z = some_to 8 (λ c. above (corner_site n x y z c)) && some_to 8 (λ c. not (above (corner_site n x y z c)))

  -- how many cubes of the grid are
  unfoldable pub crossed_cubes : ℕ
  crossed_cubes = sum_to (n.nz - 1) (λ z. sum_to (n.ny - 1) (λ y. count_to (n.nx - 1) (λ x. is_crossed x y z)))
