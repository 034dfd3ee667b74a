-- The greatest numbers of a small grid, of at most 512 samples: they size the program's rooms.
use Rattle.std.specs.Prelude.{ℕ, ◌*◌}
use Rattle.cube.specs.Answer.{most_case_triangles}
use Rattle.grid.specs.Limits.{most_small}
use Rattle.gridtext.specs.Grid.{most_read}
use Rattle.meshtext.specs.MeshText.{longest}

-- at most three grid edges leave a sample, so there are at most three points a sample, and no more shells than points
abbrev pub most_small_points : ℕ
most_small_points = 3 * most_small

-- a case has at most five triangles, and there are fewer cubes than samples
abbrev pub most_small_triangles : ℕ
most_small_triangles = most_case_triangles * most_small

-- no more of a text is looked at
abbrev pub most_input : ℕ
most_input = most_read

abbrev pub most_output : ℕ
most_output = longest most_small_points most_small_triangles most_small_points
