-- What the parts that write rely on, and what they leave.
use Rattle.std.specs.Prelude.{◌≡◌, true, List, ℕ, ◌+◌, ◌*◌, ◌<◌, ◌≤◌, length, get_or}
use Rattle.std.proofs.lemmas.List.Edits.{sets}
use Rattle.laws.specs.Bits.{bit}
use Rattle.cube.specs.Cube.{cube_edge_count, cases}
use Rattle.cube.specs.Promise.{Rows, Counts}
use Rattle.cube.specs.Answer.{count, case_length}
use Rattle.grid.specs.Work.{Nameable}
use Rattle.rows.specs.declared.Sides.{Sides}
use Rattle.cuberows.specs.declared.Corners.{Corners}
use Rattle.triangles.specs.declared.Tables.{Tables}
use Rattle.triangles.specs.Names.{stretch_names, layer_names}

-- the tables are those of all cases
pub record Read (tables : Tables) : Type 0 where
  pub rows : Rows tables.rows.now
  pub counts : Counts tables.counts.now

-- a corner's edge is read from the table, and its grid edge can be called by its name
pub record CornerFits (rows offsets names : List ℕ) (place edge : ℕ) : Type 0 where
  pub inside : place < cases * case_length
  pub small : get_or rows place 0 < cube_edge_count
  pub named : Nameable names (edge + get_or offsets (get_or rows place 0) 0)

-- To write, every edge of every cube has to be nameable, and the room has to hold what is written from `at` on.
pub record CubeRoom (offsets names room : List ℕ) (case many edge at : ℕ) : Type 0 where
  pub small : case < cases
  pub corners : many ≡ 3 * count case
  pub named : (e : ℕ) → e < cube_edge_count → Nameable names (edge + get_or offsets e 0)
  pub holds : at + many ≤ length room

pub record StretchRoom (offsets names room : List ℕ) (m : Corners) (cubes edge at : ℕ) : Type 0 where
  pub named : (i e : ℕ) → bit cubes i ≡ true → e < cube_edge_count → Nameable names (edge + 3 * i + get_or offsets e 0)
  pub holds : at + length (stretch_names offsets names m cubes edge) ≤ length room

pub record LayerRoom (offsets names room : List ℕ) (sides : Sides) (masks : List ℕ) (z at : ℕ) : Type 0 where
  pub named : (x y e : ℕ) → x + 1 < sides.nx → y + 1 < sides.ny → e < cube_edge_count → Nameable names (3 * (x + sides.nx * (y + sides.ny * z)) + get_or offsets e 0)
  pub holds : at + length (layer_names offsets names sides masks z) ≤ length room

-- the list stands in the room from `at` on, and `next` is the place after it
pub record Written (entry exit : List ℕ) (at : ℕ) (list : List ℕ) (next : ℕ) : Type 0 where
  pub room : exit ≡ sets entry at list
  pub end : next ≡ at + length list
