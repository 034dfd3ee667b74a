-- What the walk writes over the whole grid: its triangles, each corner as its grid edge is called.
use mathlib.Core.Path.{◌≡◌, ap, sym, ◌∙◌}
use mathlib.Core.Bool.{Bool}
use mathlib.Core.List.{List, map, map-map}
use Prim.Native.Nat.{ℕ, ◌+◌, ◌*◌, ◌-◌, ◌<◌, ◌≤◌}
use native.Mathlib.Omega.{arith}
use lib.ListN.{length, get_or, length-map}
use Rattle.laws.specs.Range.{join_to, join_box}
use Rattle.laws.specs.Mesh.{corners_of, flat}
use Rattle.laws.specs.Room.{laid}
use Rattle.laws.proofs.Writes.{sets_front}
use Rattle.laws.proofs.Box.{join_box_cong, map_box, flat_box}
use Rattle.laws.proofs.Lists.{map_cong}
use Rattle.laws.proofs.Sides.{length_corners, flat_renamed}
use Rattle.cube.specs.Cube.{cases, cube_edge_count, cube_edges}
use Rattle.cube.specs.Answer.{triangles}
use Rattle.cube.proofs.Corners.{case_small}
use Rattle.cube.proofs.Cases.{CrossedEdge}
use Rattle.grid.specs.Grid.{Size, axes, edge_count}
use Rattle.grid.specs.Mode.{cubes}
use Rattle.grid.specs.Mesh.{corner_site, grid_edge, case_at, cube_triangles, edge_mesh}
use Rattle.grid.specs.Work.{SidesFit, name_of, Nameable, NamesFit}
use Rattle.grid.proofs.Sides.{samples_most}
use Rattle.grid.proofs.Edges.{grid_edge_small, cubes_edge}
use Rattle.rows.specs.declared.Sides.{Sides}
use Rattle.rows.specs.Rows.{size_of, words_above}
use Rattle.triangles.specs.Names.{edge_offset, corner_name, cube_names, grid_names, layer_names}
use Rattle.triangles.specs.Walk.{Written}
use Rattle.triangles.proofs.Table.{corners_crossed}
use Rattle.triangles.proofs.Edges.{offset_at, edge_place}

module _ (sides : Sides) (masks names offsets : List ℕ) (right : offsets ≡ map (edge_offset sides.nx sides.ny) cube_edges) where
  abbrev n : Size
  n = size_of sides

  abbrev above : ℕ → Bool
  above = words_above sides masks

  abbrev all : List ℕ
  all = join_to (sides.nz - 1) (layer_names offsets names sides masks)

  -- the grid edge of edge e of the cube at (x, y, z), as the code counts it
  edge_is : (x y z e : ℕ) → e < cube_edge_count → 3 * (x + sides.nx * (y + sides.ny * z)) + get_or offsets e 0 ≡ grid_edge cubes n x y z e
  edge_is x y z e h = rw (right, offset_at sides.nx sides.ny e h) (edge_place n x y z e)

  -- where there is a name for each grid edge, or none at all, each can be called by its name
  pub edge_nameable : SidesFit sides.nx sides.ny sides.nz → NamesFit (edge_count axes n) names → (x y z e : ℕ) → x + 1 < sides.nx → y + 1 < sides.ny → z + 1 < sides.nz
      → e < cube_edge_count → Nameable names (3 * (x + sides.nx * (y + sides.ny * z)) + get_or offsets e 0)
  edge_nameable fit given x y z e hx hy hz h =
      let small : grid_edge cubes n x y z e < edge_count axes n = grid_edge_small cubes n x y z e (cubes_edge e h) (omega arith) (omega arith) (omega arith) in
      rw (edge_is x y z e h)
      (record {
        fits = omega (arith, samples_most sides.nx sides.ny sides.nz fit);
        listed = λ some. omega (arith, given some);
      })

  pub cube_named : (x y z : ℕ) → grid_names offsets names sides masks z x y ≡ map (name_of names) (flat (cube_triangles cubes n above x y z))
  unfolding cube_names cube_triangles
  cube_named x y z =
      let k = case_at n above x y z in
      let small : k < cases = unfold case_at in case_small (λ c. above (corner_site n x y z c)) in
      rw (
        flat_renamed (grid_edge cubes n x y z) (triangles k),
        map-map (name_of names) (grid_edge cubes n x y z) (flat (triangles k)),
      )
      (map_cong (CrossedEdge k) (corner_name offsets names (3 * (x + sides.nx * (y + sides.ny * z)))) (λ e. name_of names (grid_edge cubes n x y z e))
      (λ e c. ap (name_of names) (edge_is x y z e c.small))
      (flat (triangles k))
      (corners_crossed k small))

  grid_named : all ≡ map (name_of names) (flat (edge_mesh cubes n above))
  unfolding flat edge_mesh join_box
  grid_named =
      join_box_cong (sides.nx - 1) (sides.ny - 1) (sides.nz - 1) (λ x y z. grid_names offsets names sides masks z x y) (λ x y z. map (name_of names) (flat (cube_triangles cubes n above x y z)))
      (λ x y z lx ly lz. cube_named x y z)
      ∙ sym (map_box (sides.nx - 1) (sides.ny - 1) (sides.nz - 1) (name_of names) (λ x y z. flat (cube_triangles cubes n above x y z)))
      ∙ ap (map (name_of names)) (sym (flat_box (sides.nx - 1) (sides.ny - 1) (sides.nz - 1) corners_of (cube_triangles cubes n above)))

  pub grid_length : length all ≡ 3 * length (edge_mesh cubes n above)
  grid_length = ap length grid_named ∙ length-map (flat (edge_mesh cubes n above)) (name_of names) ∙ length_corners (edge_mesh cubes n above)

  -- all layers written from the front on
  pub grid_laid : {entry exit : List ℕ} {next : ℕ} → Written entry exit 0 all next → 3 * length (edge_mesh cubes n above) ≤ length entry
      → exit ≡ laid (map (name_of names) (flat (edge_mesh cubes n above))) entry
  grid_laid {entry} {exit} {next} w r =
      w.room ∙ sets_front entry all (omega (arith, grid_length)) ∙ ap (λ xs. laid xs entry) grid_named
