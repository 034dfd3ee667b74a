-- The grid edges of a cube's edges: they are edges of the grid, crossed when the cube's edge is, and different ones are different.
use mathlib.Core.Path.{◌≡◌, refl, ap, ap₂, sym, ◌∙◌}
use mathlib.Core.Bool.{Bool, true, cond, ◌&&◌, xor}
use Prim.Native.Nat.{ℕ, zero, suc, ◌+◌, ◌*◌, ◌-◌, ◌/◌, ◌%◌, ◌^◌, ◌<◌, ◌≤◌}
use native.Mathlib.Nat.{add_assoc}
use native.Mathlib.Omega.{arith}
use lib.Dec.{eqb, ltb}
use borrow.Author.Tests.{eqb-true, eq-eqb, ltb-true, lt-ltb}
use Rattle.laws.specs.Range.{all_to}
use Rattle.laws.specs.Mesh.{Arrow, sides}
use Rattle.laws.proofs.Tests.{both, all_at}
use Rattle.laws.proofs.Sums.{all_weaken}
use Rattle.cube.specs.Cube.{cube_edge_count, corner_x, corner_y, corner_z, edge_between, crossed as cubeCrossed}
use Rattle.cube.specs.Answer.{triangles}
use Rattle.cube.proofs.Cases.{CrossedEdge, CrossedSide, edge_between_lem, sides_crossed}
use Rattle.grid.specs.Grid.{Size, sample_count, edge_count, coordinate, side, along, other_end, fits_along, is_there, is_outermost, crossed_from, crossed, on_face_from, on_face}
use Rattle.grid.specs.Mode.{Mode, cubes, direction_of, high, CubeEdge, crossed_in, CutEdge, CutSide, SidesCut}
use Rattle.grid.specs.Mesh.{corner_site, grid_edge}
use Rattle.grid.proofs.Sites.{choose, site_add, site_small, coordinate_site}
use Rattle.grid.proofs.Crossings.{edge_sample, edge_code, edge_small, crossed_at, on_face_at}

-- whether a number is that of an edge of the cube, as a test to be computed
unfoldable pub is_cube_edge : Mode → ℕ → Bool
is_cube_edge m e =
    let low = m.low e in
    let top = high m e in
    let d = direction_of m e in
    ltb (m.code e) m.kind.many
    && (ltb top 8 && (eqb (corner_x top) (corner_x low + along d 0) && (eqb (corner_y top) (corner_y low + along d 1) && eqb (corner_z top) (corner_z low + along d 2))))

pub cube_edge : (m : Mode) (e : ℕ) → is_cube_edge m e ≡ true → CubeEdge m e
unfolding is_cube_edge
cube_edge m e h =
    let p = both (ltb (m.code e) m.kind.many) _ h in
    let q = both (ltb (high m e) 8) _ p.1 in
    let r = both (eqb (corner_x (high m e)) _) _ q.1 in
    let s = both (eqb (corner_y (high m e)) _) _ r.1 in
    record {
      coded = ltb-true (m.code e) m.kind.many p.0;
      ends = ltb-true (high m e) 8 q.0;
      step_x = eqb-true _ _ r.0;
      step_y = eqb-true _ _ s.0;
      step_z = eqb-true _ _ s.1;
    }

-- an edge of the cube at (x, y, z)
module _ (m : Mode) (n : Size) (x y z e : ℕ) (edge : CubeEdge m e) where
  abbrev low : ℕ
  low = m.low e

  abbrev d : ℕ
  d = direction_of m e

  abbrev s : ℕ
  s = corner_site n x y z low

  -- the grid edge ends at the upper corner
  upper_end : other_end n s d ≡ corner_site n x y z (high m e)
  unfolding other_end corner_site
  upper_end =
      sym (rw (
        edge.step_x,
        edge.step_y,
        edge.step_z,
        ← add_assoc x (corner_x low) (along d 0),
        ← add_assoc y (corner_y low) (along d 1),
        ← add_assoc z (corner_z low) (along d 2),
      )
      (site_add n (x + corner_x low) (y + corner_y low) (z + corner_z low) (along d 0) (along d 1) (along d 2)))

  -- whose upper corner stands in the grid
  module _ (hx : x + corner_x (high m e) < n.nx) (hy : y + corner_y (high m e) < n.ny) (hz : z + corner_z (high m e) < n.nz) where
    low_x : x + corner_x low < n.nx
    low_x = omega (arith, edge.step_x)

    low_y : y + corner_y low < n.ny
    low_y = omega (arith, edge.step_y)

    low_z : z + corner_z low < n.nz
    low_z = omega (arith, edge.step_z)

    at : (axis : ℕ) → coordinate n axis s ≡ choose axis (x + corner_x low) (y + corner_y low) (z + corner_z low)
    unfolding corner_site
    at = coordinate_site n (x + corner_x low) (y + corner_y low) (z + corner_z low) low_x low_y low_z

    -- the grid edge is there
    within_grid : is_there n s d ≡ true
    unfolding is_there fits_along side
    within_grid =
        rw (
          at 0,
          at 1,
          at 2,
          lt-ltb (x + corner_x low + along d 0) n.nx (omega (arith, edge.step_x)),
          lt-ltb (y + corner_y low + along d 1) n.ny (omega (arith, edge.step_y)),
          lt-ltb (z + corner_z low + along d 2) n.nz (omega (arith, edge.step_z)),
        )

    -- so it is crossed where the two corners differ
    pub grid_edge_crossed : (above : ℕ → Bool) → xor (above s) (above (corner_site n x y z (high m e))) ≡ true → crossed m.kind n above (grid_edge m n x y z e) ≡ true
    unfolding grid_edge
    grid_edge_crossed above differ = crossed_at m.kind n s (m.code e) edge.coded above ∙ there
      where
        there : crossed_from m.kind n above s d ≡ true
        there = unfold crossed_from in rw (within_grid, upper_end) differ

    pub grid_edge_small : grid_edge m n x y z e < edge_count m.kind n
    unfolding grid_edge corner_site
    grid_edge_small =
        edge_small m.kind.many s (m.code e) edge.coded (sample_count n) (site_small n (x + corner_x low) (y + corner_y low) (z + corner_z low) low_x low_y low_z)

    -- it lies on an outer face that it does not leave
    pub grid_edge_on_face : (axis : ℕ) (last : Bool) → along d axis ≡ 0 → choose axis (x + corner_x low) (y + corner_y low) (z + corner_z low) ≡ cond last (side n axis - 1) 0
        → on_face m.kind n axis last (grid_edge m n x y z e) ≡ true
    unfolding grid_edge
    grid_edge_on_face axis last flat end = on_face_at m.kind n s (m.code e) edge.coded axis last ∙ there
      where
        there : on_face_from m.kind n axis last s d ≡ true
        there =
            unfold on_face_from is_outermost in
            rw (flat, at axis, eq-eqb (choose axis (x + corner_x low) (y + corner_y low) (z + corner_z low)) (cond last (side n axis - 1) 0) end)

-- a corner's coordinate along an axis
corner_at : (x y z c axis : ℕ) → axis < 3 → choose axis (x + corner_x c) (y + corner_y c) (z + corner_z c) ≡ choose axis x y z + along c axis
corner_at x y z c zero l = omega arith
corner_at x y z c (suc zero) l = omega arith
corner_at x y z c (suc (suc zero)) l = omega arith
corner_at x y z c (suc (suc (suc axis))) l = absurd (omega arith)

-- an edge that runs along an axis leaves a corner at the low side across it
pub edge_within : (m : Mode) (e axis : ℕ) → axis < 3 → CubeEdge m e → along (m.low e) axis + along (direction_of m e) axis ≤ 1
edge_within m e zero l c = omega (arith, c.step_x)
edge_within m e (suc zero) l c = omega (arith, c.step_y)
edge_within m e (suc (suc zero)) l c = omega (arith, c.step_z)
edge_within m e (suc (suc (suc axis))) l c = absurd (omega arith)

-- edge e of the cube at (x, y, z) and edge f of the cube at (x', y', z'): the same edge of the kind, and they leave from the same coordinates
pub record SameEdge (m : Mode) (x y z x' y' z' e f : ℕ) : Type 0 where
  pub alike : m.code e ≡ m.code f
  pub stand : (axis : ℕ) → axis < 3 → choose axis x y z + along (m.low e) axis ≡ choose axis x' y' z' + along (m.low f) axis

-- two cubes of the grid
module _ (n : Size) (x y z x' y' z' : ℕ) (hx : x + 1 < n.nx) (hy : y + 1 < n.ny) (hz : z + 1 < n.nz) (hx' : x' + 1 < n.nx) (hy' : y' + 1 < n.ny)
    (hz' : z' + 1 < n.nz) where
  corner_shared : (c d : ℕ) → corner_site n x y z c ≡ corner_site n x' y' z' d → (axis : ℕ) → axis < 3 → choose axis x y z + along c axis ≡ choose axis x' y' z' + along d axis
  unfolding corner_site
  corner_shared c d q axis l =
      sym (corner_at x y z c axis l)
      ∙ sym (coordinate_site n (x + corner_x c) (y + corner_y c) (z + corner_z c) (omega arith) (omega arith) (omega arith) axis)
      ∙ ap (coordinate n axis) q
      ∙ coordinate_site n (x' + corner_x d) (y' + corner_y d) (z' + corner_z d) (omega arith) (omega arith) (omega arith) axis
      ∙ corner_at x' y' z' d axis l

  pub same_grid_edge : (m : Mode) (e f : ℕ) → CubeEdge m e → CubeEdge m f → grid_edge m n x y z e ≡ grid_edge m n x' y' z' f → SameEdge m x y z x' y' z' e f
  unfolding grid_edge
  same_grid_edge m e f p r q =
      let many = m.kind.many in
      record {
        alike = sym (edge_code many _ (m.code e) p.coded) ∙ ap (λ g. g % many) q ∙ edge_code many _ (m.code f) r.coded;
        stand =
            corner_shared (m.low e) (m.low f)
            (sym (edge_sample many _ (m.code e) p.coded) ∙ ap (λ g. g / many) q ∙ edge_sample many _ (m.code f) r.coded);
      }

-- a corner from its coordinates
every_corner : all_to 8 (λ c. eqb (along c 0 + 2 * along c 1 + 4 * along c 2) c) ≡ true
unfolding all_to
every_corner = refl

corner_of : (c : ℕ) → c < 8 → along c 0 + 2 * along c 1 + 4 * along c 2 ≡ c
corner_of c h = eqb-true (along c 0 + 2 * along c 1 + 4 * along c 2) c (all_at 8 (λ c. eqb (along c 0 + 2 * along c 1 + 4 * along c 2) c) every_corner c h)

same_corner : (c d : ℕ) → c < 8 → d < 8 → ((axis : ℕ) → axis < 3 → along c axis ≡ along d axis) → c ≡ d
same_corner c d h l same =
    sym (corner_of c h) ∙ rw (same 0 (omega arith), same 1 (omega arith), same 2 (omega arith)) (corner_of d l)

-- in one cube, one grid edge is one edge of the cube
pub grid_edge_one_to_one : (n : Size) (x y z : ℕ) → x + 1 < n.nx → y + 1 < n.ny → z + 1 < n.nz → (m : Mode) (e f : ℕ) → CubeEdge m e → CubeEdge m f
    → grid_edge m n x y z e ≡ grid_edge m n x y z f → (m.low e ≡ m.low f) × (m.code e ≡ m.code f)
grid_edge_one_to_one n x y z hx hy hz m e f p r q =
    let same = same_grid_edge n x y z x y z hx hy hz hx hy hz m e f p r q in
    (same_corner (m.low e) (m.low f) (omega (arith, p.ends)) (omega (arith, r.ends)) (λ axis l. omega (arith, same.stand axis l)), same.alike)

-- what the mode of whole cubes owes: the twelve edges are edges of the cube, and by the table the sides of a case's triangles join two different crossed ones
every_cube_edge : all_to cube_edge_count (is_cube_edge cubes) ≡ true
unfolding all_to is_cube_edge
every_cube_edge = refl

pub cubes_edge : (e : ℕ) → e < cube_edge_count → CubeEdge cubes e
cubes_edge e h = cube_edge cubes e (all_at cube_edge_count (is_cube_edge cubes) every_cube_edge e h)

cubes_cut : (k e : ℕ) → CrossedEdge k e → CutEdge cubes k e
unfolding crossed_in cubeCrossed
cubes_cut k e c = record { edge = cubes_edge e c.small; cut = c.cut }

cubes_side : (k : ℕ) (s : Arrow) → CrossedSide k s → CutSide cubes k s
cubes_side k s c =
    let from = s.from in
    let to = s.to in
    record {
      start = cubes_cut k from c.start;
      end = cubes_cut k to c.end;
      apart =
          λ low code. c.apart (sym (edge_between_lem from c.start.small) ∙ ap₂ (λ c a. edge_between c (c + 2 ^ a)) low code ∙ edge_between_lem to c.end.small);
    }

pub cubes_sides_cut : SidesCut cubes
cubes_sides_cut k h = all_weaken (CrossedSide k) (CutSide cubes k) (cubes_side k) (sides (triangles k)) (sides_crossed k h)
