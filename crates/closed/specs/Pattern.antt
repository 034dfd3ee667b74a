-- What a mode owes to demand 3: a table of the faces along which its cubes are cut, and that faces, edges and triangles fit together. Whoever cuts cubes in another way shows
-- this, and has all theorems of this crate.
use Rattle.std.specs.Prelude.{◌≡◌, List, [], ◌∷◌, ◌++◌, map, Bool, true, false, ◌&&◌, ℕ, zero, suc, ◌+◌, ◌^◌, ◌<◌, ◌≤◌, min, max, eqb}
use Rattle.laws.specs.Sum.{All}
use Rattle.laws.specs.Order.{rearranged}
use Rattle.laws.specs.Mesh.{Arrow, arrow, sides, total, times}
use Rattle.cube.specs.Cube.{case_of, edge_between}
use Rattle.cube.specs.Face.{go_round, face_segments, segments_of, back}
use Rattle.cube.specs.Answer.{cube_faces}
use Rattle.grid.specs.Grid.{along}
use Rattle.grid.specs.Mode.{Mode, direction_of, high, CubeEdge, SidesCut}

-- a ring of corners, corner c being x + 2y + 4z, and the ring d corners further on
abbrev pub Ring : Type 0
Ring = List ℕ

abbrev pub further : ℕ → Ring → Ring
further d ring = map (λ c. c + d) ring

-- The table of faces, each as the ring of its corners, gone round counterclockwise as seen from outside. `edge` numbers the edge between two corners; `faces` are those of all
-- pieces of a cube; `low_x` are those at its side towards the smaller x, and so on; `inner` has one side of each face between two pieces.
pub record Pattern : Type 0 where
  pub edge : ℕ → ℕ → ℕ
  pub faces : List Ring
  pub low_x : List Ring
  pub low_y : List Ring
  pub low_z : List Ring
  pub inner : List Ring

unfoldable pub same_ring : Ring → Ring → Bool
same_ring [] [] = true
same_ring [] (d ∷ ds) = false
same_ring (c ∷ cs) [] = false
same_ring (c ∷ cs) (d ∷ ds) = eqb c d && same_ring cs ds

-- rings, and others seen from the other side
unfoldable pub and_back : List Ring → List Ring → List Ring
and_back rs ss = rs ++ map back ss

-- the faces as they have to be: the low sides; the high sides, which are the next cubes' low sides seen from this cube; the inner faces from both sides
unfoldable pub fitted : Pattern → List Ring
fitted p =
    and_back p.low_x (map (further 1) p.low_x)
    ++ (and_back p.low_y (map (further 2) p.low_y) ++ (and_back p.low_z (map (further 4) p.low_z) ++ and_back p.inner p.inner))

-- a face seen from the other side has the same segments, running the other way, whatever a segment weighs
abbrev pub TurnsRound : (ℕ → ℕ → ℕ) → Ring → Type 0
TurnsRound edge r = (above : ℕ → Bool) (w : ℕ → ℕ → ℕ)
    → total w (face_segments above edge (back r)) ≡ total (λ i j. w j i) (face_segments above edge r)

-- Two neighbouring corners of a face at the low side across an axis, the edge e between them, and the edge between the same corners of the cube before, for which they stand
-- further on: e goes from the one corner to the other and lies in that side, and both are the same edge of the grid.
pub record InLowSide (m : Mode) (axis : ℕ) (corners : Arrow) (e before : ℕ) : Type 0 where
  pub edge : CubeEdge m e
  pub leaves : m.low e ≡ min corners.from corners.to
  pub comes : high m e ≡ max corners.from corners.to
  pub from_low : along corners.from axis ≡ 0
  pub to_low : along corners.to axis ≡ 0
  pub flat : along (direction_of m e) axis ≡ 0
  pub before_low : m.low before ≡ m.low e + 2 ^ axis
  pub before_code : m.code before ≡ m.code e

abbrev pub LowEdge : Mode → Pattern → ℕ → Arrow → Type 0
LowEdge m p axis s = InLowSide m axis s (p.edge s.from s.to) (p.edge (s.from + 2 ^ axis) (s.to + 2 ^ axis))

pub record Owed (m : Mode) : Type 0 where
  pub pattern : Pattern
  -- each corner of a case's triangles is an edge of the cube that is crossed in that case, and no side joins an edge to itself
  pub cut : SidesCut m
  -- a cube's triangles run as the segments of its faces, whatever an arrow weighs
  pub even : (above : ℕ → Bool) (w : ℕ → ℕ → ℕ)
      → let there = sides (m.triangles (case_of above)) in
      let cuts = segments_of above pattern.edge pattern.faces in
      total w there + total (λ i j. w j i) cuts ≡ total (λ i j. w j i) there + total w cuts
  -- the faces fit together, inside a cube and from cube to cube
  pub fit : rearranged same_ring pattern.faces (fitted pattern) ≡ true
  -- the faces at the high sides and inside turn round
  pub turn_x : All (TurnsRound pattern.edge) (map (further 1) pattern.low_x)
  pub turn_y : All (TurnsRound pattern.edge) (map (further 2) pattern.low_y)
  pub turn_z : All (TurnsRound pattern.edge) (map (further 4) pattern.low_z)
  pub turn_inner : All (TurnsRound pattern.edge) pattern.inner
  -- the edges at the low sides lie there, and are the edges at the high sides of the cubes before
  pub side_x : All (λ r. All (LowEdge m pattern 0) (go_round arrow r)) pattern.low_x
  pub side_y : All (λ r. All (LowEdge m pattern 1) (go_round arrow r)) pattern.low_y
  pub side_z : All (λ r. All (LowEdge m pattern 2) (go_round arrow r)) pattern.low_z

-- an edge lies in a cube's side across an axis, the low one (at is 0) or the high one (at is 1): it does not run along the axis, and leaves a corner there
pub record AtSide (m : Mode) (axis at e : ℕ) : Type 0 where
  pub flat : along (direction_of m e) axis ≡ 0
  pub stands : along (m.low e) axis ≡ at

-- the faces at a cube's low side across an axis
abbrev pub low_faces : Pattern → ℕ → List Ring
low_faces p zero = p.low_x
low_faces p (suc zero) = p.low_y
low_faces p (suc (suc axis)) = p.low_z

-- What a mode owes besides, so that between two points no two triangles run the same way.
pub record OwedOnce (m : Mode) : Type 0 where
  pub owed : Owed m
  -- an edge of the cube is told by the corner that it leaves and by which of the kind's edges it is there
  pub told : (e f : ℕ) → CubeEdge m e → CubeEdge m f → m.low e ≡ m.low f → m.code e ≡ m.code f → e ≡ f
  -- two different edges lie together in a side across one axis at most
  pub one_side : (e f : ℕ) → CubeEdge m e → CubeEdge m f → (e ≡ f → ⊥) → (axis at axis' at' : ℕ) → axis < 3 → axis' < 3
      → AtSide m axis at e → AtSide m axis at f → AtSide m axis' at' e → AtSide m axis' at' f → axis ≡ axis'
  -- no side of a cube's triangles comes twice
  pub once : (above : ℕ → Bool) (e f : ℕ) → times (sides (m.triangles (case_of above))) e f ≤ 1
  -- a side of a triangle that joins two edges of a cube's low side is a segment of the faces there; one that joins two edges of a high side is one turned round, as the next
  -- cube sees it
  pub low_segment : (axis : ℕ) → axis < 3 → (above : ℕ → Bool) (e f : ℕ) → CubeEdge m e → CubeEdge m f → AtSide m axis 0 e → AtSide m axis 0 f
      → times (sides (m.triangles (case_of above))) e f ≤ times (segments_of above owed.pattern.edge (low_faces owed.pattern axis)) e f
  pub high_segment : (axis : ℕ) → axis < 3 → (above : ℕ → Bool) (e f : ℕ) → CubeEdge m e → CubeEdge m f → AtSide m axis 1 e → AtSide m axis 1 f
      → times (sides (m.triangles (case_of above))) e f
      ≤ times (segments_of above owed.pattern.edge (map (further (2 ^ axis)) (low_faces owed.pattern axis))) f e
  -- at a low side no segment comes twice, and none runs back where another runs
  pub one_way : (axis : ℕ) → axis < 3 → (above : ℕ → Bool) (e f : ℕ)
      → let cuts = segments_of above owed.pattern.edge (low_faces owed.pattern axis) in
      times cuts e f + times cuts f e ≤ 1

-- whole cubes: the faces are document 01's, and those at the low sides are the first, third and fifth of them
abbrev pub cube_pattern : Pattern
cube_pattern =
    record {
      edge = edge_between;
      faces = cube_faces;
      low_x = (0 ∷ 4 ∷ 6 ∷ 2 ∷ []) ∷ [];
      low_y = (0 ∷ 1 ∷ 5 ∷ 4 ∷ []) ∷ [];
      low_z = (0 ∷ 2 ∷ 3 ∷ 1 ∷ []) ∷ [];
      inner = [];
    }
