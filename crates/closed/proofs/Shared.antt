-- Two cubes of a grid that both have two different grid edges are the same cube, or stand next to each other along one axis, and both edges lie in their common side.
use mathlib.Core.Path.{◌≡◌, ap, sym, ◌∙◌}
use Prim.Native.Nat.{ℕ, ◌+◌, ◌<◌, ◌≤◌}
use native.Mathlib.Decide.{dec_lt}
use native.Mathlib.Omega.{arith}
use Rattle.grid.specs.Grid.{Size, along}
use Rattle.grid.specs.Mode.{Mode, direction_of, CubeEdge}
use Rattle.grid.specs.Mesh.{grid_edge}
use Rattle.grid.proofs.Sites.{choose}
use Rattle.grid.proofs.Edges.{edge_within, SameEdge, same_grid_edge}
use Rattle.closed.specs.Pattern.{AtSide, OwedOnce}

-- two edges of a cube lie in one of its sides
pub record Lie (m : Mode) (axis at e f : ℕ) : Type 0 where
  pub first : AtSide m axis at e
  pub second : AtSide m axis at f

-- the second cube is the next one after the first along an axis
pub record NextTo (axis x y z x' y' z' : ℕ) : Type 0 where
  pub on : choose axis x' y' z' ≡ choose axis x y z + 1
  pub level : (other : ℕ) → other < 3 → (other ≡ axis → ⊥) → choose other x' y' z' ≡ choose other x y z

-- two different edges of a cube of the grid
pub record Cube (m : Mode) (n : Size) (x y z e f : ℕ) : Type 0 where
  pub small_x : x + 1 < n.nx
  pub small_y : y + 1 < n.ny
  pub small_z : z + 1 < n.nz
  pub first : CubeEdge m e
  pub second : CubeEdge m f
  pub apart : e ≡ f → ⊥

-- edges e and f of the one cube, e' and f' of the other
pub data Shared (m : Mode) (x y z x' y' z' e f e' f' : ℕ) : Type 0 where
  same_cube : x ≡ x' → y ≡ y' → z ≡ z' → Shared m x y z x' y' z' e f e' f'
  next_cube : (axis : ℕ) → axis < 3 → NextTo axis x y z x' y' z' → Lie m axis 1 e f → Lie m axis 0 e' f' → Shared m x y z x' y' z' e f e' f'
  cube_before : (axis : ℕ) → axis < 3 → NextTo axis x' y' z' x y z → Lie m axis 0 e f → Lie m axis 1 e' f' → Shared m x y z x' y' z' e f e' f'

-- an edge that leaves coordinate i of cube a and coordinate j of a cube further on, and goes on by d
further_on : (a b i j d : ℕ) → a + i ≡ b + j → i + d ≤ 1 → a < b → (b ≡ a + 1) × (i ≡ 1) × (j ≡ 0) × (d ≡ 0)
further_on a b i j d same within l = (omega arith, omega arith, omega arith, omega arith)

-- one edge of the grid as an edge of two cubes, of which the second stands further on along an axis
pub record Crosses (m : Mode) (axis x y z x' y' z' e e' : ℕ) : Type 0 where
  pub on : choose axis x' y' z' ≡ choose axis x y z + 1
  pub high : AtSide m axis 1 e
  pub low : AtSide m axis 0 e'

crosses : (m : Mode) (axis x y z x' y' z' e e' : ℕ) → axis < 3 → CubeEdge m e → SameEdge m x y z x' y' z' e e' → choose axis x y z < choose axis x' y' z'
    → Crosses m axis x y z x' y' z' e e'
crosses m axis x y z x' y' z' e e' l edge s less =
    let o =
    further_on (choose axis x y z) (choose axis x' y' z') (along (m.low e) axis) (along (m.low e') axis) (along (direction_of m e) axis) (s.stand axis l) (edge_within m e axis l edge)
    less in
    record {
      on = o.0;
      high = record { flat = o.3; stands = o.1 };
      low = record { flat = ap (λ code. along (m.kind.direction code) axis) (sym s.alike) ∙ o.3; stands = o.2 };
    }

turned : {m : Mode} {x y z x' y' z' e e' : ℕ} → SameEdge m x y z x' y' z' e e' → SameEdge m x' y' z' x y z e' e
turned s = record { alike = sym s.alike; stand = λ axis l. sym (s.stand axis l) }

module _ (m : Mode) (once : OwedOnce m) (n : Size) (x y z x' y' z' e f e' f' : ℕ) (here : Cube m n x y z e f) (there : Cube m n x' y' z' e' f')
    (one : grid_edge m n x y z e ≡ grid_edge m n x' y' z' e') (two : grid_edge m n x y z f ≡ grid_edge m n x' y' z' f') where
  same_edge : (i j : ℕ) → CubeEdge m i → CubeEdge m j → grid_edge m n x y z i ≡ grid_edge m n x' y' z' j → SameEdge m x y z x' y' z' i j
  same_edge i j =
      same_grid_edge n x y z x' y' z' here.small_x here.small_y here.small_z there.small_x there.small_y there.small_z m i j

  first_same : SameEdge m x y z x' y' z' e e'
  first_same = same_edge e e' here.first there.first one

  second_same : SameEdge m x y z x' y' z' f f'
  second_same = same_edge f f' here.second there.second two

  -- how the two stand along an axis
  data Stand (axis : ℕ) : Type 0 where
    level : choose axis x' y' z' ≡ choose axis x y z → Stand axis
    on : choose axis x' y' z' ≡ choose axis x y z + 1 → Lie m axis 1 e f → Lie m axis 0 e' f' → Stand axis
    off : choose axis x y z ≡ choose axis x' y' z' + 1 → Lie m axis 0 e f → Lie m axis 1 e' f' → Stand axis

  stand : (axis : ℕ) → axis < 3 → Stand axis
  stand axis l = go (dec_lt (choose axis x y z) (choose axis x' y' z')) (dec_lt (choose axis x' y' z') (choose axis x y z))
    where
      go : Dec (choose axis x y z < choose axis x' y' z') → Dec (choose axis x' y' z' < choose axis x y z) → Stand axis
      go (yes less) d =
          let a = crosses m axis x y z x' y' z' e e' l here.first first_same less in
          let b = crosses m axis x y z x' y' z' f f' l here.second second_same less in
          on a.on (record { first = a.high; second = b.high }) (record { first = a.low; second = b.low })
      go (no ge) (yes less) =
          let a = crosses m axis x' y' z' x y z e' e l there.first (turned first_same) less in
          let b = crosses m axis x' y' z' x y z f' f l there.second (turned second_same) less in
          off a.on (record { first = a.low; second = b.low }) (record { first = a.high; second = b.high })
      go (no ge) (no le) = level (omega arith)

  -- where they differ along one axis they don't along another, as no two edges lie in two sides
  others : (axis at : ℕ) → axis < 3 → Lie m axis at e f → (other : ℕ) → other < 3 → (other ≡ axis → ⊥) → choose other x' y' z' ≡ choose other x y z
  others axis at l lie other k differ = go (stand other k)
    where
      not_two : (at' : ℕ) → Lie m other at' e f → ⊥
      not_two at' b =
          differ (once.one_side e f here.first here.second here.apart other at' axis at k l b.first b.second lie.first lie.second)

      go : Stand other → choose other x' y' z' ≡ choose other x y z
      go (level q) = q
      go (on q b c) = absurd (not_two 1 b)
      go (off q b c) = absurd (not_two 0 b)

  one_on : (axis : ℕ) → axis < 3 → choose axis x' y' z' ≡ choose axis x y z + 1 → Lie m axis 1 e f → Lie m axis 0 e' f' → Shared m x y z x' y' z' e f e' f'
  one_on axis l q a b = next_cube axis l (record { on = q; level = others axis 1 l a }) a b

  one_off : (axis : ℕ) → axis < 3 → choose axis x y z ≡ choose axis x' y' z' + 1 → Lie m axis 0 e f → Lie m axis 1 e' f' → Shared m x y z x' y' z' e f e' f'
  one_off axis l q a b = cube_before axis l (record { on = q; level = λ other k d. sym (others axis 0 l a other k d) }) a b

  pub shared_face : Shared m x y z x' y' z' e f e' f'
  shared_face = go (stand 0 (omega arith)) (stand 1 (omega arith)) (stand 2 (omega arith))
    where
      go : Stand 0 → Stand 1 → Stand 2 → Shared m x y z x' y' z' e f e' f'
      go (on q a b) s t = one_on 0 (omega arith) q a b
      go (off q a b) s t = one_off 0 (omega arith) q a b
      go (level p) (on q a b) t = one_on 1 (omega arith) q a b
      go (level p) (off q a b) t = one_off 1 (omega arith) q a b
      go (level p) (level r) (on q a b) = one_on 2 (omega arith) q a b
      go (level p) (level r) (off q a b) = one_off 2 (omega arith) q a b
      go (level p) (level r) (level q) = same_cube (sym p) (sym r) (sym q)
