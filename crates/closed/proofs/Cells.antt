-- The cubes of a grid, cut by a mode, keep the law of cells: a cube's high sides are its neighbours' low ones.
use mathlib.Core.Path.{◌≡◌, refl, ap, ap₂, sym, ◌∙◌}
use mathlib.Core.List.{List, [], ◌∷◌, ◌++◌, map, flat_map}
use mathlib.Core.Bool.{Bool}
use Prim.Native.Nat.{ℕ, ◌+◌, ◌/◌, ◌%◌, ◌^◌, ◌≤◌}
use native.Mathlib.Decide.{dec_le}
use native.Mathlib.Omega.{arith}
use Rattle.laws.specs.Sum.{sum_of, All}
use Rattle.laws.specs.Mesh.{Arrow, arrow, total}
use Rattle.laws.proofs.Sums.{sum_map, sum_same}
use Rattle.laws.proofs.Lists.{map_cong}
use Rattle.laws.proofs.Sides.{total_rename}
use Rattle.cube.specs.Face.{step, cuts, go_round, way_round, face_segments, segments_of}
use Rattle.cube.proofs.Way.{by_named, arrow_named, cuts_renamed, round_mapped, round_renamed}
use Rattle.grid.specs.Grid.{Size, site, along}
use Rattle.grid.specs.Mode.{Mode, high}
use Rattle.grid.specs.Mesh.{corner_site, case_at, grid_edge, cube_triangles}
use Rattle.closed.specs.Pattern.{Ring, further, Pattern, LowEdge, Owed}
use Rattle.closed.proofs.Law.{CellLaw}
use Rattle.closed.proofs.Pattern.{ring_by_ring, faces_parted}

-- the edges of a ring may be renamed before or after
module _ (above : ℕ → Bool) (edge : ℕ → ℕ → ℕ) (name : ℕ → ℕ) where
  abbrev named : ℕ → ℕ → ℕ
  named i j = name (edge i j)

  way_renamed : (ring : Ring) → way_round above named ring ≡ map (by_named name) (way_round above edge ring)
  unfolding way_round
  way_renamed ring = sym (round_mapped (step above edge) (by_named name) ring)

  ring_renamed : (w : ℕ → ℕ → ℕ) (ring : Ring)
      → total w (face_segments above named ring) ≡ total (λ i j. w (name i) (name j)) (face_segments above edge ring)
  unfolding total face_segments
  ring_renamed w ring =
      ap (λ ss. sum_of (λ a. w a.from a.to) (cuts ss)) (way_renamed ring)
      ∙ ap (sum_of (λ a. w a.from a.to)) (cuts_renamed name (way_round above edge ring))
      ∙ sum_map (λ a. w a.from a.to) (arrow_named name) (cuts (way_round above edge ring))

  pub rings_renamed : (w : ℕ → ℕ → ℕ) (rs : List Ring)
      → total w (segments_of above named rs) ≡ total (λ i j. w (name i) (name j)) (segments_of above edge rs)
  rings_renamed w rs =
      ring_by_ring above named w rs
      ∙ sum_same (λ r. total w (face_segments above named r)) (λ r. total (λ i j. w (name i) (name j)) (face_segments above edge r)) (ring_renamed w) rs
      ∙ sym (ring_by_ring above edge (λ i j. w (name i) (name j)) rs)

-- An edge at a low side has the two corners for its ends, in the one order or the other: what holds of them both ways holds of its lower and its upper corner. So both are
-- at that side.
module _ (m : Mode) (p : Pattern) (axis : ℕ) (s : Arrow) (e : LowEdge m p axis s) where
  abbrev low : ℕ
  low = m.low (p.edge s.from s.to)

  abbrev top : ℕ
  top = high m (p.edge s.from s.to)

  pub by_ends : (P : ℕ → ℕ → Type 0) → P s.from s.to → P s.to s.from → P low top
  by_ends P there back = go (dec_le s.from s.to)
    where
      go : Dec (s.from ≤ s.to) → P low top
      go (yes l) = let a : low ≡ s.from = omega (arith, e.leaves) in let b : top ≡ s.to = omega (arith, e.comes) in rw (b, a) there
      go (no l) = let a : low ≡ s.to = omega (arith, e.leaves) in let b : top ≡ s.from = omega (arith, e.comes) in rw (b, a) back

  pub low_there : along low axis ≡ 0
  low_there = by_ends (λ a b. along a axis ≡ 0) e.from_low e.to_low

  pub top_there : along top axis ≡ 0
  top_there = by_ends (λ a b. along b axis ≡ 0) e.to_low e.from_low

same_site : (n : Size) {x y z a b c : ℕ} → x ≡ a → y ≡ b → z ≡ c → site n x y z ≡ site n a b c
same_site n p q r i = site n (p i) (q i) (r i)

-- a corner at a cube's low side is, one step on, a corner of the cube before
module _ (n : Size) (x y z c : ℕ) where
  pub shared_x : along c 0 ≡ 0 → corner_site n x y z (c + 1) ≡ corner_site n (x + 1) y z c
  unfolding corner_site
  shared_x h =
      let half : (c + 1) / 2 ≡ c / 2 = omega arith in
      let quarter : (c + 1) / 4 ≡ c / 4 = omega arith in
      same_site n (omega arith) (ap (λ q. y + q % 2) half) (ap (λ q. z + q % 2) quarter)

  pub shared_y : along c 1 ≡ 0 → corner_site n x y z (c + 2) ≡ corner_site n x (y + 1) z c
  unfolding corner_site
  shared_y h =
      let quarter : (c + 2) / 4 ≡ c / 4 = omega arith in
      same_site n (omega arith) (omega arith) (ap (λ q. z + q % 2) quarter)

  pub shared_z : along c 2 ≡ 0 → corner_site n x y z (c + 4) ≡ corner_site n x y (z + 1) c
  unfolding corner_site
  shared_z h = same_site n (omega arith) (omega arith) (omega arith)

module _ (m : Mode) (owed : Owed m) (n : Size) (above : ℕ → Bool) where
  abbrev p : Pattern
  p = owed.pattern

  -- of the cube at (x, y, z): which corners are above, and the segments of rings
  abbrev pub corner : ℕ → ℕ → ℕ → ℕ → Bool
  corner x y z c = above (corner_site n x y z c)

  abbrev edge : ℕ → ℕ → ℕ → ℕ → ℕ → ℕ
  edge x y z i j = grid_edge m n x y z (p.edge i j)

  abbrev pub across : List Ring → ℕ → ℕ → ℕ → List Arrow
  across rs x y z = segments_of (corner x y z) (edge x y z) rs

  -- A side between two cubes: its corners, seen from the one, are those of the other that stand further on along the axis. So both see the same segments.
  module _ (axis x y z x' y' z' : ℕ) (shared : (c : ℕ) → along c axis ≡ 0 → corner_site n x y z (c + 2 ^ axis) ≡ corner_site n x' y' z' c) where
    same_edge : (s : Arrow) → LowEdge m p axis s → edge x y z (s.from + 2 ^ axis) (s.to + 2 ^ axis) ≡ edge x' y' z' s.from s.to
    unfolding grid_edge
    same_edge s e = rw (e.before_low, e.before_code, shared (m.low (p.edge s.from s.to)) (low_there m p axis s e))

    same_step : (s : Arrow) → LowEdge m p axis s
        → step (corner x y z) (edge x y z) (s.from + 2 ^ axis) (s.to + 2 ^ axis) ≡ step (corner x' y' z') (edge x' y' z') s.from s.to
    same_step s e =
        let a = ap above (shared s.from e.from_low) in
        let b = same_edge s e in
        let c = ap above (shared s.to e.to_low) in
        λ i. record { leaving = a i; by = b i; coming = c i }

    same_way : (r : Ring) → All (LowEdge m p axis) (go_round arrow r)
        → way_round (corner x y z) (edge x y z) (further (2 ^ axis) r) ≡ way_round (corner x' y' z') (edge x' y' z') r
    unfolding way_round
    same_way r low =
        round_renamed (step (corner x y z) (edge x y z)) (λ c. c + 2 ^ axis) r
        ∙ sym (round_mapped arrow (λ s. step (corner x y z) (edge x y z) (s.from + 2 ^ axis) (s.to + 2 ^ axis)) r)
        ∙ map_cong (LowEdge m p axis) _ (λ s. step (corner x' y' z') (edge x' y' z') s.from s.to) same_step (go_round arrow r) low
        ∙ round_mapped arrow (λ s. step (corner x' y' z') (edge x' y' z') s.from s.to) r

    pub same_sides : (rs : List Ring) → All (λ r. All (LowEdge m p axis) (go_round arrow r)) rs → across (map (further (2 ^ axis)) rs) x y z ≡ across rs x' y' z'
    unfolding segments_of flat_map face_segments
    same_sides [] low = refl
    same_sides (r ∷ rs) low = ap₂ (λ ss later. cuts ss ++ later) (same_way r low.0) (same_sides rs low.1)

  next_x : (x y z : ℕ) → across (map (further 1) p.low_x) x y z ≡ across p.low_x (x + 1) y z
  next_x x y z = same_sides 0 x y z (x + 1) y z (shared_x n x y z) p.low_x owed.side_x

  next_y : (x y z : ℕ) → across (map (further 2) p.low_y) x y z ≡ across p.low_y x (y + 1) z
  next_y x y z = same_sides 1 x y z x (y + 1) z (shared_y n x y z) p.low_y owed.side_y

  next_z : (x y z : ℕ) → across (map (further 4) p.low_z) x y z ≡ across p.low_z x y (z + 1)
  next_z x y z = same_sides 2 x y z x y (z + 1) (shared_z n x y z) p.low_z owed.side_z

  through : (x y z : ℕ) (w : ℕ → ℕ → ℕ)
      → total w (across p.faces x y z)
      ≡ total w (across p.low_x x y z) + total (λ i j. w j i) (across p.low_x (x + 1) y z)
      + (total w (across p.low_y x y z) + total (λ i j. w j i) (across p.low_y x (y + 1) z))
      + (total w (across p.low_z x y z) + total (λ i j. w j i) (across p.low_z x y (z + 1)))
      + (total w (across p.inner x y z) + total (λ i j. w j i) (across p.inner x y z))
  through x y z w =
      let name = grid_edge m n x y z in
      let there : (rs : List Ring) → _ = rings_renamed (corner x y z) p.edge name w in
      let back : (rs : List Ring) → _ = rings_renamed (corner x y z) p.edge name (λ i j. w j i) in
      omega (
        arith,
        faces_parted owed (corner x y z) (λ i j. w (name i) (name j)),
        there p.faces,
        there p.low_x,
        there p.low_y,
        there p.low_z,
        there p.inner,
        back (map (further 1) p.low_x),
        back (map (further 2) p.low_y),
        back (map (further 4) p.low_z),
        back p.inner,
        ap (total (λ i j. w j i)) (next_x x y z),
        ap (total (λ i j. w j i)) (next_y x y z),
        ap (total (λ i j. w j i)) (next_z x y z),
      )

  pub cell_law : (nx ny nz : ℕ) → CellLaw nx ny nz (cube_triangles m n above) (across p.low_x) (across p.low_y) (across p.low_z)
  unfolding cube_triangles case_at
  cell_law nx ny nz w x y z hx hy hz =
      let name = grid_edge m n x y z in
      let ts = m.triangles (case_at n above x y z) in
      omega (
        arith,
        owed.even (corner x y z) (λ i j. w (name i) (name j)),
        total_rename w name ts,
        total_rename (λ i j. w j i) name ts,
        rings_renamed (corner x y z) p.edge name w p.faces,
        rings_renamed (corner x y z) p.edge name (λ i j. w j i) p.faces,
        through x y z w,
        through x y z (λ i j. w j i),
      )
