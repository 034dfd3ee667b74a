-- In one cube of a grid no side comes twice, and two cubes whose triangles both run from grid edge i to grid edge j are one cube: were they neighbours, both sides would be
-- segments of the common face, which has none that runs back where another runs.
use mathlib.Core.Path.{◌≡◌, ap, sym, ◌∙◌, subst}
use mathlib.Core.List.{List, map}
use mathlib.Core.Bool.{Bool, ◌&&◌}
use Prim.Native.Nat.{ℕ, zero, suc, ◌+◌, ◌-◌, ◌^◌, ◌<◌, ◌≤◌}
use native.Mathlib.Decide.{dec_lt}
use native.Mathlib.Omega.{arith}
use lib.Dec.{eqb}
use borrow.Author.Tests.{eqb-true}
use Rattle.laws.specs.Range.{one_if}
use Rattle.laws.specs.Sum.{All}
use Rattle.laws.specs.Mesh.{Arrow, arrow, Ends, sides, total, times}
use Rattle.laws.proofs.Tests.{both, is_one}
use Rattle.laws.proofs.Sums.{all_any, all_both, all_map, all_weaken, some_of}
use Rattle.laws.proofs.Lists.{all_flat}
use Rattle.laws.proofs.Sides.{total_rename, times_le, all_counted}
use Rattle.cube.specs.Cube.{cases}
use Rattle.cube.specs.Face.{Step, step, go_round, way_round, face_segments, segments_of}
use Rattle.cube.proofs.Way.{CrossedHave, ends_crossed, round_mapped}
use Rattle.cube.proofs.Corners.{case_small}
use Rattle.grid.specs.Grid.{Size, along}
use Rattle.grid.specs.Mode.{Mode, CubeEdge, CutSide}
use Rattle.grid.specs.Mesh.{corner_site, case_at, grid_edge, cube_triangles}
use Rattle.grid.proofs.Edges.{grid_edge_one_to_one}
use Rattle.closed.specs.Pattern.{Ring, further, Pattern, LowEdge, Owed, low_faces, OwedOnce}
use Rattle.closed.proofs.Cells.{rings_renamed, shared_x, shared_y, shared_z, corner, across, same_sides}
use Rattle.closed.proofs.Shared.{Lie, NextTo, Cube, Shared, same_cube, next_cube, cube_before, shared_face}

-- a corner at the low side of the next cube is, one step on, a corner of this one
next_corner : (n : Size) (axis x y z x' y' z' : ℕ) → axis < 3 → NextTo axis x y z x' y' z' → (c : ℕ) → along c axis ≡ 0
    → corner_site n x y z (c + 2 ^ axis) ≡ corner_site n x' y' z' c
next_corner n zero x y z x' y' z' l to c h =
    rw (to.on, to.level 1 (omega arith) (λ q. omega arith), to.level 2 (omega arith) (λ q. omega arith)) (shared_x n x y z c h)
next_corner n (suc zero) x y z x' y' z' l to c h =
    rw (to.on, to.level 0 (omega arith) (λ q. omega arith), to.level 2 (omega arith) (λ q. omega arith)) (shared_y n x y z c h)
next_corner n (suc (suc zero)) x y z x' y' z' l to c h =
    rw (to.on, to.level 0 (omega arith) (λ q. omega arith), to.level 1 (omega arith) (λ q. omega arith)) (shared_z n x y z c h)
next_corner n (suc (suc (suc axis))) x y z x' y' z' l to c h = absurd (omega arith)

module _ (m : Mode) (once : OwedOnce m) where
  abbrev owed : Owed m
  owed = once.owed

  abbrev p : Pattern
  p = owed.pattern

  low_edges : (axis : ℕ) → axis < 3 → All (λ r. All (LowEdge m p axis) (go_round arrow r)) (low_faces p axis)
  low_edges zero l = owed.side_x
  low_edges (suc zero) l = owed.side_y
  low_edges (suc (suc zero)) l = owed.side_z
  low_edges (suc (suc (suc axis))) l = absurd (omega arith)

  -- the segments of the faces at a low side have edges of the cube for their ends
  ring_ends : (axis : ℕ) (above : ℕ → Bool) (r : Ring) → All (LowEdge m p axis) (go_round arrow r) → All (Ends (CubeEdge m)) (face_segments above p.edge r)
  unfolding face_segments way_round
  ring_ends axis above r low =
      let stepped : Arrow → Step = λ s. step above p.edge s.from s.to in
      ends_crossed (CubeEdge m) (go_round (step above p.edge) r)
      (subst (All (CrossedHave (CubeEdge m))) (round_mapped arrow stepped r)
      (all_map (CrossedHave (CubeEdge m)) stepped (go_round arrow r) (all_weaken (LowEdge m p axis) _ (λ s e crossed. e.edge) (go_round arrow r) low)))

  low_ends : (axis : ℕ) → axis < 3 → (above : ℕ → Bool) → All (Ends (CubeEdge m)) (segments_of above p.edge (low_faces p axis))
  unfolding segments_of
  low_ends axis l above =
      all_flat (Ends (CubeEdge m)) (face_segments above p.edge) (low_faces p axis) (all_weaken _ _ (ring_ends axis above) (low_faces p axis) (low_edges axis l))

  module _ (n : Size) (above : ℕ → Bool) (i j : ℕ) where
    -- the sides of a cube's triangles, between its own edges
    abbrev sides_at : ℕ → ℕ → ℕ → List Arrow
    sides_at x y z = sides (m.triangles (case_at n above x y z))

    -- the edges of a cube between which one of its sides runs from grid edge i to grid edge j
    pub record RunsIn (x y z : ℕ) : Type 0 where
      pub from : ℕ
      pub to : ℕ
      pub cube : Cube m n x y z from to
      pub at_from : grid_edge m n x y z from ≡ i
      pub at_to : grid_edge m n x y z to ≡ j
      pub counted : 0 < times (sides_at x y z) from to

    -- one cube of the grid
    module _ (x y z : ℕ) (hx : x < n.nx - 1) (hy : y < n.ny - 1) (hz : z < n.nz - 1) where
      abbrev name : ℕ → ℕ
      name = grid_edge m n x y z

      only : (e f : ℕ) → CubeEdge m e → CubeEdge m f → name e ≡ name f → e ≡ f
      only e f a b q =
          let same = grid_edge_one_to_one n x y z (omega arith) (omega arith) (omega arith) m e f a b q in
          once.told e f a b same.0 same.1

      cut_sides : All (CutSide m (case_at n above x y z)) (sides_at x y z)
      cut_sides = owed.cut (case_at n above x y z) small
        where
          small : case_at n above x y z < cases
          small = unfold case_at in case_small (λ c. above (corner_site n x y z c))

      by_edges : times (sides (cube_triangles m n above x y z)) i j ≡ total (λ e f. one_if (eqb (name e) i && eqb (name f) j)) (sides_at x y z)
      unfolding cube_triangles
      by_edges = total_rename (λ a b. one_if (eqb a i && eqb b j)) name (m.triangles (case_at n above x y z))

      pub runs_in : 0 < times (sides (cube_triangles m n above x y z)) i j → RunsIn x y z
      unfolding total
      runs_in h =
          some_of (λ s. CutSide m (case_at n above x y z) s × (0 < times (sides_at x y z) s.from s.to)) (λ s. one_if (eqb (name s.from) i && eqb (name s.to) j)) (sides_at x y z)
          (all_both (CutSide m (case_at n above x y z)) (λ s. 0 < times (sides_at x y z) s.from s.to) (sides_at x y z) cut_sides (all_counted (sides_at x y z)))
          (omega (arith, h, by_edges))
          (λ s c l.
          let t = both (eqb (name s.from) i) (eqb (name s.to) j) (is_one _ l) in
          record {
            from = s.from;
            to = s.to;
            cube =
                record {
                  small_x = omega arith;
                  small_y = omega arith;
                  small_z = omega arith;
                  first = c.0.start.edge;
                  second = c.0.end.edge;
                  apart = λ q. c.0.apart (ap m.low q) (ap m.code q);
                };
            at_from = eqb-true (name s.from) i t.0;
            at_to = eqb-true (name s.to) j t.1;
            counted = c.1;
          })

      -- so no side of a cube comes twice between grid edges either
      pub cube_once : times (sides (cube_triangles m n above x y z)) i j ≤ 1
      cube_once = go (dec_lt 0 (times (sides (cube_triangles m n above x y z)) i j))
        where
          one : RunsIn x y z → times (sides (cube_triangles m n above x y z)) i j ≤ 1
          one r =
              let most : times (sides_at x y z) r.from r.to ≤ 1 = unfold case_at in once.once (corner m owed n above x y z) r.from r.to in
              omega (
                arith,
                most,
                by_edges,
                times_le (CubeEdge m) name (λ e. e) i j r.from r.to (λ e a q. only e r.from a r.cube.first (q ∙ sym r.at_from))
                    (λ e a q. only e r.to a r.cube.second (q ∙ sym r.at_to))
                    (sides_at x y z)
                    (all_weaken (CutSide m (case_at n above x y z)) (Ends (CubeEdge m)) (λ s c. (c.start.edge, c.end.edge)) (sides_at x y z) cut_sides),
              )

          go : Dec (0 < times (sides (cube_triangles m n above x y z)) i j) → times (sides (cube_triangles m n above x y z)) i j ≤ 1
          go (yes l) = one (runs_in l)
          go (no l) = omega arith

    -- two neighbouring cubes that both have a side from i to j
    module _ (axis : ℕ) (l : axis < 3) (x y z x' y' z' : ℕ) (to : NextTo axis x y z x' y' z') (r : RunsIn x y z) (r' : RunsIn x' y' z') where
      abbrev lows : List Ring
      lows = low_faces p axis

      -- the segments of the common face as the first cube and as the second has them, between its own edges
      abbrev cuts : List Arrow
      cuts = segments_of (corner m owed n above x y z) p.edge (map (further (2 ^ axis)) lows)

      abbrev cuts' : List Arrow
      cuts' = segments_of (corner m owed n above x' y' z') p.edge lows

      -- the first has it in the common face, as a segment that the second sees turned round
      turned : times cuts r.to r.from ≤ times (across m owed n above lows x' y' z') j i
      turned =
          omega (
            arith,
            times_le (λ e. Unit {0}) (λ e. e) (grid_edge m n x y z) r.to r.from j i (λ e a q. ap (grid_edge m n x y z) q ∙ r.at_to) (λ e a q. ap (grid_edge m n x y z) q ∙ r.at_from)
                cuts
                (all_any (Ends (λ e. Unit {0})) (λ s. (tt, tt)) cuts),
            rings_renamed (corner m owed n above x y z) p.edge (grid_edge m n x y z) (λ a b. one_if (eqb a j && eqb b i)) (map (further (2 ^ axis)) lows),
            ap (λ ss. times ss j i) (same_sides m owed n above axis x y z x' y' z' (next_corner n axis x y z x' y' z' l to) lows (low_edges axis l)),
          )

      only' : (e f : ℕ) → CubeEdge m e → CubeEdge m f → grid_edge m n x' y' z' e ≡ grid_edge m n x' y' z' f → e ≡ f
      only' = only x' y' z' (omega (arith, r'.cube.small_x)) (omega (arith, r'.cube.small_y)) (omega (arith, r'.cube.small_z))

      -- so the second has a segment that runs back
      seen : times (across m owed n above lows x' y' z') j i ≤ times cuts' r'.to r'.from
      seen =
          omega (
            arith,
            rings_renamed (corner m owed n above x' y' z') p.edge (grid_edge m n x' y' z') (λ a b. one_if (eqb a j && eqb b i)) lows,
            times_le (CubeEdge m) (grid_edge m n x' y' z') (λ e. e) j i r'.to r'.from (λ e a q. only' e r'.to a r'.cube.second (q ∙ sym r'.at_to))
                (λ e a q. only' e r'.from a r'.cube.first (q ∙ sym r'.at_from))
                cuts'
                (low_ends axis l (corner m owed n above x' y' z')),
          )

      -- where by its own side one runs there
      not_both : Lie m axis 1 r.from r.to → Lie m axis 0 r'.from r'.to → ⊥
      unfolding case_at
      not_both high low =
          omega (
            arith,
            r.counted,
            r'.counted,
            turned,
            seen,
            once.high_segment axis l (corner m owed n above x y z) r.from r.to r.cube.first r.cube.second high.first high.second,
            once.low_segment axis l (corner m owed n above x' y' z') r'.from r'.to r'.cube.first r'.cube.second low.first low.second,
            once.one_way axis l (corner m owed n above x' y' z') r'.from r'.to,
          )

    pub one_cell : (x y z x' y' z' : ℕ) → RunsIn x y z → RunsIn x' y' z' → (x ≡ x') × (y ≡ y') × (z ≡ z')
    one_cell x y z x' y' z' r r' =
        go (shared_face m once n x y z x' y' z' r.from r.to r'.from r'.to r.cube r'.cube (r.at_from ∙ sym r'.at_from) (r.at_to ∙ sym r'.at_to))
      where
        go : Shared m x y z x' y' z' r.from r.to r'.from r'.to → (x ≡ x') × (y ≡ y') × (z ≡ z')
        go (same_cube a b c) = (a, b, c)
        go (next_cube axis l to high low) = absurd (not_both axis l x y z x' y' z' to r r' high low)
        go (cube_before axis l to low high) = absurd (not_both axis l x' y' z' x y z to r' r high low)
