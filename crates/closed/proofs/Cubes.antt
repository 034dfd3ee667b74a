-- What whole cubes owe, document 01's mode, and show: by the table's tests over all cases, and by tests over the faces and the edges in them.
use mathlib.Core.Path.{◌≡◌, refl}
use mathlib.Core.List.{[], ◌∷◌}
use mathlib.Core.Bool.{Bool, true}
use Prim.Native.Nat.{ℕ, ◌+◌}
use native.Mathlib.Nat.{min_comm, max_comm}
use Rattle.laws.specs.Sum.{all_of}
use Rattle.laws.specs.Order.{rearranged, is_in, without}
use Rattle.laws.specs.Mesh.{sides, total}
use Rattle.cube.specs.Cube.{case_of, edge_between}
use Rattle.cube.specs.Face.{go_round, segments_of, back}
use Rattle.cube.specs.Answer.{cube_faces, triangles}
use Rattle.cube.proofs.Cases.{case_balance}
use Rattle.cube.proofs.Corners.{case_small, segments_of_case}
use Rattle.cube.proofs.Turned.{face_turned}
use Rattle.grid.specs.Mode.{cubes}
use Rattle.grid.proofs.Edges.{is_cube_edge, cubes_sides_cut}
use Rattle.closed.specs.Pattern.{same_ring, and_back, fitted, TurnsRound, Owed, cube_pattern}
use Rattle.closed.proofs.Pattern.{is_low_edge, sides_lie, sides_lie_lem}

pub edge_either_way : (i j : ℕ) → edge_between i j ≡ edge_between j i
edge_either_way i j = rw (min_comm i j, max_comm i j)

pub turns : (i j k l : ℕ) → TurnsRound edge_between (i ∷ j ∷ k ∷ l ∷ [])
turns i j k l above w = face_turned above edge_between edge_either_way w i j k l

pub faces_fit : rearranged same_ring cube_pattern.faces (fitted cube_pattern) ≡ true
unfolding rearranged is_in without same_ring fitted and_back back
faces_fit = refl

pub case_even : (above : ℕ → Bool) (w : ℕ → ℕ → ℕ)
    → total w (sides (triangles (case_of above))) + total (λ i j. w j i) (segments_of above edge_between cube_faces)
    ≡ total (λ i j. w j i) (sides (triangles (case_of above))) + total w (segments_of above edge_between cube_faces)
case_even above w = rw (← (segments_of_case above)) (case_balance (case_of above) (case_small above) w)

unfoldable pub cubes_owed : Owed cubes
unfolding sides_lie is_low_edge is_cube_edge all_of go_round
cubes_owed =
    record {
      pattern = cube_pattern;
      cut = cubes_sides_cut;
      even = case_even;
      fit = faces_fit;
      turn_x = (turns 1 5 7 3, tt);
      turn_y = (turns 2 3 7 6, tt);
      turn_z = (turns 4 6 7 5, tt);
      turn_inner = tt;
      side_x = sides_lie_lem cubes cube_pattern 0 cube_pattern.low_x refl;
      side_y = sides_lie_lem cubes cube_pattern 1 cube_pattern.low_y refl;
      side_z = sides_lie_lem cubes cube_pattern 2 cube_pattern.low_z refl;
    }
