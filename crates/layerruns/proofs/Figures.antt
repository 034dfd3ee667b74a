-- Document 01's grids of 3×3×3 and of 2×2×2 samples, handed in layer by layer.
use mathlib.Core.Path.{◌≡◌, refl}
use mathlib.Core.List.{List, [], ◌∷◌, ◌++◌, flat_map}
use mathlib.Core.Bool.{xor}
use Prim.Native.Nat.{ℕ}
use lib.ListN.{replicate}
use Rattle.laws.specs.Range.{join_to, keep_from}
use Rattle.laws.specs.Bits.{bits, bit}
use Rattle.laws.specs.Nearest.{nearest}
use Rattle.laws.specs.Mesh.{triangle}
use Rattle.cube.specs.Cube.{case_of, is_above}
use Rattle.cube.specs.Face.{cuts, way_round, face_segments, segments_of}
use Rattle.cube.specs.Loop.{loops}
use Rattle.cube.specs.Answer.{segments, fan_of, triangles as caseTriangles}
use Rattle.grid.specs.Grid.{site, coordinate, side, is_above_grey, other_end, fits_along, is_there, is_outermost, some_face, crossed_from, crossed, on_face_from, on_face, mark}
use Rattle.grid.specs.Point.{offset, place_from, place}
use Rattle.grid.specs.Mesh.{corner_site, grid_edge, case_at, cube_triangles}
use Rattle.grid.specs.Work.{size}
use Rattle.layerstate.specs.State.{State}
use Rattle.layerparts.specs.Layer.{layer_edges, layer_triangles, nothing, layer_through, last_layer}
use Rattle.layers.specs.Outcome.{layer_hands, closing_hands}

-- the state of a run of so many samples a side at grey value 50, with so many layers taken
abbrev state_of : ℕ → ℕ → List ℕ → State
state_of sides taken kept = record { sides = size sides sides sides; grey = 50; taken = taken; closed = 0; points = 0; triangles = 0; kept = kept }

abbrev dark : List ℕ
dark = replicate 9 0

-- the centre of the middle layer is 100
abbrev middle : List ℕ
middle = replicate 4 0 ++ 100 ∷ replicate 4 0

first_layer : layer_hands (state_of 3 0 dark) 0 dark ≡ nothing
unfolding layer_hands
first_layer = refl

second_layer : layer_hands (state_of 3 1 dark) 1 middle
    ≡ record { places = 256 ∷ 256 ∷ 128 ∷ []; edges = 14 ∷ []; marks = 0 ∷ []; triangles = triangle 36 14 31 ∷ triangle 39 31 14 ∷ triangle 36 40 14 ∷ triangle 39 14 40 ∷ [] }
unfolding layer_hands layer_through layer_edges layer_triangles keep_from join_to flat_map cube_triangles case_at case_of bits corner_site site is_above_grey caseTriangles fan_of loops segments segments_of face_segments cuts way_round is_above bit grid_edge crossed crossed_from is_there fits_along coordinate side other_end xor place place_from offset nearest mark some_face on_face on_face_from is_outermost
second_layer = refl

third_layer : layer_hands (state_of 3 2 middle) 2 dark
    ≡ record {
      places = 256 ∷ 128 ∷ 256 ∷ 128 ∷ 256 ∷ 256 ∷ 384 ∷ 256 ∷ 256 ∷ 256 ∷ 384 ∷ 256 ∷ 256 ∷ 256 ∷ 384 ∷ [];
      edges = 31 ∷ 36 ∷ 39 ∷ 40 ∷ 41 ∷ [];
      marks = replicate 5 0;
      triangles = triangle 36 31 41 ∷ triangle 39 41 31 ∷ triangle 36 41 40 ∷ triangle 39 40 41 ∷ [];
    }
unfolding layer_hands layer_through layer_edges layer_triangles keep_from join_to flat_map cube_triangles case_at case_of bits corner_site site is_above_grey caseTriangles fan_of loops segments segments_of face_segments cuts way_round is_above bit grid_edge crossed crossed_from is_there fits_along coordinate side other_end xor place place_from offset nearest mark some_face on_face on_face_from is_outermost
third_layer = refl

closing : closing_hands (state_of 3 3 dark) ≡ nothing
unfolding closing_hands last_layer layer_edges keep_from join_to flat_map site is_above_grey crossed crossed_from is_there fits_along coordinate side other_end xor
closing = refl

-- document 01's example: sample (0, 0, 0) is 100
example_layer : layer_hands (state_of 2 1 (100 ∷ 0 ∷ 0 ∷ 0 ∷ [])) 1 (replicate 4 0)
    ≡ record { places = 128 ∷ 0 ∷ 0 ∷ 0 ∷ 128 ∷ 0 ∷ 0 ∷ 0 ∷ 128 ∷ []; edges = 0 ∷ 1 ∷ 2 ∷ []; marks = 1 ∷ 1 ∷ 1 ∷ []; triangles = triangle 0 1 2 ∷ [] }
unfolding layer_hands layer_through layer_edges layer_triangles keep_from join_to flat_map cube_triangles case_at case_of bits corner_site site is_above_grey caseTriangles fan_of loops segments segments_of face_segments cuts way_round is_above bit grid_edge crossed crossed_from is_there fits_along coordinate side other_end xor place place_from offset nearest mark some_face on_face on_face_from is_outermost
example_layer = refl

example_closing : closing_hands (state_of 2 2 (replicate 4 0)) ≡ nothing
unfolding closing_hands last_layer layer_edges keep_from join_to flat_map site is_above_grey crossed crossed_from is_there fits_along coordinate side other_end xor
example_closing = refl
