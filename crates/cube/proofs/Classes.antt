-- Of the 256 cases, 2 give no triangle, 16 give one, 50 two, 80 three, 76 four, 32 five: 820 in all.
use mathlib.Core.Path.{◌≡◌, refl}
use mathlib.Core.List.{[], ◌∷◌, map, flat_map}
use lib.Dec.{eqb}
use Rattle.laws.specs.Range.{count_to, sum_to}
use Rattle.laws.specs.Bits.{bit}
use Rattle.cube.specs.Cube.{cases, is_above}
use Rattle.cube.specs.Face.{cuts, way_round, face_segments, segments_of}
use Rattle.cube.specs.Loop.{loops}
use Rattle.cube.specs.Answer.{segments, fan_of, triangles, count}

pub classes : map (λ n. count_to cases (λ k. eqb (count k) n)) (0 ∷ 1 ∷ 2 ∷ 3 ∷ 4 ∷ 5 ∷ []) ≡ 2 ∷ 16 ∷ 50 ∷ 80 ∷ 76 ∷ 32 ∷ []
unfolding count_to sum_to count triangles flat_map fan_of loops segments segments_of face_segments cuts way_round is_above bit
classes = refl

pub in_all : sum_to cases count ≡ 820
unfolding sum_to count triangles flat_map fan_of loops segments segments_of face_segments cuts way_round is_above bit
in_all = refl
