-- Every row of the table holds.
use mathlib.Core.Path.{refl}
use mathlib.Core.List.{flat_map}
use Rattle.laws.specs.Sum.{All, sum_of}
use Rattle.laws.specs.Bits.{bit}
use Rattle.laws.specs.Nearest.{nearest}
use Rattle.cube.specs.Cube.{is_above}
use Rattle.cube.specs.Face.{cuts, way_round, face_segments, segments_of}
use Rattle.cube.specs.Loop.{loops}
use Rattle.cube.specs.Answer.{segments, fan_of, triangles}
use Rattle.grid.specs.Point.{offset}
use Rattle.rounds.specs.Round.{moved}
use lib.Count.{count_trailing_zeros}
use lib.Ieee.{of_int, div, add, mul, sum, round as rounded, units, odd, size, span, climb}
use Rattle.root.specs.Root.{scale_of, first_scale, root_of, root_below, next_root}
use Rattle.laws.specs.Signed.{negative}
use Rattle.measures.specs.Sides.{between, dot, cross, squared, dot_at, opposite_at, cross_at}
use Rattle.measures.specs.Corners.{dots_of, squares_of, double_area, cotangents, acute_share, acute_shares, shares}
use Rattle.figures.specs.Figure.{FigureHolds, figures}

pub figures_hold : All FigureHolds figures
unfolding triangles flat_map fan_of loops segments segments_of face_segments cuts way_round is_above bit offset nearest moved sum_of scale_of first_scale root_of root_below next_root between dot cross squared dot_at opposite_at cross_at negative dots_of squares_of double_area cotangents acute_share acute_shares shares of_int div add mul sum rounded units odd size span climb count_trailing_zeros
figures_hold = (refl, (refl, (refl, (refl, (refl, (refl, (refl, (refl, (refl, (refl, (refl, (refl, (refl, (refl, tt))))))))))))))
