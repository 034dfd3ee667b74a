-- `cube::rows` meets its contract: the table is the face rule's, by one computation over all its entries.
use mathlib.Core.Path.{refl}
use mathlib.Core.List.{flat_map, flatten}
use Rattle.laws.specs.Range.{join_to}
use Rattle.laws.specs.Bits.{bit}
use Rattle.cube.specs.Cube.{is_above}
use Rattle.cube.specs.Face.{cuts, way_round, face_segments, segments_of}
use Rattle.cube.specs.Loop.{loops}
use Rattle.cube.specs.Answer.{segments, fan_of, triangles, corners_at, answer, row, table}
use Rattle.cube.proofs.rows.Goals as goal

pub returns : goal.returns
unfolding table join_to row flatten answer corners_at triangles flat_map fan_of loops segments segments_of face_segments cuts way_round is_above bit
returns c = refl
