-- `edgepoints::mark_of` meets its contract: one of the three tests passes, or none.
use Rattle.rows.specs.Rows.{size_of}
use Rattle.std.proofs.Common.{arith}
use Rattle.std.proofs.lemmas.Grind.{common_steps}
use Rattle.edgepoints.proofs.Marks.{some_face_lem}
use Rattle.edgepoints.proofs.mark_of.Goals as goal
use Rattle.edgepoints.proofs.mark_of.Goals.{then-across_x, else-across_x, then-across_y, else-across_y}

pub returns : goal.returns
returns c =
    let a = c.args in
    let at = c.requires in
    rw (
      some_face_lem (size_of a.sides) a.at.s a.at.x a.at.y a.at.z at.site at.below_x at.below_y at.below_z a.d,
      ← c.is_outer-across_x.ensures,
      ← c.is_outer-across_y.ensures,
      ← c.is_outer-across_z.ensures,
    )
    (elim c.if-across_x.branch [
      | then-across_x w ↦ elim c.if-across_y.branch [ then-across_y v ↦ grind (arith, common_steps, c.from.ensures) | else-across_y v ↦ grind (arith, common_steps, c.from.ensures) ]
      | else-across_x w ↦ elim c.if-across_y.branch [ then-across_y v ↦ grind (arith, common_steps, c.from.ensures) | else-across_y v ↦ grind (arith, common_steps, c.from.ensures) ]
    ])
