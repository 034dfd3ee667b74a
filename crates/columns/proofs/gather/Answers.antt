-- `columns::gather` meets its contract: a column of points, or that of triangles.
use mathlib.Core.Path.{◌≡◌}
use Prim.Native.Nat.{◌<◌}
use native.Mathlib.Omega.{arith}
use Rattle.std.proofs.Common.{refl}
use Rattle.columns.specs.declared.field.Field.{Field}
use Rattle.columns.specs.declared.field.Field.TheVariants.{Low, Points, Touches, LeastX, GreatestX, LeastY, GreatestY, LeastZ, GreatestZ, Triangles}
use Rattle.columns.specs.Columns.{kind_of}
use Rattle.columns.proofs.Fields.{points_fields, triangles_fields}
use Rattle.columns.proofs.gather.Goals as goal

-- a field of points
of_points : (f : Field) → (f ≡ Triangles → ⊥) → kind_of f < 9
of_points Low ne = omega arith
of_points Points ne = omega arith
of_points Touches ne = omega arith
of_points LeastX ne = omega arith
of_points GreatestX ne = omega arith
of_points LeastY ne = omega arith
of_points GreatestY ne = omega arith
of_points LeastZ ne = omega arith
of_points GreatestZ ne = omega arith
of_points Triangles ne = absurd (ne refl)

pub returns-in-Triangles : goal.returns-in-Triangles
returns-in-Triangles c =
    let a = c.args in
    rw c.in-Triangles.is (triangles_fields a.shells a.parts.points a.parts.triangles a.work.now c.requires 9 (omega arith) c.gather_triangles.ensures)

pub returns-in_default : goal.returns-in_default
returns-in_default c =
    let a = c.args in
    points_fields a.shells a.parts.points a.parts.triangles a.work.now c.requires (kind_of a.field) (of_points a.field c.in_default.not-Triangles) c.gather_points.ensures
