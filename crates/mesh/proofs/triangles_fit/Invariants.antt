-- `mesh::triangles_fit` meets its contract: all triangles that were passed name three points.
use mathlib.Core.Path.{◌≡◌}
use mathlib.Core.Bool.{true}
use Rattle.laws.specs.Range.{all_to}
use Rattle.mesh.specs.Mesh.{triangle_at}
use Rattle.mesh.specs.Check.{names_three}
use Rattle.mesh.proofs.triangles_fit.Given as goal

abbrev pub invariant-loop-i : goal.invariant-loop-i
invariant-loop-i l =
    all_to l.i (λ k. names_three l.v (triangle_at l.triangles k)) ≡ true
