-- `mesh::triangles_fit` meets its contract: a triangle that fails ends the test.
use Rattle.std.proofs.Common.{sym, ◌∙◌, arith}
use Rattle.laws.proofs.Tests.{all_fails}
use Rattle.mesh.specs.Check.{triangles_fit}
use Rattle.mesh.proofs.triangles_fit.Goals as goal

pub returns-then-not-names_three : goal.returns-then-not-names_three
unfolding triangles_fit
returns-then-not-names_three c =
    sym (all_fails _ c.loop-i.i _ (omega arith) (sym c.names_three.ensures ∙ c.if-not-names_three.true))
