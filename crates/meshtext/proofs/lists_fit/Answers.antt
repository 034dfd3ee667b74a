-- `meshtext::lists_fit` meets its contract.
use Rattle.std.proofs.Common.{rules, arith}
use Rattle.std.proofs.lemmas.Grind.{common_steps}
use Rattle.meshtext.specs.MeshText.{lists_fit}
use Rattle.meshtext.proofs.lists_fit.Goals as goal

pub returns-then-shells-records : goal.returns-then-shells-records
unfolding lists_fit
returns-then-shells-records c = search rules

pub returns-else-shells-records : goal.returns-else-shells-records
unfolding lists_fit
returns-else-shells-records c = grind (arith, common_steps)
