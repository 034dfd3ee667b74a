-- `Mesh::check` meets its contract: the first number that holds.
use Rattle.std.proofs.Common.{◌≡◌, rules, arith, ◌≤◌, IsTrue, EachIndex, ◌↔◌, get_or}
use Rattle.std.proofs.lemmas.Grind.{common_steps}
use Rattle.mesh.specs.Check.{all_within, mesh_number}
use Rattle.mesh.proofs.Places.{within_is}
use Rattle.mesh.proofs.Mesh.check.Goals as goal

pub returns-then-not-all : goal.returns-then-not-all
unfolding mesh_number
returns-then-not-all c =
    let h : IsTrue c.all.result ↔ EachIndex c.args.self.marks.now (λ k. get_or c.args.self.marks.now k 0 ≤ 1) = search rules in
    let e : c.all.result ≡ all_within 1 c.args.self.marks.now = within_is _ _ _ h in
    grind (arith, common_steps)

pub returns : goal.returns
unfolding mesh_number
returns c =
    let h : IsTrue c.all.result ↔ EachIndex c.args.self.marks.now (λ k. get_or c.args.self.marks.now k 0 ≤ 1) = search rules in
    let e : c.all.result ≡ all_within 1 c.args.self.marks.now = within_is _ _ _ h in
    grind (arith, common_steps)
