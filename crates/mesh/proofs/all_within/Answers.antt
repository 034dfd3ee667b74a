-- `mesh::all_within` meets its contract: what the closure says of each element is what the definition tests.
use Rattle.std.proofs.Common.{rules, ◌≤◌, IsTrue, EachIndex, ◌↔◌, get_or}
use Rattle.mesh.proofs.Places.{within_is}
use Rattle.mesh.proofs.all_within.Goals as goal

pub returns : goal.returns
returns c =
    let h : IsTrue c.all.result ↔ EachIndex c.args.numbers.now (λ k. get_or c.args.numbers.now k 0 ≤ c.args.most) = search rules in
    within_is _ _ _ h
