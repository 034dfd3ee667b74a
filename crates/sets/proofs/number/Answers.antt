-- `sets::number` meets its contract: the parents' front, and its ranks.
use mathlib.Core.Path.{ap, ◌∙◌}
use lib.ListN.{length, take}
use Rattle.std.proofs.lemmas.List.{length-take-le}
use Rattle.laws.specs.Values.{list_to}
use Rattle.sets.specs.Sets.{rank_of}
use Rattle.sets.proofs.Ranking.{front_ranks}
use Rattle.sets.proofs.number.Goals as goal

pub returns : goal.returns
returns c =
    let room = c.args.room.now in
    let n = length c.args.numbers.now in
    let l = c.requires.numbers_in_bounds in
    c.rank.ensures ∙ ap (λ r. list_to (length r) (rank_of r)) c.copy.ensures
    ∙ ap (λ k. list_to k (rank_of (take n room))) (length-take-le n room l) ∙ front_ranks room c.requires.falling n l
