-- `rounds::place` meets its contract: the point stays where it was, or moves.
use mathlib.Core.Path.{ap, sym, ◌∙◌}
use Prim.Native.Nat.{◌+◌, ◌*◌}
use lib.ListN.{get_or}
use lib.Seq.{sets}
use Rattle.rounds.specs.Round.{moved}
use Rattle.rounds.specs.Steps.{held_start, held_count}
use Rattle.rounds.proofs.Summing.{held_most}
use Rattle.rounds.proofs.Placed.{stays_point, moves_point}
use Rattle.rounds.proofs.place.Goals as goal

pub returns-then-stays : goal.returns-then-stays
returns-then-stays c =
    let a = c.args in
    let w = c.write_three in
    w.ensures ∙ ap (sets a.work.now a.to) (stays_point a.at a.work.now a.mark a.weight a.old.now a.p (sym c.if-stays.true ∙ c.stays.ensures))

pub moved-x-requires-clause-sum_bound : goal.moved-x-requires-clause-sum_bound
moved-x-requires-clause-sum_bound c =
    let a = c.args in
    rw c.sum_up-sums.ensures.x (held_most a.old.now a.work.now (held_start a.at a.work.now a.p) c.requires.small_places (held_count a.at a.work.now a.p) 0)

pub moved-y-requires-clause-sum_bound : goal.moved-y-requires-clause-sum_bound
moved-y-requires-clause-sum_bound c =
    let a = c.args in
    rw c.sum_up-sums.ensures.y (held_most a.old.now a.work.now (held_start a.at a.work.now a.p) c.requires.small_places (held_count a.at a.work.now a.p) 1)

pub moved-z-requires-clause-sum_bound : goal.moved-z-requires-clause-sum_bound
moved-z-requires-clause-sum_bound c =
    let a = c.args in
    rw c.sum_up-sums.ensures.z (held_most a.old.now a.work.now (held_start a.at a.work.now a.p) c.requires.small_places (held_count a.at a.work.now a.p) 2)

pub returns : goal.returns
returns c =
    let a = c.args in
    let w = c.write_three-2 in
    let u = c.sum_up-sums in
    let x = c.moved-x in
    let y = c.moved-y in
    let z = c.moved-z in
    w.ensures
    ∙ ap (sets a.work.now a.to)
    (moves_point a.at a.work.now a.mark a.weight a.old.now a.p (sym c.if-stays.false ∙ c.stays.ensures) x.result y.result z.result
    (x.ensures.0 ∙ ap (moved a.weight (held_count a.at a.work.now a.p) (get_or a.old.now (3 * a.p) 0)) u.ensures.x)
    (y.ensures.0 ∙ ap (moved a.weight (held_count a.at a.work.now a.p) (get_or a.old.now (3 * a.p + 1) 0)) u.ensures.y)
    (z.ensures.0 ∙ ap (moved a.weight (held_count a.at a.work.now a.p) (get_or a.old.now (3 * a.p + 2) 0)) u.ensures.z))
