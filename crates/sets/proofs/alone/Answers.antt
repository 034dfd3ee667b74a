-- `sets::alone` meets its contract: the points so far, each at its own place, then the room as it was.
use mathlib.Core.Path.{◌≡◌, ap, sym, ◌∙◌}
use native.Mathlib.Omega.{arith}
use lib.ListN.{length, set}
use Rattle.laws.specs.Values.{list_to}
use Rattle.laws.proofs.Values.{laid_none, laid_more, laid_all}
use Rattle.sets.proofs.alone.Goals as goal

pub loop-p-init : goal.loop-p-init
loop-p-init c = sym (laid_none (λ q. q) _)

pub loop-p-preserved : goal.loop-p-preserved
loop-p-preserved c =
    let l = c.loop-p in
    ap (λ xs. set xs l.p l.p) l.invariant ∙ laid_more l.p (λ q. q) c.args.room.now (omega arith)

pub returns : goal.returns
returns c =
    let l = c.loop-p in
    let room = c.args.room.now in
    let end : l.p ≡ length room = omega arith in
    l.invariant ∙ laid_all l.p (λ q. q) room end ∙ ap (λ k. list_to k (λ q. q)) end
