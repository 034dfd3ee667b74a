-- `smooth::granted` meets its contract: the places after the rounds that were passed.
use mathlib.Core.Path.{◌≡◌, ◌∙◌}
use Prim.Native.Nat.{◌+◌, ◌*◌}
use native.Mathlib.Omega.{arith}
use lib.ListN.{length}
use Rattle.mesh.specs.Mesh.{triangle_count}
use Rattle.mesh.proofs.Passed.{Passed, passed}
use Rattle.smooth.proofs.Ready.{lists_ready, copied_all, round_ready, round_more, lists_stay}
use Rattle.smooth.proofs.granted.Goals as goal
use Rattle.smooth.proofs.granted.Goals.{At-loop, Start}

-- the mesh passed its checks
mesh : (c : Start) → Passed c.args.mesh.points.now c.args.mesh.triangles.now c.args.mesh.marks.now
mesh c = passed c.args.mesh.points.now c.args.mesh.triangles.now c.args.mesh.marks.now c.requires.marks_value

-- the room is as long as it was lent
long : (c : At-loop) → length c.loop.work ≡ 6 * triangle_count c.args.mesh.triangles.now + 5 * length c.args.mesh.marks.now + 1
long c = c.loop.auto.work ∙ c.list.auto.work ∙ c.requires.work_len

pub copy-requires : goal.copy-requires
copy-requires c = omega (arith, (mesh (goal.at.copy-requires c).Start).threes, c.requires.smoothed_len)

pub list-requires : goal.list-requires
list-requires c = lists_ready c.args.mesh.points.now c.args.mesh.triangles.now c.args.mesh.marks.now (mesh (goal.at.list-requires c).Start) (length c.args.work.now) c.requires.work_len

pub loop-init : goal.loop-init
loop-init c =
    let a = c.args in record {
      moved = c.copy.ensures ∙ copied_all a.mesh.points.now a.mesh.triangles.now a.mesh.marks.now (mesh (goal.at.loop-init c).Start) a.weight a.smoothed.now c.requires.smoothed_len;
      listed = c.list.ensures;
    }

pub round-requires : goal.round-requires
round-requires c =
    let a = c.args in
    let l = c.loop in
    let ready = round_ready a.mesh.points.now a.mesh.triangles.now a.mesh.marks.now (mesh (goal.at.round-requires c).Start) a.weight l.counter c.requires.rounds_le_most_rounds.1 l.smoothed l.work l.invariant.moved (long (goal.at.round-requires c).At-loop) l.invariant.listed in
    record { weight_le_most_weight = ready.0; held = ready.1.0; smoothed_len = ready.1.1.0; small_places = ready.1.1.1.0; marks_bound = ready.1.1.1.1 }

pub loop-preserved : goal.loop-preserved
loop-preserved c =
    let a = c.args in
    let l = c.loop in
    let r = c.round in record {
      moved = round_more a.mesh.points.now a.mesh.triangles.now a.mesh.marks.now (mesh (goal.at.loop-preserved c).Start) a.weight l.counter c.requires.rounds_le_most_rounds.1 l.smoothed l.work l.invariant.moved (long (goal.at.loop-preserved c).At-loop) l.invariant.listed r.new.smoothed r.ensures.moved;
      listed = lists_stay a.mesh.points.now a.mesh.triangles.now a.mesh.marks.now (mesh (goal.at.loop-preserved c).Start) a.weight l.counter c.requires.rounds_le_most_rounds.1 l.smoothed l.work l.invariant.moved (long (goal.at.loop-preserved c).At-loop) l.invariant.listed r.new.work r.ensures.kept;
    }
