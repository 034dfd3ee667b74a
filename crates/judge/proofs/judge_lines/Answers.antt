-- `judge::judge_lines` meets its contract: the lines, and then the mesh that they say.
use mathlib.Core.Path.{ap, ◌∙◌}
use Prim.Native.Nat.{ℕ}
use lib.ListN.{replicate}
use Rattle.judge.specs.Judged.{refused_early}
use Rattle.judge.proofs.Steps.{lines_refuse, standing, lines_go_on}
use Rattle.judge.proofs.judge_lines.Goals as goal

pub judge_mesh-requires : goal.judge_mesh-requires
judge_mesh-requires c =
    let a = c.args in
    let q = c.requires in
    standing a.parts.points a.parts.triangles a.shells a.input.now a.from a.work.now q.0 q.1 q.2 q.3 c.in-Ok.next c.take_lines.new.work c.take_lines.auto.work c.in-Ok.ensures

pub returns-in-Ok : goal.returns-in-Ok
returns-in-Ok c =
    let a = c.args in
    let q = c.requires in
    lines_go_on a.parts.points a.parts.triangles a.shells a.input.now a.from a.work.now q.0 q.1 q.2 q.3 c.in-Ok.next c.take_lines.new.work c.take_lines.auto.work c.in-Ok.ensures c.judge_mesh.result c.judge_mesh.new.work c.judge_mesh.ensures

pub returns-in-Err : goal.returns-in-Err
returns-in-Err c =
    refused_early _ c.refused_later.ensures.answer _ (lines_refuse _ _ _ c.in-Err.ensures) (c.refused_later.ensures.zero ∙ ap (λ n. replicate {A = ℕ} n 0) c.take_lines.auto.work)
