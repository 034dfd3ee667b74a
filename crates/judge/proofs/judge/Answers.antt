-- `judge::judge` meets its contract: line 1, the rooms, and then the other lines.
use mathlib.Core.Path.{refl, sym, subst}
use mathlib.Core.Bool.{false}
use native.Mathlib.Nat.{le_trans, min-le_left}
use native.Mathlib.Omega.{arith}
use lib.ListN.{length}
use Rattle.std.proofs.lemmas.Result.{err_from_is_err_and}
use Rattle.grid.specs.Limits.{most_points, most_triangles}
use Rattle.meshread.proofs.Lines.{counts_exact}
use Rattle.meshform.specs.Form.{counts_for}
use Rattle.judge.specs.Judged.{JudgesSaid, lengths_for, refused_early}
use Rattle.judge.proofs.Steps.{no_counts, no_room, has_room, rooms_hold}
use Rattle.judge.proofs.judge.Goals as goal

pub returns-in_default : goal.returns-in_default
returns-in_default c =
    let a = c.args in
    refused_early _ refl false (no_counts a.input.now (lengths_for a.points a.edges a.marks a.triangles a.records (length a.work.now)) c.in_default.ensures.line) refl

pub returns-in_err-check_rooms : goal.returns-in_err-check_rooms
returns-in_err-check_rooms c =
    let a = c.args in
    let n = c.in-Some.counts in
    let e = c.in_err-check_rooms in
    let p = err_from_is_err_and c.from_residual.result c.from_residual.ensures.1 in
    rw (p.1, p.2)
    (refused_early e.field-0.0 refl false (no_room a.input.now (lengths_for a.points a.edges a.marks a.triangles a.records (length a.work.now)) (counts_for n.points n.triangles n.shells) _ c.in-Some.ensures.line e.field-0.0 e.ensures) refl)

pub judge_lines-requires : goal.judge_lines-requires
judge_lines-requires c =
    let a = c.args in
    let n = c.in-Some.counts in
    let h = rooms_hold (counts_for n.points n.triangles n.shells) (lengths_for a.points a.edges a.marks a.triangles a.records (length a.work.now)) (sym c.in_ok-check_rooms.ensures) in
    let w = counts_exact.fits (counts_for n.points n.triangles n.shells) a.input.now _ c.in-Some.ensures.line in
    (le_trans h.points (min-le_left most_points _), le_trans h.triangles (min-le_left most_triangles _), omega (arith, w.1.1.1.0), h.work)

pub returns : goal.returns
returns c =
    let a = c.args in
    let n = c.in-Some.counts in
    subst (λ x. JudgesSaid x a.input.now a.work.now c.judge_lines.result c.judge_lines.new.work)
    (sym (has_room a.input.now (lengths_for a.points a.edges a.marks a.triangles a.records (length a.work.now)) (counts_for n.points n.triangles n.shells) _ c.in-Some.ensures.line c.in_ok-check_rooms.ensures))
    c.judge_lines.ensures
