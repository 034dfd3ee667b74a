-- `layers::take_first` meets its contract.
use mathlib.Core.Path.{ap, ◌∙◌}
use native.Mathlib.Omega.{arith}
use borrow.Author.Tests.{lt-ltb, le-ltb}
use Rattle.grid.specs.Limits.{most_points, most_triangles}
use Rattle.layerstate.specs.Heads.{head_in}
use Rattle.layers.specs.Promise.{open_left}
use Rattle.layers.proofs.Ways.{first_points, first_triangles, first_kept}
use Rattle.layers.proofs.take_first.Goals as goal

pub returns-then-head-gt-MOST_POINTS : goal.returns-then-head-gt-MOST_POINTS
returns-then-head-gt-MOST_POINTS c =
    first_points c.args.layer.now c.args.state.now (lt-ltb most_points (head_in c.args.state.now).points (omega (arith, c.if-head-gt-MOST_POINTS.true, ap (λ h. h.points) c.requires.head_value)))

pub returns-then-head-gt-MOST_TRIANGLES : goal.returns-then-head-gt-MOST_TRIANGLES
returns-then-head-gt-MOST_TRIANGLES c =
    first_triangles c.args.layer.now c.args.state.now (le-ltb most_points (head_in c.args.state.now).points (omega (arith, c.if-head-gt-MOST_POINTS.false, ap (λ h. h.points) c.requires.head_value)))
    (lt-ltb most_triangles (head_in c.args.state.now).triangles (omega (arith, c.if-head-gt-MOST_TRIANGLES.true, ap (λ h. h.triangles) c.requires.head_value)))

pub returns : goal.returns
returns c =
    let room = c.args.state.now in
    ap (open_left 0) c.write_layered.ensures
    ∙ first_kept c.args.layer.now room (le-ltb most_points (head_in room).points (omega (arith, c.if-head-gt-MOST_POINTS.false, ap (λ h. h.points) c.requires.head_value)))
    (le-ltb most_triangles (head_in room).triangles (omega (arith, c.if-head-gt-MOST_TRIANGLES.false, ap (λ h. h.triangles) c.requires.head_value)))
