-- The point of a crossed edge, written.
use mathlib.Core.Path.{◌≡◌}
use mathlib.Core.List.{List, [], ◌∷◌}
use Prim.Native.Nat.{ℕ, ◌+◌, ◌*◌, ◌^◌, ◌<◌, ◌≤◌}
use native.Mathlib.Nat.{div-le_self}
use native.Mathlib.Omega.{arith}
use lib.ListN.{get_or}
use Rattle.laws.specs.Nearest.{nearest}
use Rattle.grid.specs.Limits.{unit}
use Rattle.grid.specs.Grid.{other_end}
use Rattle.grid.specs.Point.{apart, offset, number}
use Rattle.rows.specs.declared.Sides.{Sides}
use Rattle.rows.specs.Rows.{size_of, grid_samples, layer_first}
use Rattle.rows.proofs.Window.{sample_lent}
use Rattle.edgepoints.specs.declared.Point.{Point}
use Rattle.edgepoints.specs.EdgePoint.{most_offset, PointRooms, placed_from, step_of, point_by, point_from}

-- the offset of samples of sixteen bits is far below what a coordinate's type holds
pub offset_fits : (v0 v1 grey : ℕ) → v0 < 2 ^ 16 → v1 < 2 ^ 16 → grey < 2 ^ 16 → offset v0 v1 grey ≤ most_offset
unfolding offset nearest
offset_fits v0 v1 grey a b c = omega (arith, div-le_self (2 * (unit * apart grey v0) + apart v1 v0) (2 * apart v1 v0))

-- the point that was written, made from the samples that were read, as the definition has it
pub point_written : (sides : Sides) (grey : ℕ) (samples : List ℕ) (s place axis step number far : ℕ) (p : Point) (before after : PointRooms)
    → s ≡ layer_first sides sides.below + place → step ≡ step_of (size_of sides) axis → far ≡ offset (get_or samples place 0) (get_or samples (place + step) 0) grey
    → p ≡ point_by (size_of sides) s axis far → after ≡ placed_from before number (p ∷ [])
    → after ≡ placed_from before number (point_from (size_of sides) grey (grid_samples sides samples) s axis ∷ [])
unfolding point_from other_end
point_written sides grey samples s place axis step number far p before after at is read made done =
    let here = sample_lent sides samples place in
    let other = sample_lent sides samples (place + step) in
    let on : layer_first sides sides.below + place + step ≡ layer_first sides sides.below + (place + step) = omega arith in
    rw (done, made, read, at, ← is, on, here, other)
