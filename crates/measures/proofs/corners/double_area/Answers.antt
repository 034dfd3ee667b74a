-- `measures::corners::double_area` meets its contract.
use mathlib.Core.Path.{◌≡◌}
use Prim.Native.Nat.{ℕ, ◌*◌, ◌%◌, ◌^◌, ◌<◌}
use native.Mathlib.Nat.{one-mul, mod-eq_of_lt}
use native.Mathlib.Omega.{arith}
use lib.Pow.{pow-lt}
use Rattle.grid.specs.Limits.{root_digits}
use Rattle.root.proofs.Window.{scale_most}
use Rattle.root.proofs.OneRoot.{is_root_of, root_most}
use Rattle.measures.specs.Corners.{double_area}
use Rattle.measures.proofs.corners.double_area.Goals as goal

shifted_one : (s : ℕ) → s < root_digits → (1 * 2 ^ s) % 2 ^ 64 ≡ 2 ^ s
shifted_one s h = rw (one-mul) (mod-eq_of_lt (omega (arith, pow-lt h)))

pub float_of_count-requires : goal.float_of_count-requires
float_of_count-requires c = omega (arith, root_most _ _ _ c.root-found.ensures)

pub overflow_shl-scale : goal.overflow_shl-scale
overflow_shl-scale c = omega (arith, scale_most _ _ c.requires.0 c.root-found.ensures.window)

pub float_of_count-requires-2 : goal.float_of_count-requires-2
float_of_count-requires-2 c =
    let h = scale_most _ _ c.requires.0 c.root-found.ensures.window in
    rw (shifted_one c.root-found.result.scale h) (omega (arith, pow-lt h))

pub returns : goal.returns
unfolding double_area
returns c =
    let found = c.root-found in
    let h = scale_most _ _ c.requires.0 found.ensures.window in
    let e = is_root_of c.args.n found.result.scale found.result.root c.requires.0 c.requires.1 found.ensures in
    rw (c.float_of_count.ensures, c.float_of_count-2.ensures, shifted_one found.result.scale h, e.0, e.1)
