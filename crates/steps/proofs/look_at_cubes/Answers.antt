-- `steps::look_at_cubes` meets its contract. The loop's invariant: the cubes before `which` are looked at, and the bits of those that were found are set.
use mathlib.Core.Path.{◌≡◌, refl, ap, ◌∙◌}
use mathlib.Core.Bool.{Bool, ◌||◌}
use Prim.Native.Nat.{ℕ, ◌+◌, ◌*◌, ◌%◌, ◌^◌, ◌<◌}
use native.Mathlib.Omega.{arith}
use lib.Bits.{bit_or}
use lib.ListN.{get_or, set, length-set}
use mir.Val.{bool_byte}
use Rattle.grid.specs.Limits.{most_side}
use Rattle.summary.specs.Blocks.{half}
use Rattle.summary.specs.Steps.{step_at}
use Rattle.steps.specs.declared.Block.{Block}
use Rattle.steps.specs.Looks.{BlockFits, found_from, found_in, Marks}
use Rattle.steps.proofs.Blocks.{block_small}
use Rattle.steps.proofs.Marks.{marks_more, marks_same, mark_cube, in_none, in_next}
use Rattle.steps.proofs.look_at_cubes.Goals as goal

pub loop-which-init : goal.loop-which-init
loop-which-init c = (omega arith, omega arith, c.requires.found_len, in_none _ 0 _ _ _ c.args.found.now)

-- the cube stands within the whole block
record Inside (x y z : ℕ) : Type 0 where
  in_x : x < most_side
  in_y : y < most_side
  in_z : z < most_side

inside : (cube : Block) → BlockFits cube → Inside cube.x cube.y cube.z
inside cube fits =
    let side = (block_small cube fits).side in
    record { in_x = omega (arith, fits.in_x, side); in_y = omega (arith, fits.in_y, side); in_z = omega (arith, fits.in_z, side) }

pub loop-which-preserved : goal.loop-which-preserved
loop-which-preserved c =
    let l = c.loop-which in
    let a = c.args in
    let stepped = c.step_at-step.ensures in
    let cube = c.half-cube.result in
    let is = c.half-cube.ensures.0 in
    let i = inside cube c.half-cube.ensures.1 in
    let step = step_at a.summary.now a.grey in
    let left : cube.halvings ≡ 0 = omega (arith, ap (λ k. k.halvings) is, c.requires.block_fits.1) in
    let found = stepped.1 ∙ ap (λ j. step j cube.x cube.y cube.z) left in
    let row = cube.y + most_side * cube.z in
    let next = set l.found row (bit_or (get_or l.found row 0) (bool_byte c.step_at-step.result.found * 2 ^ cube.x % 2 ^ 64)) in
    let marked : Marks l.found next (found_from step 0 cube.x cube.y cube.z)
    = mark_cube step l.found cube.x cube.y cube.z row c.step_at-step.result.found l.invariant.2 i.in_x i.in_y i.in_z refl found in
    let halfFound : ℕ → ℕ → ℕ → Bool = λ e f g. half (λ p q r. found_from step 0 p q r e f g) a.block.x a.block.y a.block.z l.which in
    let before : ℕ → ℕ → ℕ → Bool = found_in step 0 a.block.x a.block.y a.block.z l.which in
    let here : (e f g : ℕ) → found_from step 0 cube.x cube.y cube.z e f g ≡ halfFound e f g = λ e f g i. found_from step 0 (is i).x (is i).y (is i).z e f g in (
      omega (arith, c.loop-which-test.true),
      omega (arith, stepped.0, l.invariant.1),
      length-set l.found row _ ∙ l.invariant.2,
      marks_same a.found.now next (λ e f g. halfFound e f g || before e f g) (found_in step 0 a.block.x a.block.y a.block.z (l.which + 1))
          (λ e f g. in_next step 0 a.block.x a.block.y a.block.z l.which e f g)
          (marks_more a.found.now l.found next before halfFound l.invariant.3
          (marks_same l.found next (found_from step 0 cube.x cube.y cube.z) halfFound here marked)),
    )
