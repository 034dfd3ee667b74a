-- `steps::step_at` meets its contract.
use mathlib.Core.Path.{ap, ap₂, ◌∙◌}
use native.Mathlib.Omega.{arith}
use Prim.Native.Nat.{◌+◌}
use lib.ListN.{get_or}
use Rattle.summary.specs.Steps.{finds, step_at}
use Rattle.steps.proofs.Blocks.{block_small}
use Rattle.steps.proofs.step_at.Goals as goal

pub overflow_add-place-3 : goal.overflow_add-place-3
overflow_add-place-3 c = let s = block_small c.args.block c.requires.block_fits in omega (arith, s.fits, s.layers, s.rows, c.requires.block_fits.in_y, s.side)

pub offset_bounds-summary-place : goal.offset_bounds-summary-place
offset_bounds-summary-place c = let s = block_small c.args.block c.requires.block_fits in omega (arith, s.fits, s.layers, s.rows, c.requires.block_fits.in_y, s.side)

pub bounds-summary-place : goal.bounds-summary-place
bounds-summary-place c = omega (arith, (block_small c.args.block c.requires.block_fits).there, c.requires.summary_len)

pub overflow_add-place-4 : goal.overflow_add-place-4
overflow_add-place-4 c = let s = block_small c.args.block c.requires.block_fits in omega (arith, s.fits, s.layers, s.rows, c.requires.block_fits.in_y, s.side)

pub offset_bounds-summary-place-2 : goal.offset_bounds-summary-place-2
offset_bounds-summary-place-2 c = let s = block_small c.args.block c.requires.block_fits in omega (arith, s.fits, s.layers, s.rows, c.requires.block_fits.in_y, s.side)

pub bounds-summary-place-2 : goal.bounds-summary-place-2
bounds-summary-place-2 c = omega (arith, (block_small c.args.block c.requires.block_fits).there, c.requires.summary_len)

pub returns : goal.returns
unfolding step_at
returns c =
    let list = c.args.summary.now in
    let place = (block_small c.args.block c.requires.block_fits).place in (
      c.step.ensures.0,
      c.step.ensures.1 ∙ ap₂ (finds c.args.grey) (ap (λ p. get_or list p 0) place) (ap (λ p. get_or list (p + 1) 0) place),
    )
