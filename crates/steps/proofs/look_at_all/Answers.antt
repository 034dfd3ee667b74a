-- `steps::look_at_all` meets its contract.
use mathlib.Core.Path.{◌≡◌, refl, sym, ◌∙◌}
use mathlib.Core.Bool.{Bool, true, false, not}
use Prim.Native.Nat.{ℕ, ◌+◌, ◌-◌}
use native.Mathlib.Omega.{arith}
use borrow.Author.Tests.{not-true, not-false}
use Rattle.laws.specs.Range.{sum_to}
use Rattle.grid.specs.Limits.{halvings}
use Rattle.summary.specs.Blocks.{half, level_start}
use Rattle.summary.specs.Steps.{step_at, looked}
use Rattle.summary.proofs.Looked.{looked_most}
use Rattle.steps.specs.Looks.{BlockFits}
use Rattle.steps.proofs.Looks.{looked_closed, found_closed, looked_open, found_open}
use Rattle.steps.proofs.look_at_all.Goals as goal

whole : BlockFits (record { halvings = halvings; start = 0; side = 1; x = 0; y = 0; z = 0 })
unfolding level_start
whole = record { in_levels = omega arith; start = refl; side = refl; in_x = omega arith; in_y = omega arith; in_z = omega arith }

pub step_at-step-requires : goal.step_at-step-requires
step_at-step-requires c = record { block_fits = whole; summary_len = c.requires.summary_len; count_bound = omega arith }

pub returns-then-not-step : goal.returns-then-not-step
returns-then-not-step c =
    let says = step_at c.args.summary.now c.args.grey in
    let stepped = c.step_at-step in
    let closed : says halvings 0 0 0 ≡ false = sym stepped.ensures.1 ∙ not-true stepped.result.found c.if-not-step.true in
    let one = looked_closed says 0 0 0 halvings (omega arith) closed in record { count = omega (arith, stepped.ensures.0, one); words = found_closed says 0 0 0 halvings (omega arith) closed c.args.found.now }

-- past the test the block is opened, and its halves are looked at
opened : (found says : Bool) → found ≡ says → not found ≡ false → says ≡ true
opened found says e goes_on = sym e ∙ not-false found goes_on

more : (says : ℕ → ℕ → ℕ → ℕ → Bool) → says halvings 0 0 0 ≡ true → looked says halvings 0 0 0 ≡ 1 + sum_to 8 (half (looked says (halvings - 1)) 0 0 0)
more says = looked_open says 0 0 0 halvings (omega arith)

pub look_at_halves-requires : goal.look_at_halves-requires
look_at_halves-requires c =
    let says = step_at c.args.summary.now c.args.grey in
    let goes_on = opened c.step_at-step.result.found (says halvings 0 0 0) c.step_at-step.ensures.1 c.if-not-step.false in record { block_fits = (whole, omega arith); summary_len = c.requires.summary_len; found_len = c.requires.found_len; block_bound = omega (arith, c.step_at-step.ensures.0, more says goes_on, looked_most says halvings 0 0 0) }

pub returns : goal.returns
returns c =
    let says = step_at c.args.summary.now c.args.grey in
    let goes_on = opened c.step_at-step.result.found (says halvings 0 0 0) c.step_at-step.ensures.1 c.if-not-step.false in
    let looks = c.look_at_halves in record { count = omega (arith, looks.ensures.count, c.step_at-step.ensures.0, more says goes_on); words = found_open says 0 0 0 halvings (omega arith) goes_on c.args.found.now looks.new.found looks.ensures.words }
