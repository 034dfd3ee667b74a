-- The halves of a block, one after the other.
use mathlib.Core.Path.{◌≡◌, ap, sym, subst, ◌∙◌}
use mathlib.Core.Bool.{Bool, true, false, ◌||◌}
use mathlib.Core.List.{List}
use Prim.Native.Nat.{ℕ, ◌+◌, ◌-◌, ◌^◌, ◌<◌, ◌≤◌}
use native.Mathlib.Omega.{arith}
use lib.ListN.{length}
use Rattle.laws.specs.Range.{sum_to}
use Rattle.laws.proofs.Ranges.{sum_next, sum_rises}
use Rattle.summary.specs.Blocks.{half}
use Rattle.summary.specs.Steps.{step_at, looked}
use Rattle.steps.specs.declared.Block.{Block}
use Rattle.steps.specs.Looks.{looked_in, found_words, found_from, found_in, Marks, half_block}
use Rattle.steps.proofs.Marks.{marks_more, marks_same, in_none, in_next}
use Rattle.steps.proofs.Looks.{looked_some, looked_closed, found_closed, looked_open, found_open, eight_cubes}
use Rattle.steps.proofs.+look_at_halves.Goals as goal
use Rattle.steps.proofs.+look_at_halves.Goals.{then-step+then-part-eq1, then-step+else-part-eq1, else-step}

-- what is looked at from a half on, and that the count has room for it
half_fits_count : (step : ℕ → ℕ → ℕ → ℕ → Bool) (b : Block) (r : Block) (count run h : ℕ) → r ≡ half_block b h
    → run ≡ count + sum_to h (half (looked step (b.halvings - 1)) b.x b.y b.z) → h < 8 → count + looked_in step b < 2 ^ 32
    → run + looked step r.halvings r.x r.y r.z < 2 ^ 32
half_fits_count step b r count run h is so_far few room =
    let g = half (looked step (b.halvings - 1)) b.x b.y b.z in
    let same : looked step r.halvings r.x r.y r.z ≡ g h = λ i. looked step (is i).halvings (is i).x (is i).y (is i).z in
    omega (arith, so_far, same, sum_next h g, sum_rises (h + 1) 8 g (omega arith), room)

-- a half that is found: what is looked at from its own halves on, and one
found_half : (step : ℕ → ℕ → ℕ → ℕ → Bool) (b r : Block) (h : ℕ) → r ≡ half_block b h → 1 < b.halvings → step r.halvings r.x r.y r.z ≡ true
    → (0 < r.halvings) × (looked step r.halvings r.x r.y r.z ≡ 1 + looked_in step r)
found_half step b r h is some opened =
    let left : 0 < r.halvings = omega (arith, ap (λ k. k.halvings) is, some) in
    (left, looked_open step r.x r.y r.z r.halvings left opened)

-- if its halves are single cubes, eight
eight : (step : ℕ → ℕ → ℕ → ℕ → Bool) (r : Block) → r.halvings ≡ 1 → looked_in step r ≡ 8
eight step r one =
    let last : r.halvings - 1 ≡ 0 = omega arith in
    ap (λ j. sum_to 8 (half (looked step j) r.x r.y r.z)) last ∙ eight_cubes step r.x r.y r.z

-- after the half, whichever way: the count is raised by what was looked at, and the cubes found are marked
record Done (step : ℕ → ℕ → ℕ → ℕ → Bool) (r : Block) (run run' : ℕ) (words words' : List ℕ) : Type 0 where
  counted : run' ≡ run + looked step r.halvings r.x r.y r.z
  long : length words' ≡ length words
  marked : Marks words words' (found_from step r.halvings r.x r.y r.z)

-- and so the next half may be
next_half : (step : ℕ → ℕ → ℕ → ℕ → Bool) (b r : Block) (count run run' h : ℕ) (old words words' : List ℕ) → r ≡ half_block b h → h < 8
    → run ≡ count + sum_to h (half (looked step (b.halvings - 1)) b.x b.y b.z) → length words ≡ found_words
    → Marks old words (found_in step (b.halvings - 1) b.x b.y b.z h) → Done step r run run' words words'
    → (h + 1 ≤ 8) × (run' ≡ count + sum_to (h + 1) (half (looked step (b.halvings - 1)) b.x b.y b.z)) × (length words' ≡ found_words)
    × Marks old words' (found_in step (b.halvings - 1) b.x b.y b.z (h + 1))
next_half step b r count run run' h old words words' is few so_far long marked d =
    let j = b.halvings - 1 in
    let g = half (looked step j) b.x b.y b.z in
    let same : looked step r.halvings r.x r.y r.z ≡ g h = λ i. looked step (is i).halvings (is i).x (is i).y (is i).z in
    let half_found : ℕ → ℕ → ℕ → Bool = λ e f i. half (λ p q o. found_from step j p q o e f i) b.x b.y b.z h in
    let before : ℕ → ℕ → ℕ → Bool = found_in step j b.x b.y b.z h in
    let here : (e f i : ℕ) → found_from step r.halvings r.x r.y r.z e f i ≡ half_found e f i
    = λ e f i o. found_from step (is o).halvings (is o).x (is o).y (is o).z e f i in (
      omega arith,
      omega (arith, d.counted, so_far, same, sum_next h g),
      d.long ∙ long,
      marks_same old words' (λ e f i. half_found e f i || before e f i) (found_in step j b.x b.y b.z (h + 1))
          (λ e f i. in_next step j b.x b.y b.z h e f i)
          (marks_more old words words' before half_found marked
          (marks_same words words' (found_from step r.halvings r.x r.y r.z) half_found here d.marked)),
    )

pub loop-h-init : goal.loop-h-init
unfolding sum_to
loop-h-init t c =
    let k = c.args.block in
    (omega arith, omega arith, c.requires.found_len, in_none (step_at c.args.summary.now c.args.grey) (k.halvings - 1) k.x k.y k.z c.args.found.now)

pub step_at-step-requires-clause-count_bound : goal.step_at-step-requires-clause-count_bound
step_at-step-requires-clause-count_bound t c =
    let step = step_at c.args.summary.now c.args.grey in
    let r = c.half-part.result in
    omega (
      arith,
      half_fits_count step c.args.block r c.args.count c.loop-h.run c.loop-h.h c.half-part.ensures.0 c.loop-h.invariant.1 c.loop-h-test.true c.requires.block_bound,
      looked_some step r.x r.y r.z r.halvings,
    )

pub look_at_cubes-run-requires-clause-count_bound : goal.look_at_cubes-run-requires-clause-count_bound
look_at_cubes-run-requires-clause-count_bound t c =
    let step = step_at c.args.summary.now c.args.grey in
    let r = c.half-part.result in
    omega (
      arith,
      c.step_at-step.ensures.0,
      half_fits_count step c.args.block r c.args.count c.loop-h.run c.loop-h.h c.half-part.ensures.0 c.loop-h.invariant.1 c.loop-h-test.true c.requires.block_bound,
      (found_half step c.args.block r c.loop-h.h c.half-part.ensures.0 c.requires.block_fits.1 (sym c.step_at-step.ensures.1 ∙ c.if-step.true)).1,
      eight step r c.if-part-eq1.true,
    )

pub look_at_halves-run-requires : goal.look_at_halves-run-requires
look_at_halves-run-requires t c =
    let step = step_at c.args.summary.now c.args.grey in
    let r = c.half-part.result in
    let f = found_half step c.args.block r c.loop-h.h c.half-part.ensures.0 c.requires.block_fits.1 (sym c.step_at-step.ensures.1 ∙ c.if-step.true) in (
      omega (arith, ap (λ k. k.halvings) c.half-part.ensures.0, c.decreases, c.requires.block_fits.1),
      (
        (c.half-part.ensures.1, omega (arith, f.0, c.if-part-eq1.false)),
        (
          c.requires.summary_len,
          (
            c.loop-h.invariant.2,
            omega (
              arith,
              c.step_at-step.ensures.0,
              half_fits_count step c.args.block r c.args.count c.loop-h.run c.loop-h.h c.half-part.ensures.0 c.loop-h.invariant.1 c.loop-h-test.true c.requires.block_bound,
              f.1,
            ),
          ),
        ),
      ),
    )

pub loop-h-preserved : goal.loop-h-preserved
loop-h-preserved t c =
    let l = c.loop-h in
    let b = c.args.block in
    let step = step_at c.args.summary.now c.args.grey in
    let r = c.half-part.result in
    let stepped = c.step_at-step.ensures in
    let is = c.half-part.ensures.0 in
    let done : Done step r l.run c.if-step.run l.found c.if-step.found =
    elim c.if-step.branch [
      | then-step+then-part-eq1 w ↦
          let opened = sym stepped.1 ∙ w.if-step.true in
          let f = found_half step b r l.h is c.requires.block_fits.1 opened in
          let last : 0 ≡ r.halvings - 1 = omega (arith, w.if-part-eq1.true) in
          let words = w.look_at_cubes-run.new.found in
          let found = found_open step r.x r.y r.z r.halvings f.0 opened l.found words
          (subst (λ j. Marks l.found words (found_in step j r.x r.y r.z 8)) last w.look_at_cubes-run.ensures.words) in
          record {
            counted = omega (arith, w.run-is, w.look_at_cubes-run.ensures.count, stepped.0, f.1, eight step r w.if-part-eq1.true);
            long = ap length w.found-is ∙ w.look_at_cubes-run.auto.found;
            marked = subst (λ words. Marks l.found words (found_from step r.halvings r.x r.y r.z)) (sym w.found-is) found;
          }
      | then-step+else-part-eq1 w ↦
          let opened = sym stepped.1 ∙ w.if-step.true in
          let f = found_half step b r l.h is c.requires.block_fits.1 opened in
          let words = w.look_at_halves-run.new.found in
          let found = found_open step r.x r.y r.z r.halvings f.0 opened l.found words w.look_at_halves-run.ensures.words in
          record {
            counted = omega (arith, w.run-is, w.look_at_halves-run.ensures.count, stepped.0, f.1);
            long = ap length w.found-is ∙ w.look_at_halves-run.auto.found;
            marked = subst (λ words. Marks l.found words (found_from step r.halvings r.x r.y r.z)) (sym w.found-is) found;
          }
      | else-step w ↦
          let closed : step r.halvings r.x r.y r.z ≡ false = sym stepped.1 ∙ w.if-step.false in
          let some : 0 < r.halvings = omega (arith, ap (λ k. k.halvings) is, c.requires.block_fits.1) in
          record {
            counted = omega (arith, w.run-is, stepped.0, looked_closed step r.x r.y r.z r.halvings some closed);
            long = ap length w.found-is;
            marked =
                subst (λ words. Marks l.found words (found_from step r.halvings r.x r.y r.z)) (sym w.found-is)
                (found_closed step r.x r.y r.z r.halvings some closed l.found);
          }
    ] in
    next_half step b r c.args.count l.run c.if-step.run l.h c.args.found.now l.found c.if-step.found is c.loop-h-test.true l.invariant.1 l.invariant.2 l.invariant.3 done
