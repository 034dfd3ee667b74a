-- A query by the summary of the samples leaves what the extractor leaves, and the blocks that it looks at are few.
use mathlib.Core.Path.{◌≡◌, refl}
use mathlib.Core.List.{List}
use mathlib.Core.Bool.{Bool, true, false, cond, not}
use mathlib.Core.Logic.{◌⊎◌, inl, inr, ⊎_elim}
use Prim.Native.Nat.{ℕ, ◌+◌, ◌*◌, ◌≤◌}
use native.Mathlib.Omega.{arith}
use lib.Dec.{eqb}
use lib.ListN.{length, get_or}
use borrow.Author.Tests.{eq-eqb}
use Rattle.grid.specs.Limits.{halvings, most_number}
use Rattle.grid.specs.Sides.{sides_fit}
use Rattle.grid.specs.Grid.{axes, sample_count, edge_count, is_above_grey}
use Rattle.grid.specs.Mode.{cubes}
use Rattle.grid.specs.Work.{size}
use Rattle.grid.proofs.Sides.{sides_within}
use Rattle.extract.specs.Extraction.{Rooms, refused, cleared, measured, extracted}
use Rattle.summary.specs.Blocks.{is_summary}
use Rattle.summary.specs.Steps.{step_at, looked, opened}
use Rattle.summary.specs.Crossed.{crossed_cubes}
use Rattle.summary.proofs.Looked.{looked_is}
use Rattle.summary.proofs.Found.{few_looks}
use Rattle.summary.proofs.Places.{the_summary}
use Rattle.query.specs.Query.{Queried, no_summary, query_refused, answered, queried}

module _ (nx ny nz grey : ℕ) (samples summary : List ℕ) (r : Rooms) where
  abbrev outcome : Queried
  outcome = queried nx ny nz grey samples summary r

  -- by the summary of the samples: number, both counts and every room are the extractor's, granted or refused
  pub query_is_extract : is_summary (size nx ny nz) samples summary ≡ true → outcome.mesh ≡ extracted cubes nx ny nz grey samples r
  unfolding queried extracted query_refused answered
  query_is_extract right =
      rw right
      (go (sides_fit nx ny nz) (eqb (length samples) (sample_count (size nx ny nz))) (eqb (length r.work) (edge_count axes (size nx ny nz))))
    where
      go : (a b c : Bool)
          → (cond (not a) (query_refused 1 r) (cond (not b) (query_refused 2 r) (cond (not c) (query_refused 3 r) (answered nx ny nz grey samples summary r)))).mesh
          ≡ cond (not a) (refused 1 r) (cond (not b) (refused 2 r) (cond (not c) (refused 3 r) (measured cubes (size nx ny nz) grey samples r)))
      go true true true = refl
      go true true false = refl
      go true false c = refl
      go false b c = refl

  -- by any other list: refused, with 1, 2, 3 or 19, so that 4 and 5 come only where the extractor refuses so
  pub query_is_refused : is_summary (size nx ny nz) samples summary ≡ false
      → (outcome.mesh.number ≡ 1) ⊎ ((outcome.mesh.number ≡ 2) ⊎ ((outcome.mesh.number ≡ 3) ⊎ (outcome.mesh.number ≡ no_summary)))
  unfolding queried query_refused refused
  query_is_refused wrong =
      rw wrong
      (go (sides_fit nx ny nz) (eqb (length samples) (sample_count (size nx ny nz))) (eqb (length r.work) (edge_count axes (size nx ny nz))))
    where
      go : (a b c : Bool)
          → let n = (cond (not a) (query_refused 1 r) (cond (not b) (query_refused 2 r) (cond (not c) (query_refused 3 r) (query_refused no_summary (cleared r))))).mesh.number in
          (n ≡ 1) ⊎ ((n ≡ 2) ⊎ ((n ≡ 3) ⊎ (n ≡ no_summary)))
      go true true true = inr (inr (inr refl))
      go true true false = inr (inr (inl refl))
      go true false c = inr (inl refl)
      go false b c = inl refl

  -- so a granted query was lent the summary, and leaves what a granted extraction leaves
  pub granted_is_extract : outcome.mesh.number ≡ 0 → outcome.mesh ≡ extracted cubes nx ny nz grey samples r
  granted_is_extract granted = go (is_summary (size nx ny nz) samples summary) refl
    where
      go : (t : Bool) → is_summary (size nx ny nz) samples summary ≡ t → outcome.mesh ≡ extracted cubes nx ny nz grey samples r
      go true right = query_is_extract right
      go false wrong =
          ⊎_elim (λ e. absurd (omega (arith, e, granted)))
          (⊎_elim (λ e. absurd (omega (arith, e, granted))) (⊎_elim (λ e. absurd (omega (arith, e, granted))) (λ e. absurd (omega (arith, e, granted)))))
          (query_is_refused wrong)

  -- a granted query looks at one block and eight for each that is opened
  pub blocks_opened : outcome.mesh.number ≡ 0 → outcome.block_count ≡ 1 + 8 * opened (step_at summary grey) halvings 0 0 0
  unfolding queried query_refused refused answered
  blocks_opened =
      go (sides_fit nx ny nz) (eqb (length samples) (sample_count (size nx ny nz))) (eqb (length r.work) (edge_count axes (size nx ny nz)))
      (is_summary (size nx ny nz) samples summary)
    where
      go : (a b c d : Bool)
          → let o = cond (not a) (query_refused 1 r)
          (cond (not b) (query_refused 2 r)
          (cond (not c) (query_refused 3 r) (cond (not d) (query_refused no_summary (cleared r)) (answered nx ny nz grey samples summary r)))) in
          o.mesh.number ≡ 0 → o.block_count ≡ 1 + 8 * opened (step_at summary grey) halvings 0 0 0
      go true true true true h = rw (eq-eqb (measured cubes (size nx ny nz) grey samples r).number 0 h) (looked_is (step_at summary grey) halvings 0 0 0)
      go true true true false h = absurd (omega (arith, h))
      go true true false d h = absurd (omega (arith, h))
      go true false c d h = absurd (omega (arith, h))
      go false b c d h = absurd (omega (arith, h))

  -- and with c crossed cubes at most at 1 + 48c
  pub few_blocks : ((s : ℕ) → get_or samples s 0 ≤ most_number) → outcome.block_count ≤ 1 + 8 * halvings * crossed_cubes (size nx ny nz) (is_above_grey grey samples)
  unfolding queried query_refused answered
  few_blocks sixteen-bits =
      go (sides_fit nx ny nz) refl (eqb (length samples) (sample_count (size nx ny nz))) (eqb (length r.work) (edge_count axes (size nx ny nz)))
      (is_summary (size nx ny nz) samples summary) refl
    where
      most : ℕ
      most = 1 + 8 * halvings * crossed_cubes (size nx ny nz) (is_above_grey grey samples)

      counted : (t : Bool) → looked (step_at summary grey) halvings 0 0 0 ≤ most → cond t (looked (step_at summary grey) halvings 0 0 0) 0 ≤ most
      counted true l = l
      counted false l = omega arith

      go : (a : Bool) → sides_fit nx ny nz ≡ a → (b c d : Bool) → is_summary (size nx ny nz) samples summary ≡ d
          → (cond (not a) (query_refused 1 r)
          (cond (not b) (query_refused 2 r)
          (cond (not c) (query_refused 3 r) (cond (not d) (query_refused no_summary (cleared r)) (answered nx ny nz grey samples summary r))))).block_count ≤ most
      go true fit true true true right =
          counted (eqb (measured cubes (size nx ny nz) grey samples r).number 0)
          (rw (the_summary (size nx ny nz) samples summary right) (few_looks nx ny nz grey samples (sides_within nx ny nz fit) sixteen-bits))
      go true fit true true false right = omega arith
      go true fit true false d right = omega arith
      go true fit false c d right = omega arith
      go false fit b c d right = omega arith
