-- `summarylist::cube_row` meets its contract: the row is filled from outside, and where it crosses the grid its cubes in the grid are written over.
use mathlib.Core.Path.{ap, sym, ◌∙◌}
use Prim.Native.Nat.{ℕ, ◌+◌, ◌<◌, min, max}
use native.Mathlib.Omega.{arith}
use lib.ListN.{get_or, get_or-replicate}
use Rattle.grid.specs.Limits.{most_number, most_side}
use Rattle.grid.specs.Work.{size}
use Rattle.summary.proofs.Numbers.{InGrid}
use Rattle.summarylist.proofs.Eight.{for_least, for_greatest}
use Rattle.summarylist.proofs.Cubes.{rows_end, cube_outside, cubes_row}
use Rattle.summarylist.proofs.cube_row.Goals as goal
use Rattle.summarylist.proofs.cube_row.Goals.{Then-z-nz, else-y-ny-via-then-y-ny+else-z-nz, else-y-ny-via-else-y-ny}

-- where the row crosses the grid
inside : (c : Then-z-nz) → let a = c.args in (a.y + 1 < a.ny) × (a.z + 1 < a.nz)
inside c = (c.if-y-ny.true, c.if-z-nz.true)

pub columns-requires : goal.columns-requires
columns-requires c =
    let a = c.args in record { many_bound = omega (arith, c.requires.sides_fit.most_x); many_in_bounds = omega (arith, rows_end a.nx a.ny a.nz a.y a.z (inside (goal.at.columns-requires c).Then-z-nz).0 (inside (goal.at.columns-requires c).Then-z-nz).1, c.requires.samples_len) }

pub returns-then-z-nz : goal.returns-then-z-nz
returns-then-z-nz c =
    let filled = c.outside.ensures in
    let a = c.args in
    let n = size a.nx a.ny a.nz in
    record {
      leasts = λ x l. cubes_row min for_least most_number n a.samples.now a.low.now x a.y a.z l (inside (goal.at.returns-then-z-nz c).Then-z-nz).0 (inside (goal.at.returns-then-z-nz c).Then-z-nz).1 filled.least c.columns.ensures.low c.cubes.ensures.least;
      greatests = λ x l. cubes_row max for_greatest 0 n a.samples.now a.high.now x a.y a.z l (inside (goal.at.returns-then-z-nz c).Then-z-nz).0 (inside (goal.at.returns-then-z-nz c).Then-z-nz).1 filled.greatest c.columns.ensures.high c.cubes.ensures.greatest;
    }

pub returns-else-y-ny : goal.returns-else-y-ny
returns-else-y-ny c =
    let filled = c.outside.ensures in
    let a = c.args in
    let n = size a.nx a.ny a.nz in
    let out : (x : ℕ) → InGrid n x a.y a.z → ⊥
    = λ x there. elim c.else-y-ny.branch [ else-y-ny-via-then-y-ny+else-z-nz w ↦ omega (arith, there.along_z, w.if-z-nz.false) | else-y-ny-via-else-y-ny w ↦ omega (arith, there.along_y, w.if-y-ny.false) ] in
    record {
      leasts = λ x l.
          ap (λ xs. get_or xs x 0) filled.least ∙ get_or-replicate most_side x most_number 0 l ∙ sym (cube_outside min most_number n a.samples.now x a.y a.z (out x));
      greatests = λ x l.
          ap (λ xs. get_or xs x 0) filled.greatest ∙ get_or-replicate most_side x 0 0 l ∙ sym (cube_outside max 0 n a.samples.now x a.y a.z (out x));
    }
