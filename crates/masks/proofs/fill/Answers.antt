-- `masks::fill` meets its contract. The rows of the batches passed have their words.
use mathlib.Core.Path.{refl, ◌∙◌}
use Prim.Native.Nat.{ℕ, ◌+◌, ◌*◌, ◌<◌, ◌≤◌}
use native.Mathlib.Nat.{mul-zero, mul-add, mul-le-mul_left}
use native.Mathlib.Omega.{arith}
use Rattle.laws.proofs.Rooms.{zeros_at}
use Rattle.grid.specs.Work.{lent_samples}
use Rattle.masks.specs.Masks.{row_words}
use Rattle.masks.specs.Flags.{flag_bytes, most_flagged, AreFlags}
use Rattle.masks.proofs.Flags.{still_flags}
use Rattle.masks.proofs.Rows.{batch_next, some_row, batch_fits}
use Rattle.masks.proofs.fill.Goals as goal
use Rattle.masks.proofs.fill.Goals.{After-flag_lent, After-min-many}

pub loop-r-init : goal.loop-r-init
loop-r-init c =
    let a = c.args in
    (refl, refl, omega arith, λ i. omega (arith, zeros_at flag_bytes i), omega (arith, mul-zero (row_words a.nx)), λ r w i l. absurd (omega arith))

-- a batch has a row, its samples can be flagged, and its rows are among those left, and so are their samples and their words
record Batch (nx rows r many : ℕ) : Type 0 where
  some : 0 < many
  fits : nx * many ≤ most_flagged
  left : r + many ≤ rows
  within : nx * r + nx * many ≤ nx * rows
  words : row_words nx * r + row_words nx * many ≤ row_words nx * rows

batch : (c : After-min-many)
    → Batch c.args.nx c.args.rows c.loop-r.r c.min-many.result
batch c =
    let a = c.args in
    let l = c.loop-r in
    let least = c.min-many.ensures in
    let left : l.r + c.min-many.result ≤ a.rows = omega (arith, least) in
    let within : (m : ℕ) → m * l.r + m * c.min-many.result ≤ m * a.rows = λ m. omega (arith, mul-add m l.r c.min-many.result, mul-le-mul_left m left) in
    record {
      some = omega (arith, least, some_row a.nx (omega arith) most_flagged (omega arith));
      fits = batch_fits a.nx (omega arith) most_flagged c.min-many.result (omega (arith, least));
      left = left;
      within = within a.nx;
      words = within (row_words a.nx);
    }

pub flag_lent-requires : goal.flag_lent-requires
flag_lent-requires c =
    let l = c.loop-r in record { many_in_bounds = omega (arith, batch (goal.at.flag_lent-requires c).After-min-many); many_in_bounds_2 = omega (arith, batch (goal.at.flag_lent-requires c).After-min-many, l.invariant.1) }

-- flags stay flags
flags_next : (c : After-flag_lent) → AreFlags c.flag_lent.new.flags
flags_next c =
    let a = c.args in
    let l = c.loop-r in
    rw c.flag_lent.ensures (still_flags a.grey (lent_samples a.kept.now a.samples.now) _ _ l.flags l.invariant.3)

pub mask_rows-to-requires : goal.mask_rows-to-requires
mask_rows-to-requires c =
    let batch = batch (goal.at.mask_rows-to-requires c).After-min-many in
    let l = c.loop-r in record { le_nx = (omega arith, batch.fits); are_flags = flags_next (goal.at.mask_rows-to-requires c).After-flag_lent; many_in_bounds = omega (arith, batch.words, l.invariant.0, l.invariant.4) }

pub loop-r-preserved : goal.loop-r-preserved
loop-r-preserved c =
    let a = c.args in
    let l = c.loop-r in
    let flagged = c.flag_lent in
    let masked = c.mask_rows-to in (
      masked.auto.masks ∙ l.invariant.0,
      flagged.auto.flags ∙ l.invariant.1,
      (batch (goal.at.loop-r-preserved c).After-min-many).left,
      flags_next (goal.at.loop-r-preserved c).After-flag_lent,
      omega (arith, masked.ensures.value, l.invariant.4, mul-add (row_words a.nx) l.r c.min-many.result),
      batch_next a.nx a.grey (lent_samples a.kept.now a.samples.now) l.flags l.r flagged.ensures l.invariant.4 l.invariant.5 masked.ensures.gathered,
    )
