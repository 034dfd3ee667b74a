-- `viewer::tholbrina_shells` meets its contract: no more shells than points, so the count fits.
use native.Mathlib.Omega.{arith}
use Rattle.shelllist.proofs.Few.{few_shells}
use Rattle.viewer.proofs.tholbrina_shells.Goals as goal

pub overflow_cast-shell_count : goal.overflow_cast-shell_count
overflow_cast-shell_count c =
    let a = c.args in
    record { fits = omega (arith, c.unwrap_or.ensures, few_shells a.points.now a.triangles.now a.marks.now a.numbers.now a.work.now a.records.now c.shells-listed.ensures) }

pub returns : goal.returns
returns c = rw (c.told.ensures, c.unwrap_or.ensures) c.shells-listed.ensures
