-- `edgepoints::step_of` meets its contract, axis by axis.
use mathlib.Core.Path.{sym}
use Rattle.grid.proofs.Crossings.{step_x, step_y, step_z}
use Rattle.rows.specs.Rows.{size_of}
use Rattle.edgepoints.proofs.step_of.Goals as goal

pub returns-in-X : goal.returns-in-X
returns-in-X c = rw c.in-X.is (sym (step_x (size_of c.args.sides)))

pub returns-in-Y : goal.returns-in-Y
returns-in-Y c = rw c.in-Y.is (sym (step_y (size_of c.args.sides)))

pub returns-in-Z : goal.returns-in-Z
returns-in-Z c = rw c.in-Z.is (sym (step_z (size_of c.args.sides)))
