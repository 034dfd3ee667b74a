-- `sameshells::same_column` meets its contract: the shells passed have the field that stands there.
use Rattle.columns.specs.Columns.{kind_of}
use Rattle.sameshells.specs.Same.{shells_at, SameColumn}
use Rattle.sameshells.proofs.Compared.{Again}
use Rattle.sameshells.proofs.same_column.Given as goal

abbrev pub invariant-loop-n : goal.invariant-loop-n
invariant-loop-n l = Again l.input l.from l.shells l.n l.at × SameColumn (shells_at l.input l.from l.shells) l.n (kind_of l.field) l.work l.column
