-- `meshrows::begins` meets its contract: two bytes.
use mathlib.Core.Path.{sym}
use native.Mathlib.Omega.{arith}
use Rattle.meshrows.proofs.Begun.{starts_end, starts_short, starts_other, starts_tab}
use Rattle.meshrows.proofs.begins.Goals as goal

pub returns-then-from-input-clause-starts : goal.returns-then-from-input-clause-starts
returns-then-from-input-clause-starts c = sym (starts_end _ c.args.input.now _ c.if-from-input.true)

pub returns-then-input-from-clause-starts : goal.returns-then-input-from-clause-starts
returns-then-input-from-clause-starts c = sym (starts_other _ c.args.input.now _ (omega arith) c.if-input-from.true)

pub returns-then-from-input-2-clause-starts : goal.returns-then-from-input-2-clause-starts
returns-then-from-input-2-clause-starts c = sym (starts_short _ c.args.input.now _ (omega arith) c.if-from-input-2.true)

pub returns-clause-starts : goal.returns-clause-starts
returns-clause-starts c = sym (starts_tab _ c.args.input.now _ (omega arith) c.if-input-from.false (omega arith))
