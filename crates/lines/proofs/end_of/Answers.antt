-- `lines::end_of` meets its contract.
use mathlib.Core.Path.{sym}
use Rattle.lines.proofs.Bytes.{end_tab, end_feed}
use Rattle.lines.proofs.end_of.Goals as goal

pub returns-then-left-eq0 : goal.returns-then-left-eq0
returns-then-left-eq0 c = sym (end_feed _ c.if-left-eq0.true)

pub returns-else-left-eq0 : goal.returns-else-left-eq0
returns-else-left-eq0 c = sym (end_tab _ c.if-left-eq0.false)
