-- `writing::fields_length` meets its contract: no number is longer than the longest, so that the sum fits.
use Rattle.std.proofs.Common.{◌≡◌, ◌+◌, ◌*◌, ◌≤◌, length}
use lib.ListN.{drop}
use Rattle.lines.specs.Line.{longest_field, fields}
use Rattle.writing.proofs.fields_length.Given as goal

abbrev pub invariant-loop-x : goal.invariant-loop-x
invariant-loop-x l = (l.sum + length (fields 0 (drop l.x-index l.numbers)) ≡ length (fields 0 l.numbers)) × (l.sum ≤ longest_field * l.x-index)
