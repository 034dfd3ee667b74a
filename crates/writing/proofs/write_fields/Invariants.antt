-- `writing::write_fields` meets its contract: with the fields that are left at the place, all are there.
use Rattle.std.proofs.Common.{◌≡◌, ◌+◌, length}
use lib.ListN.{drop}
use Rattle.std.proofs.lemmas.List.Edits.{sets}
use Rattle.lines.specs.Line.{fields}
use Rattle.writing.proofs.write_fields.Given as goal

abbrev pub invariant-loop-i : goal.invariant-loop-i
invariant-loop-i l =
    (length l.room ≡ length l.initial.room) × (l.at + length (fields l.more (drop l.i l.numbers)) ≡ l.from + length (fields l.more l.numbers))
    × (sets l.room l.at (fields l.more (drop l.i l.numbers)) ≡ sets l.initial.room l.from (fields l.more l.numbers))
