-- What is answered of line 1 of a mesh's text alone: its numbers, or the number 15 and zeros.
use Rattle.std.specs.Prelude.{List, ℕ, Result}
use Rattle.grid.specs.declared.refusal.Refusal.{Refusal}
use Rattle.grid.specs.Refusal.{told, granted_or}
use Rattle.reading.specs.Reading.{Got, bad, got}
use Rattle.meshread.specs.Lines.{read_counts}
use Rattle.meshread.specs.Lines as said
use Rattle.meshrows.specs.declared.Counts.{Counts as Line}
use Rattle.reader.specs.Promise.{uncounted}

-- the number of a refusal or 0, and the three numbers
pub record Counts : Type 0 where
  pub number : ℕ
  pub points : ℕ
  pub triangles : ℕ
  pub shells : ℕ

abbrev pub counts_left : ℕ → ℕ → ℕ → ℕ → Counts
counts_left number points triangles shells = record { number = number; points = points; triangles = triangles; shells = shells }

unfoldable pub counts_found : Got said.Counts → Counts
counts_found bad = counts_left 15 0 0 0
counts_found (got c rest) = counts_left 0 c.points c.triangles c.shells

abbrev pub counts_answered : List ℕ → Counts
counts_answered input = counts_found (read_counts input)

-- an answer in numbers
abbrev pub counts_told : Result Line Refusal → Counts
counts_told r = counts_left (told r) (granted_or uncounted r).points (granted_or uncounted r).triangles (granted_or uncounted r).shells
