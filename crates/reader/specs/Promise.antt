-- What the reader answers, and the rooms and the outcome of a call as one value each.
use Rattle.std.specs.Prelude.{List, ℕ, Result}
use Rattle.grid.specs.declared.refusal.Refusal.{Refusal}
use Rattle.grid.specs.Refusal.{told, granted_or, told_line}
use Rattle.records.specs.declared.Shell.{Shell}
use Rattle.meshread.specs.Promise.{Rooms, Outcome}
use Rattle.meshrows.specs.declared.Counts.{Counts}

abbrev pub rooms : List ℕ → List ℕ → List ℕ → List ℕ → List Shell → List ℕ → Rooms
rooms points edges marks triangles records work = record { points = points; edges = edges; marks = marks; triangles = triangles; records = records; work = work }

-- what was left behind, as one value
abbrev pub left : ℕ → ℕ → ℕ → ℕ → ℕ → Rooms → Outcome
left number line points triangles shells after = record { number = number; line = line; points = points; triangles = triangles; shells = shells; rooms = after }

-- a refusal counts nothing
abbrev pub uncounted : Counts
uncounted = record { points = 0; triangles = 0; shells = 0 }

-- what an answer leaves behind
abbrev pub answered : Result Counts Refusal → Rooms → Outcome
answered r after = left (told r) (told_line r) (granted_or uncounted r).points (granted_or uncounted r).triangles (granted_or uncounted r).shells after
