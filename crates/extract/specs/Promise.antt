-- What the call promises: that it leaves behind exactly the outcome that is defined.
use Rattle.std.specs.Prelude.{◌≡◌, List, ℕ, Result}
use Rattle.grid.specs.declared.refusal.Refusal.{Refusal}
use Rattle.grid.specs.Refusal.{told, granted_or}
use Rattle.grid.specs.Work.{size}
use Rattle.grid.specs.Mode.{Mode}
use Rattle.extract.specs.declared.Extracted.{Extracted}
use Rattle.extract.specs.Extraction.{Rooms, Outcome, measured, extracted}

abbrev pub rooms : List ℕ → List ℕ → List ℕ → List ℕ → List ℕ → Rooms
rooms points edges marks triangles work = record { points = points; edges = edges; marks = marks; triangles = triangles; work = work }

-- what was left behind, as one value
abbrev pub left : ℕ → ℕ → ℕ → Rooms → Outcome
left number point_count triangle_count after =
    record { number = number; point_count = point_count; triangle_count = triangle_count; rooms = after }

-- the same, by what the call answers: its number and counts, none where it refuses
abbrev pub nothing : Extracted
nothing = record { points = 0; triangles = 0 }

abbrev pub answered : Result Extracted Refusal → Rooms → Outcome
answered r after = left (told r) (granted_or nothing r).points (granted_or nothing r).triangles after

-- a call on these rooms may leave this behind
abbrev pub Extracts : Mode → ℕ → ℕ → ℕ → ℕ → List ℕ → Rooms → Outcome → Type 0
Extracts m nx ny nz grey samples before after = after ≡ extracted m nx ny nz grey samples before

-- the same, where sides and lengths are known to be right
abbrev pub Measures : Mode → ℕ → ℕ → ℕ → ℕ → List ℕ → Rooms → Outcome → Type 0
Measures m nx ny nz grey samples before after = after ≡ measured m (size nx ny nz) grey samples before
