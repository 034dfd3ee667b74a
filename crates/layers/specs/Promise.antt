-- What the three calls promise: that they leave behind exactly the outcome that is defined.
use Rattle.std.specs.Prelude.{◌≡◌, List, ℕ, Result}
use Rattle.grid.specs.declared.refusal.Refusal.{Refusal}
use Rattle.grid.specs.Refusal.{told, granted_or}
use Rattle.layers.specs.declared.Answered.{Answered}
use Rattle.layers.specs.Outcome.{Opened, Rooms, Outcome, opened, layered, closed}

abbrev pub rooms : List ℕ → List ℕ → List ℕ → List ℕ → Rooms
rooms points edges marks triangles = record { points = points; edges = edges; marks = marks; triangles = triangles }

-- what was left behind, as one value
abbrev pub open_left : ℕ → List ℕ → Opened
open_left number state = record { number = number; state = state }

abbrev pub left : ℕ → ℕ → ℕ → Rooms → List ℕ → Outcome
left number point_count triangle_count after state =
    record { number = number; point_count = point_count; triangle_count = triangle_count; rooms = after; state = state }

-- the same, by what a layer's call and a closing answer: the number and the counts, none where they refuse
abbrev pub none : Answered
none = record { points = 0; triangles = 0 }

abbrev pub answered : Result Answered Refusal → Rooms → List ℕ → Outcome
answered r after state = left (told r) (granted_or none r).points (granted_or none r).triangles after state

abbrev pub closing_answered : Result ℕ Refusal → Rooms → List ℕ → Outcome
closing_answered r after state = left (told r) (granted_or 0 r) 0 after state

-- a call on these rooms may leave this behind
abbrev pub Opens : ℕ → ℕ → ℕ → ℕ → List ℕ → Opened → Type 0
Opens nx ny nz grey before after = after ≡ opened nx ny nz grey before

abbrev pub Layers : List ℕ → Rooms → List ℕ → Outcome → Type 0
Layers layer before state after = after ≡ layered before state layer

abbrev pub Closes : Rooms → List ℕ → Outcome → Type 0
Closes before state after = after ≡ closed before state
