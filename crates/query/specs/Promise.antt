-- What the two calls promise: that they leave behind exactly the outcome that is defined.
use Rattle.std.specs.Prelude.{◌≡◌, List, ℕ, Result}
use Rattle.grid.specs.declared.refusal.Refusal.{Refusal}
use Rattle.grid.specs.Refusal.{told, granted_or}
use Rattle.extract.specs.Extraction.{Rooms}
use Rattle.extract.specs.Promise.{left}
use Rattle.query.specs.declared.Queried.{Queried as Counts}
use Rattle.query.specs.Query.{Built, Queried, built, answered, queried}

-- what was left behind, as one value
abbrev pub built_left : ℕ → List ℕ → Built
built_left number room = record { number = number; room = room }

abbrev pub query_left : ℕ → ℕ → ℕ → ℕ → Rooms → Queried
query_left number point_count triangle_count block_count after = record { mesh = left number point_count triangle_count after; block_count = block_count }

-- the same, by what the call answers: its number and counts, none where it refuses
abbrev pub nothing : Counts
nothing = record { points = 0; triangles = 0; blocks = 0 }

abbrev pub query_answered : Result Counts Refusal → Rooms → Queried
query_answered r after =
    let counts = granted_or nothing r in
    query_left (told r) counts.points counts.triangles counts.blocks after

-- a call may leave this behind
abbrev pub Builds : ℕ → ℕ → ℕ → List ℕ → List ℕ → Built → Type 0
Builds nx ny nz samples before after = after ≡ built nx ny nz samples before

abbrev pub Queries : ℕ → ℕ → ℕ → ℕ → List ℕ → List ℕ → Rooms → Queried → Type 0
Queries nx ny nz grey samples summary before after = after ≡ queried nx ny nz grey samples summary before

-- the same, where 1, 2, 3 and 19 are known not to hold
abbrev pub Answers : ℕ → ℕ → ℕ → ℕ → List ℕ → List ℕ → Rooms → Queried → Type 0
Answers nx ny nz grey samples summary before after = after ≡ answered nx ny nz grey samples summary before
