-- Runs: an opening, then layers and at last a closing, in which each call gets the state of the last granted one. Refused calls may be strewn in.
use Rattle.std.specs.Prelude.{◌≡◌, List, [], ◌∷◌, ◌++◌, Bool, true, false, ℕ, ◌+◌, ◌*◌, ◌≤◌, get_or, take}
use Rattle.grid.specs.Limits.{most_number}
use Rattle.layers.specs.Outcome.{Opened, Rooms, Outcome, layered, closed}
use Rattle.layers.specs.Promise.{Opens, Layers, Closes}

-- what was handed out, each in order: the points' places, grid edges and marks, and three corners a triangle, each by its grid edge
pub record Received : Type 0 where
  pub places : List ℕ
  pub edges : List ℕ
  pub marks : List ℕ
  pub corners : List ℕ

abbrev pub none : Received
none = record { places = []; edges = []; marks = []; corners = [] }

abbrev pub joined : Received → Received → Received
joined a b = record { places = a.places ++ b.places; edges = a.edges ++ b.edges; marks = a.marks ++ b.marks; corners = a.corners ++ b.corners }

-- what a call handed out: the front of each room, by the counts that it answered
unfoldable pub handed_by : Outcome → Received
handed_by o =
    record {
      places = take (3 * o.point_count) o.rooms.points;
      edges = take o.point_count o.rooms.edges;
      marks = take o.point_count o.rooms.marks;
      corners = take (3 * o.triangle_count) o.rooms.triangles;
    }

-- a layer's samples are numbers of 16 bits, and so is the grey value
abbrev pub AreSamples : List ℕ → Type 0
AreSamples layer = (i : ℕ) → get_or layer i 0 ≤ most_number

-- A run with these sides and this grey value has taken so many layers, which are these samples, is closed or not, has left this state, and has handed this out.
pub data Run (nx ny nz grey : ℕ) : ℕ → List ℕ → Bool → List ℕ → Received → Type 0 where
  opening : (before : List ℕ) (after : Opened) → Opens nx ny nz grey before after → after.number ≡ 0 → Run nx ny nz grey 0 [] false after.state none
  layer : {taken : ℕ} {samples : List ℕ} {over : Bool} {state : List ℕ} {got : Received} → Run nx ny nz grey taken samples over state got → (new : List ℕ) → AreSamples new
      → (before : Rooms) (after : Outcome) → Layers new before state after → after.number ≡ 0 → Run nx ny nz grey (taken + 1) (samples ++ new) over after.state (joined got (handed_by after))
  closing : {taken : ℕ} {samples : List ℕ} {over : Bool} {state : List ℕ} {got : Received} → Run nx ny nz grey taken samples over state got → (before : Rooms) (after : Outcome)
      → Closes before state after → after.number ≡ 0 → Run nx ny nz grey taken samples true after.state (joined got (handed_by after))
  layer_refused : {taken : ℕ} {samples : List ℕ} {over : Bool} {state : List ℕ} {got : Received} → Run nx ny nz grey taken samples over state got → (new : List ℕ) (before : Rooms)
      (after : Outcome) → Layers new before state after → (after.number ≡ 0 → ⊥) → Run nx ny nz grey taken samples over after.state got
  closing_refused : {taken : ℕ} {samples : List ℕ} {over : Bool} {state : List ℕ} {got : Received} → Run nx ny nz grey taken samples over state got → (before : Rooms) (after : Outcome)
      → Closes before state after → (after.number ≡ 0 → ⊥) → Run nx ny nz grey taken samples over after.state got

-- a call after the opening, with its layer and its rooms
pub data Call : Type 0 where
  next : List ℕ → Rooms → Call
  close : Rooms → Call

abbrev pub answer : List ℕ → Call → Outcome
answer state (next new r) = layered r state new
answer state (close r) = closed r state

-- what calls answer one after the other, each on the state that the one before it left
unfoldable pub answers : List ℕ → List Call → List Outcome
answers state [] = []
answers state (c ∷ cs) = answer state c ∷ answers (answer state c).state cs
