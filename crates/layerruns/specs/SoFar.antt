-- What a run has handed out and left in its state, by the layers that it took alone.
use Rattle.std.specs.Prelude.{◌≡◌, List, ◌∷◌, ◌++◌, Bool, true, cond, ℕ, ◌-◌, ◌≤◌, length, drop, replicate}
use Rattle.std.proofs.lemmas.List.Edits.{sets}
use Rattle.laws.specs.Range.{one_if, join_to}
use Rattle.laws.specs.Mesh.{flat}
use Rattle.grid.specs.Limits.{most_points, most_triangles}
use Rattle.grid.specs.Sides.{sides_fit}
use Rattle.grid.specs.Grid.{Size}
use Rattle.grid.specs.Work.{SidesFit}
use Rattle.layerstate.specs.State.{most_layer, kept_at}
use Rattle.layerparts.specs.Layer.{first_sample, Handed, layer_through, last_layer}
use Rattle.layerruns.specs.Run.{Received, AreSamples}

-- what is handed out, with the triangles' corners one after the other
unfoldable pub received : Handed → Received
received h = record { places = h.places; edges = h.edges; marks = h.marks; corners = flat h.triangles }

-- what is handed out one after the other
unfoldable pub both_handed : Handed → Handed → Handed
both_handed a b = record { places = a.places ++ b.places; edges = a.edges ++ b.edges; marks = a.marks ++ b.marks; triangles = a.triangles ++ b.triangles }

unfoldable pub all_handed : ℕ → (ℕ → Handed) → Handed
all_handed many f =
    record {
      places = join_to many (λ z. (f z).places);
      edges = join_to many (λ z. (f z).edges);
      marks = join_to many (λ z. (f z).marks);
      triangles = join_to many (λ z. (f z).triangles);
    }

-- what the first layers of a volume hand out, each with the cubes over it, and what all of them hand out
unfoldable pub first_layers : Size → ℕ → List ℕ → ℕ → Handed
first_layers n grey samples many = all_handed many (layer_through n grey samples)

unfoldable pub all_layers : Size → ℕ → List ℕ → Handed
all_layers n grey samples = both_handed (first_layers n grey samples (n.nz - 1)) (last_layer n grey samples (n.nz - 1))

-- what has been handed out once so many layers were taken: all but the last of them, and once the run is closed the last too
unfoldable pub so_far : Size → ℕ → List ℕ → ℕ → Bool → Handed
so_far n grey samples taken over = cond over (all_layers n grey samples) (first_layers n grey samples (taken - 1))

-- A state's room: sides, grey value, layers taken, closed or not, points and triangles so far, then the kept layer, and zeros behind it.
unfoldable pub standing : Size → ℕ → ℕ → ℕ → ℕ → ℕ → List ℕ → List ℕ
standing n grey taken over points triangles kept = sets (n.nx ∷ n.ny ∷ n.nz ∷ grey ∷ taken ∷ over ∷ points ∷ triangles ∷ replicate most_layer 0) kept_at kept

-- the state once so many layers were taken: its totals are the lengths of what was handed out, and the last layer is kept
unfoldable pub state_after : Size → ℕ → List ℕ → ℕ → Bool → List ℕ
state_after n grey samples taken over =
    let h = so_far n grey samples taken over in
    standing n grey taken (one_if over) (length h.edges) (length h.triangles) (drop (first_sample n (taken - 1)) samples)

-- What holds of a run: sides within the limits, whole layers of samples, all of them once it is closed; its state and what was handed out are functions of the layers taken; and the totals are within
-- the bounds.
pub record Stood (n : Size) (grey taken : ℕ) (samples : List ℕ) (over : Bool) (state : List ℕ) (got : Received) : Type 0 where
  pub sided : sides_fit n.nx n.ny n.nz ≡ true
  pub fit : SidesFit n.nx n.ny n.nz
  pub whole : length samples ≡ first_sample n taken
  pub small : AreSamples samples
  pub most : taken ≤ n.nz
  pub ended : over ≡ true → taken ≡ n.nz
  pub state_is : state ≡ state_after n grey samples taken over
  pub got_is : got ≡ received (so_far n grey samples taken over)
  pub few_points : length (so_far n grey samples taken over).edges ≤ most_points
  pub few_triangles : length (so_far n grey samples taken over).triangles ≤ most_triangles
