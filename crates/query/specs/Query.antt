-- What building a summary and a query by it leave behind (document 02, (vi)).
use Rattle.std.specs.Prelude.{List, cond, not, ℕ, eqb, length}
pub use Rattle.grid.specs.Refusal.{no_summary}
use Rattle.grid.specs.Limits.{halvings}
use Rattle.grid.specs.Sides.{sides_fit}
use Rattle.grid.specs.Grid.{axes, sample_count, edge_count}
use Rattle.grid.specs.Mode.{cubes}
use Rattle.grid.specs.Work.{size}
use Rattle.extract.specs.Extraction.{Rooms, Outcome, refused, cleared, measured}
use Rattle.summary.specs.Blocks.{summary_of, summary_length, is_summary}
use Rattle.summary.specs.Steps.{step_at, looked}

-- ---- building: the number that is answered, and the whole content of the room
pub record Built : Type 0 where
  pub number : ℕ
  pub room : List ℕ

-- the refusals in order, which leave the room, and the granted case
unfoldable pub built : ℕ → ℕ → ℕ → List ℕ → List ℕ → Built
built nx ny nz samples room =
    let n = size nx ny nz in
    cond (not (sides_fit nx ny nz)) (record { number = 1; room = room })
    (cond (not (eqb (length samples) (sample_count n))) (record { number = 2; room = room })
    (cond (not (eqb (length room) summary_length)) (record { number = 3; room = room }) (record { number = 0; room = summary_of n samples })))

-- ---- a query: the extractor's outcome with a third count, of the blocks looked at
pub record Queried : Type 0 where
  pub mesh : Outcome
  pub block_count : ℕ

-- a refusal gives zero counts
unfoldable pub query_refused : ℕ → Rooms → Queried
query_refused number rooms = record { mesh = refused number rooms; block_count = 0 }

-- past 19: the extractor's outcome, and if it is granted the blocks looked at
unfoldable pub answered : ℕ → ℕ → ℕ → ℕ → List ℕ → List ℕ → Rooms → Queried
answered nx ny nz grey samples summary r =
    let mesh = measured cubes (size nx ny nz) grey samples r in
    record { mesh = mesh; block_count = cond (eqb mesh.number 0) (looked (step_at summary grey) halvings 0 0 0) 0 }

-- the refusals in order: those of the extractor, with 19 after 3 if the lent summary is not that of the samples
unfoldable pub queried : ℕ → ℕ → ℕ → ℕ → List ℕ → List ℕ → Rooms → Queried
queried nx ny nz grey samples summary r =
    let n = size nx ny nz in
    cond (not (sides_fit nx ny nz)) (query_refused 1 r)
    (cond (not (eqb (length samples) (sample_count n))) (query_refused 2 r)
    (cond (not (eqb (length r.work) (edge_count axes n))) (query_refused 3 r)
    (cond (not (is_summary n samples summary)) (query_refused no_summary (cleared r)) (answered nx ny nz grey samples summary r))))
