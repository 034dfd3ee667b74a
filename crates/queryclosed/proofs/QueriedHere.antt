-- The mesh that a granted query leaves is one that was extracted here, so that all of demand 3 is said of it too.
use mathlib.Core.Path.{◌≡◌, ap, sym, ◌∙◌}
use mathlib.Core.List.{List}
use Prim.Native.Nat.{ℕ}
use Rattle.grid.specs.Mode.{cubes}
use Rattle.grid.specs.Work.{size}
use Rattle.extract.specs.Extraction.{Rooms}
use Rattle.closed.specs.Left.{mesh_left, edges_left, Here, extracted_here}
use Rattle.query.specs.Query.{Queried}
use Rattle.query.specs.Promise.{Queries}
use Rattle.query.proofs.Plain.{granted_is_extract}

pub queried_here : (nx ny nz grey : ℕ) (samples summary : List ℕ) (before : Rooms) (after : Queried) → Queries nx ny nz grey samples summary before after
    → after.mesh.number ≡ 0 → Here cubes (size nx ny nz) (mesh_left after.mesh) (edges_left after.mesh)
queried_here nx ny nz grey samples summary before after promised granted =
    let left = ap (λ o. o.mesh) promised in
    let zero = sym (ap (λ o. o.number) left) ∙ granted in
    extracted_here grey samples before after.mesh (left ∙ granted_is_extract nx ny nz grey samples summary before zero) granted
