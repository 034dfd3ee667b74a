-- Any two outcomes that a promise allows are equal: for all inputs, granted or refused.
use mathlib.Core.Path.{◌≡◌, refl, ap, ◌∙◌}
use mathlib.Core.List.{List}
use mathlib.Core.Bool.{false}
use Prim.Native.Nat.{ℕ}
use native.Mathlib.Omega.{arith}
use Rattle.std.specs.Prelude.{Result, ⊤}
use Rattle.std.proofs.lemmas.Bool.Decides.{nat_tests}
use Rattle.grid.specs.declared.refusal.Refusal.{Refusal}
use Rattle.grid.specs.Refusal.{told}
use Rattle.grid.specs.Work.{size}
use Rattle.grid.specs.Mode.{cubes}
use Rattle.grid.proofs.Refused.{names_line, same_answer}
use Rattle.extract.specs.Extraction.{Rooms, refused}
use Rattle.extract.proofs.OneExtraction.{measured_names_none}
use Rattle.query.specs.declared.Queried.{Queried as Counts}
use Rattle.query.specs.Query.{Built, Queried, built, query_refused, answered, queried}
use Rattle.query.specs.Promise.{built_left, nothing, query_answered, Builds, Queries}

pub one_summary : (nx ny nz : ℕ) (samples before : List ℕ) (one other : Built) → Builds nx ny nz samples before one → Builds nx ny nz samples before other → one ≡ other
one_summary nx ny nz samples before one other p q = cc

pub one_query : (nx ny nz grey : ℕ) (samples summary : List ℕ) (before : Rooms) (one other : Queried) → Queries nx ny nz grey samples summary before one
    → Queries nx ny nz grey samples summary before other → one ≡ other
one_query nx ny nz grey samples summary before one other p q = cc

-- no refusal of the two calls names a line
built_names_none : (nx ny nz : ℕ) (samples room : List ℕ) → names_line (built nx ny nz samples room).number ≡ false
unfolding built
built_names_none nx ny nz samples room = grind (arith, nat_tests)

queried_names_none : (nx ny nz grey : ℕ) (samples summary : List ℕ) (before : Rooms) → names_line (queried nx ny nz grey samples summary before).mesh.number ≡ false
unfolding queried query_refused refused answered
queried_names_none nx ny nz grey samples summary before = grind (arith, nat_tests, measured_names_none cubes (size nx ny nz) grey samples before)

-- the counts of an outcome
abbrev counted : Queried → Counts
counted o = record { points = o.mesh.point_count; triangles = o.mesh.triangle_count; blocks = o.block_count }

-- so each answer itself is one
pub one_build_answer : (nx ny nz : ℕ) (samples before : List ℕ) (r q : Result ⊤ Refusal) (after other : List ℕ) → Builds nx ny nz samples before (built_left (told r) after)
    → Builds nx ny nz samples before (built_left (told q) other) → (r ≡ q) × (after ≡ other)
one_build_answer nx ny nz samples before r q after other a b =
    let same = one_summary nx ny nz samples before (built_left (told r) after) (built_left (told q) other) a b in
    (same_answer tt r q (ap (λ o. o.number) same) (ap (λ o. names_line o.number) a ∙ built_names_none nx ny nz samples before) refl, ap (λ o. o.room) same)

pub one_query_answer : (nx ny nz grey : ℕ) (samples summary : List ℕ) (before : Rooms) (r q : Result Counts Refusal) (after other : Rooms)
    → Queries nx ny nz grey samples summary before (query_answered r after) → Queries nx ny nz grey samples summary before (query_answered q other) → (r ≡ q) × (after ≡ other)
one_query_answer nx ny nz grey samples summary before r q after other a b =
    let same = one_query nx ny nz grey samples summary before (query_answered r after) (query_answered q other) a b in
    (same_answer nothing r q (ap (λ o. o.mesh.number) same) (ap (λ o. names_line o.mesh.number) a ∙ queried_names_none nx ny nz grey samples summary before) (ap counted same), ap (λ o. o.mesh.rooms) same)
