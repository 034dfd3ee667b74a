-- Any two answers of the reader that the promise allows are equal, refused or granted.
use mathlib.Core.Path.{◌≡◌, refl, ap, sym, ◌∙◌}
use mathlib.Core.List.{List}
use mathlib.Core.Bool.{Bool, false}
use Prim.Native.Nat.{ℕ}
use native.Mathlib.Omega.{arith}
use lib.Dec.{eqb}
use Rattle.std.specs.Prelude.{Result}
use Rattle.std.proofs.lemmas.Bool.Decides.{nat_tests}
use Rattle.grid.specs.declared.refusal.Refusal.{Refusal}
use Rattle.grid.proofs.Refused.{same_lined}
use Rattle.mesh.proofs.OneCheck.{mesh_names_none}
use Rattle.reading.specs.Reading.{Got, bad, got}
use Rattle.reading.specs.Lined.{Lined, wrong, lined}
use Rattle.meshread.specs.Lines.{Counts as Read, read_counts}
use Rattle.meshread.specs.Mesh.{Mesh, read_lines_of}
use Rattle.meshread.specs.Promise.{Rooms, Outcome, granted, Lengths, lengths_of, room_number, Said, refusal, mesh, with_mesh, with_lines, with_counts, said, Reads, refused_early, others_shells, taken}
use Rattle.meshread.proofs.OneRead.{one_read}
use Rattle.meshrows.specs.declared.Counts.{Counts}
use Rattle.reader.specs.Promise.{uncounted, answered}

-- the line of a grid's text is never named
abbrev is_12 : Said → Bool
is_12 (refusal number line zeroed) = eqb number 12
is_12 (mesh m) = false

mesh_never_12 : (m : Mesh) → is_12 (with_mesh m) ≡ false
unfolding with_mesh
mesh_never_12 m = grind (arith, nat_tests, mesh_names_none m.points m.triangles m.marks)

lines_never_12 : (read : Lined Mesh) → is_12 (with_lines read) ≡ false
unfolding with_lines
lines_never_12 (wrong line) = refl
lines_never_12 (lined m rest) = mesh_never_12 m

counts_never_12 : (l : Lengths) (read : Got Read) → is_12 (with_counts l read) ≡ false
unfolding with_counts room_number
counts_never_12 l bad = refl
counts_never_12 l (got c rest) = grind (arith, nat_tests, lines_never_12 (read_lines_of c rest))

said_never_12 : (input : List ℕ) (l : Lengths) → is_12 (said input l) ≡ false
unfolding said
said_never_12 input l = counts_never_12 l (read_counts input)

never_12 : (input : List ℕ) (before : Rooms) (o : Outcome) → Reads input before o → eqb o.number 12 ≡ false
unfolding granted
never_12 input before o (refused_early number line zeroed e f) = ap (λ (x : Outcome). eqb x.number 12) f ∙ sym (ap is_12 e) ∙ said_never_12 input (lengths_of before)
never_12 input before o (others_shells m e found shells N differ f) = ap (λ (x : Outcome). eqb x.number 12) f
never_12 input before o (taken m e found shells N own f) = ap (λ (x : Outcome). eqb x.number 12) f

-- the counts of an outcome
abbrev counted : Outcome → Counts
counted o = record { points = o.points; triangles = o.triangles; shells = o.shells }

-- so the answer itself is one
pub one_read_answer : (input : List ℕ) (before : Rooms) (r q : Result Counts Refusal) (after other : Rooms) → Reads input before (answered r after) → Reads input before (answered q other)
    → (r ≡ q) × (after ≡ other)
one_read_answer input before r q after other a b =
    let same = one_read input before (answered r after) (answered q other) a b in
    (same_lined uncounted r q (ap (λ o. o.number) same) (never_12 input before (answered r after) a) (λ t. ap (λ o. o.line) same) (ap counted same), ap (λ o. o.rooms) same)
