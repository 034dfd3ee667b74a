-- Any two outcomes that the promise allows are equal: for all inputs, granted or refused.
use mathlib.Core.Path.{◌≡◌, ap, ◌∙◌}
use mathlib.Core.List.{List}
use mathlib.Core.Bool.{false}
use Prim.Native.Nat.{ℕ}
use Rattle.std.specs.Prelude.{Result}
use native.Mathlib.Omega.{arith}
use Rattle.std.proofs.lemmas.Bool.Decides.{nat_tests}
use Rattle.grid.specs.declared.refusal.Refusal.{Refusal}
use Rattle.grid.specs.Grid.{Size}
use Rattle.grid.specs.Work.{size}
use Rattle.grid.specs.Mode.{Mode}
use Rattle.grid.proofs.Refused.{names_line, same_answer}
use Rattle.extract.specs.declared.Extracted.{Extracted}
use Rattle.extract.specs.Extraction.{Rooms, Outcome, refused, granted, measured, extracted}
use Rattle.extract.specs.Promise.{nothing, answered, Extracts}

pub one_extraction : (m : Mode) (nx ny nz grey : ℕ) (samples : List ℕ) (before : Rooms) (one other : Outcome) → Extracts m nx ny nz grey samples before one
    → Extracts m nx ny nz grey samples before other → one ≡ other
one_extraction m nx ny nz grey samples before one other p q = cc

-- no refusal of the extractor names a line
pub measured_names_none : (m : Mode) (n : Size) (grey : ℕ) (samples : List ℕ) (r : Rooms) → names_line (measured m n grey samples r).number ≡ false
unfolding measured refused granted
measured_names_none m n grey samples r = grind (arith, nat_tests)

extracted_names_none : (m : Mode) (nx ny nz grey : ℕ) (samples : List ℕ) (r : Rooms) → names_line (extracted m nx ny nz grey samples r).number ≡ false
unfolding extracted refused
extracted_names_none m nx ny nz grey samples r = grind (arith, nat_tests, measured_names_none m (size nx ny nz) grey samples r)

-- the counts of an outcome
abbrev counted : Outcome → Extracted
counted o = record { points = o.point_count; triangles = o.triangle_count }

-- so the answer itself is one
pub one_extract_answer : (m : Mode) (nx ny nz grey : ℕ) (samples : List ℕ) (before : Rooms) (r q : Result Extracted Refusal) (after other : Rooms)
    → Extracts m nx ny nz grey samples before (answered r after) → Extracts m nx ny nz grey samples before (answered q other) → (r ≡ q) × (after ≡ other)
one_extract_answer m nx ny nz grey samples before r q after other a b =
    let same = one_extraction m nx ny nz grey samples before (answered r after) (answered q other) a b in
    (same_answer nothing r q (ap (λ o. o.number) same) (ap (λ o. names_line o.number) a ∙ extracted_names_none m nx ny nz grey samples before) (ap counted same), ap (λ o. o.rooms) same)
