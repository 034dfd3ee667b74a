-- No refusal has the number 0, which says granted; a number and what was granted tell an answer, but for the lines that 12 and 15 name.
use mathlib.Core.Bool.{Bool, true, false, cond, ◌||◌, false≢true}
use mathlib.Core.Path.{◌≡◌, refl, sym, ap, ◌∙◌}
use native.Mathlib.Omega.{arith}
use Rattle.grid.specs.declared.refusal.Refusal.{Refusal}
use Rattle.grid.specs.declared.refusal.Refusal.TheVariants.{Side, Samples, Room, Points, Triangles, Lengths, Corners, Coordinates, Marks, Smoothing, Shells, GridLine, Small, Beyond, MeshLine, OtherShells, Layer, Closing, Summary}
use Rattle.std.specs.Prelude.{ℕ, Result, Ok, Err, eqb}
use Rattle.std.specs.Result.{IsOk}
use Rattle.laws.proofs.Tests.{neither}
use Rattle.grid.specs.Refusal.{number_of, grid_line, mesh_line, told, granted_or, told_line}

-- the refusal of a number other than 12 and 15
abbrev plain : ℕ → Refusal
plain n =
    cond (eqb n 1) Side (cond (eqb n 2) Samples (cond (eqb n 3) Room (cond (eqb n 4) Points (cond (eqb n 5) Triangles (cond (eqb n 6) Lengths (cond (eqb n 7) Corners (cond (eqb n 8) Coordinates (cond (eqb n 9) Marks (cond (eqb n 10) Smoothing (cond (eqb n 11) Shells (cond (eqb n 13) Small (cond (eqb n 14) Beyond (cond (eqb n 16) OtherShells (cond (eqb n 17) Layer (cond (eqb n 18) Closing Summary)))))))))))))))

-- and of any number, with the line that it may name
abbrev refusal_of : ℕ → ℕ → ℕ → Refusal
refusal_of n row line = cond (eqb n 12) (GridLine row) (cond (eqb n 15) (MeshLine line) (plain n))

by_number : (e : Refusal) → e ≡ refusal_of (number_of e) (grid_line e) (mesh_line e)
by_number Side = refl
by_number Samples = refl
by_number Room = refl
by_number Points = refl
by_number Triangles = refl
by_number Lengths = refl
by_number Corners = refl
by_number Coordinates = refl
by_number Marks = refl
by_number Smoothing = refl
by_number Shells = refl
by_number (GridLine at) = refl
by_number Small = refl
by_number Beyond = refl
by_number (MeshLine at) = refl
by_number OtherShells = refl
by_number Layer = refl
by_number Closing = refl
by_number Summary = refl

-- no number is 0
pub never_0 : (e : Refusal) → number_of e ≡ 0 → ⊥
never_0 e n =
    let summary : e ≡ Summary = by_number e ∙ ap (λ m. refusal_of m (grid_line e) (mesh_line e)) n in
    omega (arith, n, ap number_of summary)

-- an answer whose number is 0 is granted
pub is_granted : {A : Type 0} (r : Result A Refusal) → told r ≡ 0 → IsOk r
is_granted (Ok a) e = refl
is_granted (Err x) e = absurd (never_0 x e)

same_lines : (x : Refusal) (row row' line line' : ℕ) (twelve fifteen : Bool) → (twelve ≡ true → row ≡ row') → (fifteen ≡ true → line ≡ line')
    → cond twelve (GridLine row) (cond fifteen (MeshLine line) x) ≡ cond twelve (GridLine row') (cond fifteen (MeshLine line') x)
same_lines x row row' line line' true fifteen r l = ap GridLine (r refl)
same_lines x row row' line line' false true r l = ap MeshLine (l refl)
same_lines x row row' line line' false false r l = refl

-- a refusal is told by its number, 12 and 15 with the line that they name
pub same_refusal : (e f : Refusal) → number_of e ≡ number_of f → (eqb (number_of e) 12 ≡ true → grid_line e ≡ grid_line f) → (eqb (number_of e) 15 ≡ true → mesh_line e ≡ mesh_line f)
    → e ≡ f
same_refusal e f n rows lines =
    let lined = same_lines (plain (number_of e)) (grid_line e) (grid_line f) (mesh_line e) (mesh_line f) (eqb (number_of e) 12) (eqb (number_of e) 15) rows lines in
    by_number e ∙ lined ∙ ap (λ m. refusal_of m (grid_line f) (mesh_line f)) n ∙ sym (by_number f)

-- an answer that is not 12 is told by its number, what was granted, and the line that 15 names
pub same_lined : {A : Type 0} (none : A) (r q : Result A Refusal) → told r ≡ told q → eqb (told r) 12 ≡ false → (eqb (told r) 15 ≡ true → told_line r ≡ told_line q)
    → granted_or none r ≡ granted_or none q → r ≡ q
same_lined none (Ok a) (Ok b) n twelve lines g = ap Ok g
same_lined none (Ok a) (Err f) n twelve lines g = absurd (never_0 f (sym n))
same_lined none (Err e) (Ok b) n twelve lines g = absurd (never_0 e n)
same_lined none (Err e) (Err f) n twelve lines g = ap Err (same_refusal e f n (λ t. absurd (false≢true (sym twelve ∙ t))) lines)

-- these two numbers name a line
abbrev pub names_line : ℕ → Bool
names_line n = eqb n 12 || eqb n 15

-- where the number names none, an answer is told by it and by what was granted
pub same_answer : {A : Type 0} (none : A) (r q : Result A Refusal) → told r ≡ told q → names_line (told r) ≡ false → granted_or none r ≡ granted_or none q → r ≡ q
same_answer none r q n line g =
    let l = neither (eqb (told r) 12) (eqb (told r) 15) line in
    same_lined none r q n l.0 (λ t. absurd (false≢true (sym l.1 ∙ t))) g
