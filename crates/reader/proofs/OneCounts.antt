-- Any two answers that the promise allows are equal.
use mathlib.Core.Path.{◌≡◌, refl, ap, sym, ◌∙◌}
use mathlib.Core.List.{List}
use mathlib.Core.Bool.{true, false, false≢true}
use Prim.Native.Nat.{ℕ}
use lib.Dec.{eqb}
use Rattle.std.specs.Prelude.{Result, Ok, Err, IfErr}
use Rattle.grid.specs.declared.refusal.Refusal.{Refusal}
use Rattle.grid.specs.Refusal.{mesh_line, told, told_line}
use Rattle.grid.proofs.Refused.{same_lined}
use Rattle.reading.specs.Reading.{Got, bad, got}
use Rattle.meshread.specs.Lines.{Counts as Read, read_counts}
use Rattle.meshrows.specs.declared.Counts.{Counts as Line}
use Rattle.reader.specs.Counts.{Counts, counts_found, counts_answered, counts_told}
use Rattle.reader.specs.Promise.{uncounted}

pub one_counts_read : (input : List ℕ) (a b : Counts) → a ≡ counts_answered input → b ≡ counts_answered input → a ≡ b
one_counts_read input a b p q = p ∙ sym q

-- the line of a grid's text is never named
counts_never_12 : (read : Got Read) → eqb (counts_found read).number 12 ≡ false
unfolding counts_found
counts_never_12 bad = refl
counts_never_12 (got c rest) = refl

-- and that of a mesh's text is line 1
line_1 : (r : Result Line Refusal) → IfErr r (λ e. mesh_line e ≡ 1) → eqb (told r) 15 ≡ true → told_line r ≡ 1
line_1 (Ok c) first t = absurd (false≢true t)
line_1 (Err e) first t = first

-- what is answered, of its numbers
abbrev line_of : Counts → Line
line_of c = record { points = c.points; triangles = c.triangles; shells = c.shells }

-- so the answer itself is one
pub one_counts_answer : (input : List ℕ) (a b : Result Line Refusal) → counts_told a ≡ counts_answered input → IfErr a (λ e. mesh_line e ≡ 1) → counts_told b ≡ counts_answered input
    → IfErr b (λ e. mesh_line e ≡ 1) → a ≡ b
one_counts_answer input a b p first q other =
    let same = one_counts_read input (counts_told a) (counts_told b) p q in
    let number : told a ≡ told b = ap (λ c. c.number) same in
    let lines : eqb (told a) 15 ≡ true → told_line a ≡ told_line b = λ t. line_1 a first t ∙ sym (line_1 b other (sym (ap (λ n. eqb n 15) number) ∙ t)) in
    same_lined uncounted a b number (ap (λ c. eqb c.number 12) p ∙ counts_never_12 (read_counts input)) lines (ap line_of same)
