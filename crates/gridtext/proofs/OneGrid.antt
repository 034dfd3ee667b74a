-- Any two outcomes that the promise allows are equal.
use mathlib.Core.Path.{◌≡◌, refl, ap, sym, ◌∙◌}
use mathlib.Core.List.{List}
use mathlib.Core.Bool.{Bool, false, false≢true}
use Prim.Native.Nat.{ℕ}
use native.Mathlib.Omega.{arith}
use lib.Dec.{eqb}
use Rattle.std.specs.Prelude.{Result, Ok, Err}
use Rattle.std.proofs.lemmas.Bool.Decides.{nat_tests}
use Rattle.grid.specs.declared.refusal.Refusal.{Refusal}
use Rattle.grid.proofs.Refused.{never_0, same_refusal}
use Rattle.reading.specs.Reading.{Got, bad, got, GotRows, malformed, rows}
use Rattle.gridtext.specs.declared.Head.{Head}
use Rattle.gridtext.specs.Grid.{Parsed, Outcome, head_number, refused, granted, with_rows, with_head, read_grid, read_head}
use Rattle.gridtext.specs.Promise.{left, ReadsGrid}

pub one_grid : (input room : List ℕ) (a b : Outcome) → ReadsGrid input room a → ReadsGrid input room b → a ≡ b
one_grid input room a b p q = p ∙ sym q

-- the line of a mesh's text is never named
abbrev is_15 : Outcome → Bool
is_15 o = eqb o.answer.number 15

rows_never_15 : (h : Head) (room : List ℕ) (read : GotRows) → is_15 (with_rows h room read) ≡ false
unfolding with_rows refused granted
rows_never_15 h room (malformed line) = refl
rows_never_15 h room (rows ns) = refl

head_never_15 : (room : List ℕ) (read : Got Head) → is_15 (with_head room read) ≡ false
unfolding with_head head_number refused
head_never_15 room bad = refl
head_never_15 room (got h rest) = grind (arith, nat_tests, rows_never_15 h room)

never_15 : (input room : List ℕ) → is_15 (read_grid input room) ≡ false
unfolding read_grid
never_15 input room = head_never_15 room (read_head input)

-- an answer is told by what it says as numbers
abbrev head_in : Parsed → Head
head_in p = record { nx = p.nx; ny = p.ny; nz = p.nz; grey = p.grey; rounds = p.rounds; weight = p.weight }

same_head : (r q : Result Head Refusal) (samples other : List ℕ) → left r samples ≡ left q other → is_15 (left r samples) ≡ false → r ≡ q
same_head (Ok h) (Ok k) samples other same none = ap (λ o. Ok (head_in o.answer)) same
same_head (Ok h) (Err f) samples other same none = absurd (never_0 f (sym (ap (λ o. o.answer.number) same)))
same_head (Err e) (Ok k) samples other same none = absurd (never_0 e (ap (λ o. o.answer.number) same))
same_head (Err e) (Err f) samples other same none =
    ap Err (same_refusal e f (ap (λ o. o.answer.number) same) (λ t. ap (λ o. o.answer.line) same) (λ t. absurd (false≢true (sym none ∙ t))))

-- so the answer itself is one
pub one_grid_answer : (input room : List ℕ) (r q : Result Head Refusal) (samples other : List ℕ) → ReadsGrid input room (left r samples) → ReadsGrid input room (left q other) → (r ≡ q) × (samples ≡ other)
one_grid_answer input room r q samples other a b =
    let same = one_grid input room (left r samples) (left q other) a b in
    (same_head r q samples other same (ap is_15 a ∙ never_15 input room), ap (λ o. o.samples) same)
