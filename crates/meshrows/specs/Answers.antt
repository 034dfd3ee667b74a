-- How the readers of a line answer, at a place of a whole input.
use Rattle.std.specs.Prelude.{List, [], ◌∷◌, Bool, false, ◌&&◌, ℕ, ◌≤◌, ◌<◌, eqb, length, drop, Option, Some, None, IfSome}
use Rattle.lines.specs.Line.{tab}
use Rattle.reading.specs.Reading.{Got, bad, got}
use Rattle.meshread.specs.Lines as said
use Rattle.meshrows.specs.declared.Counts.{Counts}

-- does a text start with a letter and a tab
unfoldable pub starts_with : ℕ → List ℕ → Bool
starts_with letter [] = false
starts_with letter (b ∷ []) = false
starts_with letter (b ∷ c ∷ bs) = eqb b letter && eqb c tab

-- the place behind a line that was read is behind its start, and in the input
abbrev pub Behind : {A : Type 0} → List ℕ → ℕ → Option (A × ℕ) → Type 0
Behind input from r = IfSome r (λ line. (from < line.1) × (line.1 ≤ length input))

-- line 1
abbrev pub answered_counts : List ℕ → Option (Counts × ℕ) → Got said.Counts
answered_counts input None = bad
answered_counts input (Some r) = got (record { points = r.0.points; triangles = r.0.triangles; shells = r.0.shells }) (drop r.1 input)
