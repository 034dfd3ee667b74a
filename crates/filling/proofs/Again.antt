-- The lines of the points read once more, one after the other: each is there, and says the numbers of its point.
use mathlib.Core.Path.{◌≡◌, ap, sym, ◌∙◌}
use mathlib.Core.List.{List, [], map}
use Prim.Native.Nat.{ℕ, ◌+◌, ◌-◌, ◌≤◌, ◌<◌}
use native.Mathlib.Omega.{arith}
use lib.ListN.{length, get_or, drop, length-drop, length-map, get_or-map}
use Rattle.std.specs.Prelude.{Option, IsSome}
use Rattle.reading.specs.Reading.{got}
use Rattle.reading.specs.Answers.{answered}
use Rattle.reading.proofs.Again.{lines_many, Again as LinesAgain, again_begin as lines_begin, again_some as lines_some, again_said as lines_said, again_next as lines_next}
use Rattle.meshread.specs.Lines.{next_edge, read_point}
use Rattle.meshform.specs.Form.{point_lines}
use Rattle.sameshells.specs.Same.{said_of}
use Rattle.filling.specs.Filled.{PointsThere}

-- the numbers of all lines
abbrev rows_at : List ℕ → ℕ → ℕ → List (List ℕ)
rows_at input from v = said_of (point_lines v (drop from input))

-- i lines were read again
abbrev pub Again : List ℕ → ℕ → ℕ → ℕ → ℕ → ℕ → Type 0
Again input from v i at bound = LinesAgain read_point next_edge input v (rows_at input from v) i at bound

pub again_begin : (input : List ℕ) (from v : ℕ) → PointsThere input from v → Again input from v 0 from 0
again_begin input from v there = lines_begin read_point next_edge input v (rows_at input from v) from 0 2 there.behind there.read

module _ (input : List ℕ) (from v i at bound : ℕ) (a : Again input from v i at bound) where
  rows_left : (f : List ℕ → ℕ) → length (map f (rows_at input from v)) - i ≡ v - i
  rows_left f =
      let many = lines_many read_point next_edge (v - i) bound a.line (drop at input) (drop i (rows_at input from v)) a.behind a.left in
      omega (arith, length-map (rows_at input from v) f, length-drop i (rows_at input from v), many)

  -- no line is left
  pub again_end : v ≤ i → (f : List ℕ → ℕ) → length (map f (rows_at input from v)) ≤ i
  again_end l f = omega (arith, l, rows_left f)

  module _ (less : i < v) where
    pub again_inside : (f : List ℕ → ℕ) → i < length (map f (rows_at input from v))
    again_inside f = omega (arith, less, rows_left f)

    pub again_some : (r : Option (List ℕ × ℕ)) → read_point bound (drop at input) ≡ answered input r → IsSome r
    again_some = lines_some read_point next_edge input v (rows_at input from v) [] i at bound a less

    -- what a reader of the line answers
    module _ (row : List ℕ) (next : ℕ) (h : read_point bound (drop at input) ≡ got row (drop next input)) where
      -- one number of it
      pub again_at : (f : List ℕ → ℕ) → f row ≡ get_or (map f (rows_at input from v)) i (f [])
      again_at f = ap f (sym (lines_said read_point next_edge input v (rows_at input from v) [] i at bound a less row next h)) ∙ sym (get_or-map f (rows_at input from v) i [])

      pub again_next : Again input from v (i + 1) next (next_edge row)
      again_next = lines_next read_point next_edge input v (rows_at input from v) [] i at bound a less row next h
