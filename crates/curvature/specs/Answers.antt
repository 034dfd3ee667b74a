-- A point's answer: open, flat or bent (document 01, "Areas and mean curvature"), and how one is read back.
use Rattle.std.specs.Prelude.{List, [], ◌∷◌, cond, ◌&&◌, not, ℕ, ◌*◌, eqb, leb, ltb, pos, length, get_or, Float, Result, Ok, Err}
use Rattle.std.specs.Float.{nan, binary64}
use Rattle.std.specs.Float.Ieee.{mul, eq}
use Rattle.grid.specs.declared.refusal.Refusal.{Refusal}
use Rattle.measures.specs.declared.vectors.Vector.{Vector}
use Rattle.curvature.specs.declared.answers.Answer.{Answer}
use Rattle.curvature.specs.declared.answers.Answer.TheVariants.{Open, Flat, Bent}
use Rattle.measures.specs.Vectors.{plus_zero, no_vector, vector_at, whole, over}
use Rattle.sums.specs.Sums.{Sum}

-- mark 1 is open, else an area of +0.0 or -0.0 is flat, else bent
unfoldable pub answer_of : ℕ → Float → Vector → Answer
answer_of mark area v = cond (eqb mark 1) (Open area) (cond (eq area plus_zero) Flat (Bent area v))

-- from a point's sums: the running vector divided by four times the area
unfoldable pub answer_from : ℕ → Sum → Answer
answer_from mark s = answer_of mark s.area (over s.vector (mul binary64 (whole (pos 4)) s.area))

-- the vector that is stored: +0.0 for open and flat points
unfoldable pub stored_vector : Answer → Vector
stored_vector (Open area) = no_vector
stored_vector Flat = no_vector
stored_vector (Bent area v) = v

-- the kind of an answer, and its area: a flat point's is told as +0.0
unfoldable pub kind_of : Answer → ℕ
kind_of (Open area) = 0
kind_of Flat = 1
kind_of (Bent area v) = 2

unfoldable pub area_of : Answer → Float
area_of (Open area) = area
area_of Flat = plus_zero
area_of (Bent area v) = area

-- the values of an answer, for each case: an open point's area; none of a flat one; a bent point's area and vector
unfoldable pub values_of : Answer → List Float
values_of (Open area) = area ∷ []
values_of Flat = []
values_of (Bent area v) = area ∷ v.x ∷ v.y ∷ v.z ∷ []

-- what a reading holds: one answer's values, or no answer
unfoldable pub holds_of : Result Answer Refusal → List (List Float)
holds_of (Ok a) = values_of a ∷ []
holds_of (Err e) = []

module _ (marks : List ℕ) (areas vectors : List Float) (point : ℕ) where
  -- 6 unless there are V areas and 3V numbers; 14 unless the point is below V; 9 for that point's mark; else 0
  unfoldable pub read_back_number : ℕ
  read_back_number =
      cond (not (eqb (length areas) (length marks) && eqb (length vectors) (3 * length marks))) 6
      (cond (leb (length marks) point) 14 (cond (ltb 1 (get_or marks point 0)) 9 0))

  -- the answer that the marks and both rooms tell
  unfoldable pub answer_at : Answer
  answer_at = answer_of (get_or marks point 0) (get_or areas point nan) (vector_at vectors (3 * point))
