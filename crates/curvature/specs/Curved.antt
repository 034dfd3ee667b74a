-- What a call leaves behind: the number, and the whole content of both rooms.
use Rattle.std.specs.Prelude.{List, [], ◌∷◌, cond, not, ◌&&◌, ℕ, ◌*◌, eqb, length, get_or, Float}
use Rattle.laws.specs.Range.{join_to}
use Rattle.mesh.specs.Mesh.{triangle_count}
use Rattle.mesh.specs.Check.{mesh_number}
use Rattle.curvature.specs.declared.answers.Answer.{Answer}
use Rattle.measures.specs.Vectors.{numbers_of}
use Rattle.sums.specs.Sums.{Sum, start, sum_after}
use Rattle.curvature.specs.Answers.{answer_from, stored_vector}

pub record Outcome : Type 0 where
  pub number : ℕ
  pub areas : List Float
  pub vectors : List Float

-- a point's sums over the whole mesh
unfoldable pub sums_for : List ℕ → List ℕ → ℕ → Sum
sums_for points triangles point = sum_after points triangles point (triangle_count triangles) start

module _ (points triangles marks : List ℕ) where
  -- a point's answer
  unfoldable pub answer_for : ℕ → Answer
  answer_for point = answer_from (get_or marks point 0) (sums_for points triangles point)

  -- V areas and 3V vector numbers
  unfoldable pub granted : Outcome
  granted =
      record {
        number = 0;
        areas = join_to (length marks) (λ point. (sums_for points triangles point).area ∷ []);
        vectors = join_to (length marks) (λ point. numbers_of (stored_vector (answer_for point)));
      }

  -- 6, 7, 8, 9, then 3; a refusal leaves both rooms as they were
  unfoldable pub curved : List Float → List Float → Outcome
  curved areas vectors =
      let number = mesh_number points triangles marks in
      cond (not (eqb number 0)) (record { number = number; areas = areas; vectors = vectors })
      (cond (not (eqb (length areas) (length marks) && eqb (length vectors) (3 * length marks))) (record { number = 3; areas = areas; vectors = vectors }) granted)
