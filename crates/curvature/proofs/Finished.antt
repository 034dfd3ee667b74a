-- A point's answer and the vector that is stored for it.
use mathlib.Core.List.{List}
use mathlib.Core.Path.{◌≡◌, sym, ◌∙◌}
use Prim.Native.Nat.{ℕ, ◌+◌, ◌*◌, ◌≤◌, ◌<◌}
use native.Mathlib.Decide.{ℕ_discrete}
use native.Mathlib.Omega.{arith}
use lib.Ieee.{Float, nan, binary64, mul, of_bits}
use lib.ListN.{length, get_or}
use Rattle.measures.specs.declared.vectors.Vector.{Vector}
use Rattle.curvature.specs.declared.answers.Answer.{Answer}
use Rattle.measures.specs.Vectors.{over, vector_at, put_vector}
use Rattle.sums.specs.Sums.{sums}
use Rattle.sums.specs.Rooms.{sum_at}
use Rattle.curvature.specs.Answers.{answer_of, answer_from, stored_vector}
use Rattle.measures.proofs.Floats.{four_is}
use Rattle.sums.proofs.Stored.{vector_same, vector_other}

-- from the parts that are worked out on the way
pub finish_of : (vectors after : List Float) (at mark : ℕ) (area : Float) (running divided new : Vector) (a : Answer) → running ≡ vector_at vectors at
    → divided ≡ over running (mul binary64 (of_bits binary64 0x4010_0000_0000_0000) area) → a ≡ answer_of mark area divided → new ≡ stored_vector a → after ≡ put_vector vectors at new
    → after ≡ put_vector vectors at (stored_vector (answer_from mark (sums area (vector_at vectors at))))
unfolding answer_from
finish_of vectors after at mark area running divided new a e f g h k = rw (← four_is) cc

-- the points below i have the vectors of their answers; the others their running vectors
pub record Finished (marks : List ℕ) (areas old vectors : List Float) (i : ℕ) : Type 0 where
  pub done : (x : ℕ) → x < i → vector_at vectors (3 * x) ≡ stored_vector (answer_from (get_or marks x 0) (sum_at areas old x))
  pub left : (x : ℕ) → i ≤ x → vector_at vectors (3 * x) ≡ vector_at old (3 * x)

module _ (marks : List ℕ) (areas old : List Float) where
  module _ (vectors : List Float) (i : ℕ) (h : Finished marks areas old vectors i) (small : 3 * i + 2 < length vectors) where
    abbrev after : List Float
    after = put_vector vectors (3 * i) (stored_vector (answer_from (get_or marks i 0) (sums (get_or areas i nan) (vector_at vectors (3 * i)))))

    at_i : vector_at after (3 * i) ≡ stored_vector (answer_from (get_or marks i 0) (sum_at areas old i))
    unfolding sum_at
    at_i = rw (h.left i (omega arith)) (vector_same vectors i _ small)

    elsewhere : (x : ℕ) → (i ≡ x → ⊥) → vector_at after (3 * x) ≡ vector_at vectors (3 * x)
    elsewhere x ne = vector_other vectors i x _ ne

    done_by : (x : ℕ) → x < i + 1 → Dec (i ≡ x) → vector_at after (3 * x) ≡ stored_vector (answer_from (get_or marks x 0) (sum_at areas old x))
    done_by x l (yes e) = rw (sym e) at_i
    done_by x l (no ne) = elsewhere x ne ∙ h.done x (omega arith)

    pub one_finished : Finished marks areas old after (i + 1)
    one_finished =
        record {
          done = λ x l. done_by x l (ℕ_discrete i x);
          left = λ x l. elsewhere x (λ e. absurd (omega arith)) ∙ h.left x (omega arith);
        }
