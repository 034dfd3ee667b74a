-- Every point and every triangle is counted in exactly one shell: the records' points and triangles sum up to V and T.
use mathlib.Core.Path.{◌≡◌, ◌∙◌}
use mathlib.Core.List.{List}
use mathlib.Core.Bool.{true}
use Prim.Native.Nat.{ℕ}
use lib.Dec.{eqb}
use lib.ListN.{length}
use Rattle.laws.specs.Range.{sum_to, count_to}
use Rattle.laws.proofs.Ranges.{sum_cong, count_cong}
use Rattle.laws.proofs.Keep.{length_keep}
use Rattle.laws.proofs.Parted.{parted}
use Rattle.mesh.specs.Mesh.{triangle_count, triangle_at, triangles_of}
use Rattle.mesh.specs.Check.{triangles_fit}
use Rattle.shellnumbers.specs.Numbering.{number_of, Numbering}
use Rattle.records.specs.Record.{points_under, names_under, triangles_under, record_from, record_of}
use Rattle.mesh.proofs.Passed.{corners}
use Rattle.records.proofs.OneNumber.{one_number}

module _ (points triangles marks found : List ℕ) (shells : ℕ) (N : Numbering (triangles_of triangles) (length marks) found shells) where
  pub all_points : sum_to shells (λ n. (record_of points triangles marks found n).points) ≡ length marks
  unfolding record_from points_under
  all_points =
      sum_cong
      shells
      (λ n. (record_of points triangles marks found n).points)
      (λ n. count_to (length marks) (λ p. eqb (number_of found p) n))
      (λ n l. length_keep (length marks) (λ p. eqb (number_of found p) n))
      ∙ parted shells (length marks) (number_of found) N.small

  module _ (fit : triangles_fit triangles (length marks) ≡ true) where
    abbrev firsts : ℕ → ℕ
    firsts k = number_of found (triangle_at triangles k).one

    pub all_triangles : sum_to shells (λ n. (record_of points triangles marks found n).triangles) ≡ triangle_count triangles
    unfolding record_from triangles_under
    all_triangles =
        sum_cong
        shells
        (λ n. (record_of points triangles marks found n).triangles)
        (λ n. count_to (triangle_count triangles) (λ k. eqb (firsts k) n))
        (λ n l. length_keep (triangle_count triangles) (λ k. names_under found n (triangle_at triangles k)) ∙ count_cong (triangle_count triangles) (λ k. names_under found n (triangle_at triangles k)) (λ k. eqb (firsts k) n) (λ k lk. one_number triangles found (length marks) shells fit N n k lk))
        ∙ parted shells (triangle_count triangles) firsts (λ k l. N.small (triangle_at triangles k).one (corners triangles (length marks) k fit l).first)
