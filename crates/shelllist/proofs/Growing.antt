-- Lists of records as they grow: each turn changes one record, and no length.
use mathlib.Core.Path.{◌≡◌, refl, ap, sym, ◌∙◌}
use mathlib.Core.List.{List}
use Prim.Native.Nat.{ℕ, zero, suc, ◌+◌}
use native.Mathlib.Numerals.{add-one}
use lib.ListN.{length, get_or, set, length-set}
use Rattle.mesh.specs.Mesh.{triangle_at}
use Rattle.mesh.specs.Place.{place_of}
use Rattle.records.specs.declared.Shell.{Shell}
use Rattle.shellnumbers.specs.Numbering.{number_of}
use Rattle.records.specs.Record.{sixfold}
use Rattle.records.specs.Grown.{none, with_point, with_triangle}
use Rattle.shelllist.specs.Filled.{changed, emptied, points_added, triangles_added}

pub length_emptied : (n : ℕ) (ys : List Shell) → length (emptied n ys) ≡ length ys
length_emptied zero ys = refl
length_emptied (suc n) ys = length-set (emptied n ys) n none ∙ length_emptied n ys

pub emptied_next : (n : ℕ) (ys : List Shell) → set (emptied n ys) n none ≡ emptied (n + 1) ys
emptied_next n ys = ap (λ m. emptied m ys) (sym (add-one n))

module _ (points marks numbers : List ℕ) (ys : List Shell) where
  pub length_points : (j : ℕ) → length (points_added points marks numbers j ys) ≡ length ys
  length_points zero = refl
  length_points (suc j) =
      length-set (points_added points marks numbers j ys) (number_of numbers j) (with_point j (place_of points j) (get_or marks j 0) (get_or (points_added points marks numbers j ys) (number_of numbers j) none))
      ∙ length_points j

  pub points_next : (j : ℕ) → changed (with_point j (place_of points j) (get_or marks j 0)) (number_of numbers j) (points_added points marks numbers j ys) ≡ points_added points marks numbers (j + 1) ys
  points_next j = ap (λ m. points_added points marks numbers m ys) (sym (add-one j))

module _ (points triangles numbers : List ℕ) (ys : List Shell) where
  pub length_triangles : (k : ℕ) → length (triangles_added points triangles numbers k ys) ≡ length ys
  length_triangles zero = refl
  length_triangles (suc k) =
      let old = triangles_added points triangles numbers k ys in
      let n = number_of numbers (triangle_at triangles k).one in
      length-set old n (with_triangle (sixfold points (triangle_at triangles k)) (get_or old n none)) ∙ length_triangles k

  pub triangles_next : (k : ℕ) → changed (with_triangle (sixfold points (triangle_at triangles k))) (number_of numbers (triangle_at triangles k).one) (triangles_added points triangles numbers k ys) ≡ triangles_added points triangles numbers (k + 1) ys
  triangles_next k = ap (λ m. triangles_added points triangles numbers m ys) (sym (add-one k))
