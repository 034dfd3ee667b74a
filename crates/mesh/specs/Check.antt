-- The checks 6, 7, 8, 9 of a caller's mesh, each over the whole mesh before the next (document 01, "Numbers that refuse").
use Rattle.std.specs.Prelude.{List, Bool, cond, not, ◌&&◌, ℕ, ◌*◌, ◌/◌, ◌%◌, eqb, leb, ltb, length, get_or}
use Rattle.laws.specs.Range.{all_to}
use Rattle.laws.specs.Mesh.{Triangle}
use Rattle.grid.specs.Limits.{most_points, most_triangles, most_coordinate}
use Rattle.mesh.specs.Mesh.{triangle_count, triangle_at}

-- 6: mesh lengths fit (points are 3V, triangles come in threes) and are within the bounds
unfoldable pub lengths_fit : ℕ → ℕ → ℕ → Bool
lengths_fit points triangles v =
    eqb points (3 * v) && (eqb (triangles % 3) 0 && (leb v most_points && leb (triangles / 3) most_triangles))

-- 7: a triangle names three different points below V
unfoldable pub names_three : ℕ → Triangle → Bool
names_three v t =
    ltb t.one v
    && (ltb t.two v && (ltb t.three v && (not (eqb t.one t.two) && (not (eqb t.two t.three) && not (eqb t.three t.one)))))

unfoldable pub triangles_fit : List ℕ → ℕ → Bool
triangles_fit ts v = all_to (triangle_count ts) (λ i. names_three v (triangle_at ts i))

-- 8: a coordinate is at most 16,128; 9: a mark is at most 1
unfoldable pub all_within : ℕ → List ℕ → Bool
all_within most xs = all_to (length xs) (λ i. leb (get_or xs i 0) most)

-- the first number that holds, or 0
unfoldable pub mesh_number : List ℕ → List ℕ → List ℕ → ℕ
mesh_number points triangles marks =
    cond (not (lengths_fit (length points) (length triangles) (length marks))) 6
    (cond (not (triangles_fit triangles (length marks))) 7
    (cond (not (all_within most_coordinate points)) 8 (cond (not (all_within 1 marks)) 9 0)))
