-- Each point's neighbours, in the order in which the triangles name them, one point's after the other in the work room.
use Rattle.std.specs.Prelude.{◌≡◌, List, [], ◌∷◌, ◌++◌, Bool, true, false, cond, ℕ, ◌+◌, ◌*◌, ◌<◌, ◌≤◌, eqb, length, get_or}
use Rattle.laws.specs.Range.{join_to, sum_to, some_to}
use Rattle.laws.specs.Mesh.{Triangle}
use Rattle.grid.specs.Limits.{most_points, most_triangles}
use Rattle.mesh.specs.Mesh.{triangle_count, triangle_at}

abbrev pub two_if : Bool → ℕ → ℕ → List ℕ
two_if true q r = q ∷ r ∷ []
two_if false q r = []

-- the other two corners, for each corner of a triangle that is p
unfoldable pub others : Triangle → ℕ → List ℕ
others t p =
    two_if (eqb t.one p) t.two t.three ++ (two_if (eqb t.two p) t.three t.one ++ two_if (eqb t.three p) t.one t.two)

-- the bucket of p: what the first n triangles put there
unfoldable pub bucket_to : List ℕ → ℕ → ℕ → List ℕ
bucket_to ts n p = join_to n (λ i. others (triangle_at ts i) p)

abbrev pub bucket : List ℕ → ℕ → List ℕ
bucket ts p = bucket_to ts (triangle_count ts) p

-- is q among the first n of the numbers f 0, f 1, ..
unfoldable pub met_to : (ℕ → ℕ) → ℕ → ℕ → Bool
met_to f n q = some_to n (λ k. eqb (f k) q)

-- the different ones of the first n, each where it is first met
unfoldable pub different_to : (ℕ → ℕ) → ℕ → List ℕ
different_to f n = join_to n (λ k. cond (met_to f k (f k)) [] (f k ∷ []))

-- the different points in the bucket of p
unfoldable pub list_of : List ℕ → ℕ → List ℕ
list_of ts p = different_to (λ k. get_or (bucket ts p) k 0) (length (bucket ts p))

-- where the list of p starts: behind those of all points below
unfoldable pub start_of : List ℕ → ℕ → ℕ
start_of ts p = sum_to p (λ q. length (list_of ts q))

-- every list at its start, and every start in its place, `at` being the first start's
pub record Listed (ts : List ℕ) (v at : ℕ) (work : List ℕ) : Type 0 where
  pub starts : (p : ℕ) → p ≤ v → get_or work (at + p) 0 ≡ start_of ts p
  pub entries : (p j : ℕ) → p < v → j < length (list_of ts p) → get_or work (start_of ts p + j) 0 ≡ get_or (list_of ts p) j 0

-- what is needed: the triangles name points below v, and the room, of that length, holds all the parts, `at` being the number of entries
pub record ListsFit (ts : List ℕ) (v at size : ℕ) : Type 0 where
  pub threes : length ts ≡ 3 * triangle_count ts
  pub named : (k : ℕ) → k < length ts → get_or ts k 0 < v
  pub entered : at ≡ 2 * length ts
  pub room : at + (2 * v + 1) ≤ size
  pub points : v ≤ most_points
  pub triangles : triangle_count ts ≤ most_triangles
