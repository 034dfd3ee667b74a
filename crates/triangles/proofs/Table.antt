-- What the table has of each case: the corners of its triangles, which are crossed edges.
use mathlib.Core.Path.{◌≡◌, refl, ap, sym, ◌∙◌}
use mathlib.Core.List.{List, [], ◌∷◌, flat_map, flatten}
use Prim.Native.Nat.{ℕ, ◌+◌, ◌*◌, ◌<◌, ◌≤◌}
use native.Mathlib.Omega.{arith}
use lib.ListN.{length, get_or, take}
use lib.Seq.{get_or-take}
use Rattle.laws.specs.Mesh.{Triangle, triangle, corners_of, flat, sides}
use Rattle.laws.specs.Sum.{All}
use Rattle.laws.proofs.Sums.{all_weaken}
use Rattle.laws.proofs.Sides.{corners_start}
use Rattle.cube.specs.Cube.{cases}
use Rattle.cube.specs.Answer.{most_case_triangles, case_length, triangles, count, corners_at, answer, row, table}
use Rattle.cube.proofs.Places.{entry}
use Rattle.cube.proofs.Cases.{CrossedEdge, CrossedSide, sides_crossed}
use Rattle.cuberows.proofs.Cases.{count_most}

-- of the table's fifteen numbers of a case, as many as its triangles have corners are those corners
fifteen : List Triangle → List ℕ
fifteen ts =
    let at : ℕ → List ℕ = λ n. corners_of (get_or ts n (triangle 0 0 0)) in
    flatten (at 0 ∷ at 1 ∷ at 2 ∷ at 3 ∷ at 4 ∷ [])

corners_first : (ts : List Triangle) → length ts ≤ most_case_triangles → take (3 * length ts) (fifteen ts) ≡ flat ts
unfolding fifteen flatten flat flat_map
corners_first [] h = refl
corners_first (a ∷ []) h = refl
corners_first (a ∷ b ∷ []) h = refl
corners_first (a ∷ b ∷ c ∷ []) h = refl
corners_first (a ∷ b ∷ c ∷ d ∷ []) h = refl
corners_first (a ∷ b ∷ c ∷ d ∷ e ∷ []) h = refl
corners_first (a ∷ b ∷ c ∷ d ∷ e ∷ f ∷ ts) h = absurd (omega arith)

pub corner_in_table : (k j : ℕ) → k < cases → j < 3 * count k → get_or table (case_length * k + j) 0 ≡ get_or (flat (triangles k)) j 0
unfolding count row answer corners_at fifteen
corner_in_table k j h l =
    let most : length (triangles k) ≤ most_case_triangles = count_most k h in
    let here : case_length * k + j ≡ k * case_length + j = omega arith in
    ap (λ n. get_or table n 0) here
    ∙ entry k j h (omega arith)
    ∙ sym (get_or-take (3 * length (triangles k)) (fifteen (triangles k)) j 0 l)
    ∙ ap (λ xs. get_or xs j 0) (corners_first (triangles k) most)

-- each corner of a case's triangles is a crossed edge
pub corners_crossed : (k : ℕ) → k < cases → All (CrossedEdge k) (flat (triangles k))
corners_crossed k h =
    corners_start (CrossedEdge k) (triangles k)
    (all_weaken (CrossedSide k) (λ s. CrossedEdge k s.from) (λ s c. c.start) (sides (triangles k)) (sides_crossed k h))
