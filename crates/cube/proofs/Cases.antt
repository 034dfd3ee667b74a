-- What holds in every case: each law is one test that is computed over all 256, and the law at a case.
use mathlib.Core.Path.{◌≡◌, refl}
use mathlib.Core.List.{List, ◌++◌, map, flat_map}
use mathlib.Core.Bool.{Bool, true, not, ◌&&◌, xor}
use Prim.Native.Nat.{ℕ, ◌+◌, ◌<◌}
use native.Mathlib.Omega.{arith}
use lib.Dec.{eqb, ltb}
use borrow.Author.Tests.{eqb-true, eqb-false, ltb-true, not-true}
use Rattle.laws.specs.Range.{one_if, all_to}
use Rattle.laws.specs.Sum.{sum_of, all_of, All}
use Rattle.laws.specs.Order.{rearranged, is_in, without}
use Rattle.laws.specs.Bits.{bit}
use Rattle.laws.specs.Mesh.{Arrow, flip, same_arrow, sides, total}
use Rattle.laws.proofs.Tests.{both, all_at, all_of_lem}
use Rattle.laws.proofs.Sides.{total_append, total_flip, total_rearranged}
use Rattle.cube.specs.Cube.{cases, cube_edge_count, is_above, crossed, edge_between, low_corner, high_corner}
use Rattle.cube.specs.Face.{cuts, way_round, face_segments, segments_of}
use Rattle.cube.specs.Loop.{loops}
use Rattle.cube.specs.Answer.{segments, fan_of, triangles}

-- an edge's two corners, and the edge between two corners, are two readings of one numbering
every_edge_between : all_to cube_edge_count (λ e. eqb (edge_between (low_corner e) (high_corner e)) e) ≡ true
unfolding all_to
every_edge_between = refl

pub edge_between_lem : (e : ℕ) → e < cube_edge_count → edge_between (low_corner e) (high_corner e) ≡ e
edge_between_lem e l = eqb-true _ e (all_at cube_edge_count (λ e. eqb (edge_between (low_corner e) (high_corner e)) e) every_edge_between e l)

-- how many of the arrows start at edge e, and how many end there
unfoldable pub starting : ℕ → List Arrow → ℕ
starting e ss = sum_of (λ s. one_if (eqb s.from e)) ss

unfoldable pub ending : ℕ → List Arrow → ℕ
ending e ss = sum_of (λ s. one_if (eqb s.to e)) ss

-- each crossed edge ends one segment and starts another, and an edge that is not crossed neither
edge_once : ℕ → ℕ → Bool
edge_once k e = eqb (starting e (segments k)) (one_if (crossed k e)) && eqb (ending e (segments k)) (one_if (crossed k e))

every_edge_once : all_to cases (λ k. all_to cube_edge_count (edge_once k)) ≡ true
unfolding all_to edge_once starting ending sum_of crossed xor segments segments_of flat_map face_segments cuts way_round is_above bit
every_edge_once = refl

pub edge_once_lem : (k e : ℕ) → k < cases → e < cube_edge_count
    → (starting e (segments k) ≡ one_if (crossed k e)) × (ending e (segments k) ≡ one_if (crossed k e))
unfolding edge_once
edge_once_lem k e h l =
    let t = both _ _ (all_at cube_edge_count (edge_once k) (all_at cases (λ k. all_to cube_edge_count (edge_once k)) every_edge_once k h) e l) in
    (eqb-true _ _ t.0, eqb-true _ _ t.1)

-- the sides of a case's triangles join two different crossed edges
pub record CrossedEdge (k e : ℕ) : Type 0 where
  pub small : e < cube_edge_count
  pub cut : crossed k e ≡ true

pub record CrossedSide (k : ℕ) (s : Arrow) : Type 0 where
  pub start : CrossedEdge k s.from
  pub end : CrossedEdge k s.to
  pub apart : s.from ≡ s.to → ⊥

is_crossed_edge : ℕ → ℕ → Bool
is_crossed_edge k e = ltb e cube_edge_count && crossed k e

is_crossed_side : ℕ → Arrow → Bool
is_crossed_side k s = is_crossed_edge k s.from && (is_crossed_edge k s.to && not (eqb s.from s.to))

every_side_crossed : all_to cases (λ k. all_of (is_crossed_side k) (sides (triangles k))) ≡ true
unfolding all_to all_of is_crossed_side is_crossed_edge crossed xor sides triangles fan_of loops segments segments_of flat_map face_segments cuts way_round is_above bit
every_side_crossed = refl

crossed_edge : (k e : ℕ) → is_crossed_edge k e ≡ true → CrossedEdge k e
unfolding is_crossed_edge
crossed_edge k e h = let t = both (ltb e cube_edge_count) (crossed k e) h in record { small = ltb-true e cube_edge_count t.0; cut = t.1 }

crossed_side : (k : ℕ) (s : Arrow) → is_crossed_side k s ≡ true → CrossedSide k s
unfolding is_crossed_side
crossed_side k s h =
    let t = both (is_crossed_edge k s.from) (is_crossed_edge k s.to && not (eqb s.from s.to)) h in
    let u = both (is_crossed_edge k s.to) (not (eqb s.from s.to)) t.1 in
    record {
      start = crossed_edge k s.from t.0;
      end = crossed_edge k s.to u.0;
      apart = eqb-false s.from s.to (not-true (eqb s.from s.to) u.1);
    }

pub sides_crossed : (k : ℕ) → k < cases → All (CrossedSide k) (sides (triangles k))
sides_crossed k h =
    all_of_lem (is_crossed_side k) (CrossedSide k) (crossed_side k) (sides (triangles k))
    (all_at cases (λ k. all_of (is_crossed_side k) (sides (triangles k))) every_side_crossed k h)

-- the sides with the segments turned round are a rearrangement of the sides turned round with the segments: inside a fan sides cancel, and at
-- its rim they run as the segments do
even_case : List Arrow → List Arrow → Bool
even_case ds ss = rearranged same_arrow (ds ++ map flip ss) (map flip ds ++ ss)

every_case_even : all_to cases (λ k. even_case (sides (triangles k)) (segments k)) ≡ true
unfolding all_to even_case rearranged is_in without same_arrow sides triangles fan_of loops segments segments_of flat_map face_segments cuts way_round is_above bit
every_case_even = refl

-- so, whatever an arrow weighs, the surplus of sides one way over sides the other way is that of the segments
pub case_balance : (k : ℕ) → k < cases → (w : ℕ → ℕ → ℕ)
    → total w (sides (triangles k)) + total (λ i j. w j i) (segments k) ≡ total (λ i j. w j i) (sides (triangles k)) + total w (segments k)
unfolding even_case
case_balance k h w =
    let ds = sides (triangles k) in
    let ss = segments k in
    omega (
      arith,
      total_rearranged w (ds ++ map flip ss) (map flip ds ++ ss) (all_at cases (λ k. even_case (sides (triangles k)) (segments k)) every_case_even k h),
      total_append w ds (map flip ss),
      total_append w (map flip ds) ss,
      total_flip w ds,
      total_flip w ss,
    )
