-- What the segments of a mode's faces weigh together: where the faces fit, they are those of the low sides, those of the high sides turned round, and the inner ones both ways.
use mathlib.Core.Path.{◌≡◌, refl, sym, ◌∙◌}
use mathlib.Core.List.{List, [], ◌∷◌, ◌++◌, map}
use mathlib.Core.Bool.{Bool, true, ◌&&◌, false≢true}
use Prim.Native.Nat.{ℕ, ◌+◌, ◌^◌, min, max}
use native.Mathlib.Omega.{arith}
use lib.Dec.{eqb}
use borrow.Author.Tests.{eqb-true}
use Rattle.laws.specs.Sum.{sum_of, all_of, All}
use Rattle.laws.specs.Order.{rearranged}
use Rattle.laws.specs.Mesh.{Arrow, arrow, total}
use Rattle.laws.proofs.Tests.{both, all_of_lem}
use Rattle.laws.proofs.Sums.{sum_append, sum_flat}
use Rattle.laws.proofs.Rearranged.{sum_rearranged}
use Rattle.cube.specs.Face.{go_round, face_segments, segments_of, back}
use Rattle.grid.specs.Grid.{along}
use Rattle.grid.specs.Mode.{Mode, direction_of, high}
use Rattle.grid.proofs.Edges.{is_cube_edge, cube_edge}
use Rattle.closed.specs.Pattern.{Ring, further, Pattern, same_ring, and_back, fitted, TurnsRound, LowEdge, Owed}

same_ring_lem : (r s : Ring) → same_ring r s ≡ true → r ≡ s
unfolding same_ring
same_ring_lem [] [] h = refl
same_ring_lem [] (d ∷ ds) h = absurd (false≢true h)
same_ring_lem (c ∷ cs) [] h = absurd (false≢true h)
same_ring_lem (c ∷ cs) (d ∷ ds) h =
    let p = both (eqb c d) (same_ring cs ds) h in
    rw (eqb-true c d p.0, same_ring_lem cs ds p.1)

-- what the segments of rings weigh: ring by ring, so in any order and of two lists together, and from the other side
module _ (above : ℕ → Bool) (edge : ℕ → ℕ → ℕ) (w : ℕ → ℕ → ℕ) where
  abbrev weight : Ring → ℕ
  weight r = total w (face_segments above edge r)

  pub ring_by_ring : (rs : List Ring) → total w (segments_of above edge rs) ≡ sum_of weight rs
  unfolding total segments_of
  ring_by_ring rs = sum_flat (λ a. w a.from a.to) (face_segments above edge) rs

  rings_rearranged : (rs ss : List Ring) → rearranged same_ring rs ss ≡ true → total w (segments_of above edge rs) ≡ total w (segments_of above edge ss)
  rings_rearranged rs ss h = ring_by_ring rs ∙ sum_rearranged same_ring same_ring_lem weight rs ss h ∙ sym (ring_by_ring ss)

  rings_append : (rs ss : List Ring)
      → total w (segments_of above edge (rs ++ ss)) ≡ total w (segments_of above edge rs) + total w (segments_of above edge ss)
  rings_append rs ss = ring_by_ring (rs ++ ss) ∙ sum_append weight rs ss ∙ omega (arith, ring_by_ring rs, ring_by_ring ss)

rings_back : (above : ℕ → Bool) (edge : ℕ → ℕ → ℕ) (w : ℕ → ℕ → ℕ) (rs : List Ring) → All (TurnsRound edge) rs
    → sum_of (weight above edge w) (map back rs) ≡ sum_of (weight above edge (λ i j. w j i)) rs
unfolding sum_of
rings_back above edge w [] turns = refl
rings_back above edge w (r ∷ rs) turns = omega (arith, turns.0 above w, rings_back above edge w rs turns.1)

rings_and_back : (above : ℕ → Bool) (edge : ℕ → ℕ → ℕ) (w : ℕ → ℕ → ℕ) (rs ss : List Ring) → All (TurnsRound edge) ss
    → total w (segments_of above edge (and_back rs ss)) ≡ total w (segments_of above edge rs) + total (λ i j. w j i) (segments_of above edge ss)
unfolding and_back
rings_and_back above edge w rs ss turns =
    omega (
      arith,
      rings_append above edge w rs (map back ss),
      ring_by_ring above edge w (map back ss),
      rings_back above edge w ss turns,
      ring_by_ring above edge (λ i j. w j i) ss,
    )

-- so of a mode's faces: the low sides, the high sides turned round, and the inner faces both ways
pub faces_parted : {m : Mode} (owed : Owed m) (above : ℕ → Bool) (w : ℕ → ℕ → ℕ)
    → let p = owed.pattern in
    let there : List Ring → ℕ = λ rs. total w (segments_of above p.edge rs) in
    let back : List Ring → ℕ = λ rs. total (λ i j. w j i) (segments_of above p.edge rs) in
    there p.faces
    ≡ there p.low_x + back (map (further 1) p.low_x)
    + (there p.low_y + back (map (further 2) p.low_y))
    + (there p.low_z + back (map (further 4) p.low_z))
    + (there p.inner + back p.inner)
unfolding fitted
faces_parted owed above w =
    let p = owed.pattern in
    let edge = p.edge in
    let xs = and_back p.low_x (map (further 1) p.low_x) in
    let ys = and_back p.low_y (map (further 2) p.low_y) in
    let zs = and_back p.low_z (map (further 4) p.low_z) in
    let is = and_back p.inner p.inner in
    rings_rearranged above edge w p.faces (fitted p) owed.fit
    ∙ omega (
      arith,
      rings_append above edge w xs (ys ++ (zs ++ is)),
      rings_append above edge w ys (zs ++ is),
      rings_append above edge w zs is,
      rings_and_back above edge w p.low_x (map (further 1) p.low_x) owed.turn_x,
      rings_and_back above edge w p.low_y (map (further 2) p.low_y) owed.turn_y,
      rings_and_back above edge w p.low_z (map (further 4) p.low_z) owed.turn_z,
      rings_and_back above edge w p.inner p.inner owed.turn_inner,
    )

-- what is owed of the edges at a low side, as a test to be computed
unfoldable pub is_low_edge : Mode → Pattern → ℕ → Arrow → Bool
is_low_edge m p axis s =
    let e = p.edge s.from s.to in
    let f = p.edge (s.from + 2 ^ axis) (s.to + 2 ^ axis) in
    is_cube_edge m e
    && (eqb (m.low e) (min s.from s.to)
    && (eqb (high m e) (max s.from s.to)
    && (eqb (along s.from axis) 0
    && (eqb (along s.to axis) 0
    && (eqb (along (direction_of m e) axis) 0 && (eqb (m.low f) (m.low e + 2 ^ axis) && eqb (m.code f) (m.code e)))))))

unfoldable pub sides_lie : Mode → Pattern → ℕ → List Ring → Bool
sides_lie m p axis rs = all_of (λ r. all_of (is_low_edge m p axis) (go_round arrow r)) rs

low_edge : (m : Mode) (p : Pattern) (axis : ℕ) (s : Arrow) → is_low_edge m p axis s ≡ true → LowEdge m p axis s
unfolding is_low_edge
low_edge m p axis s h =
    let e = p.edge s.from s.to in
    let a = both (is_cube_edge m e) _ h in
    let b = both (eqb (m.low e) _) _ a.1 in
    let c = both (eqb (high m e) _) _ b.1 in
    let d = both (eqb (along s.from axis) 0) _ c.1 in
    let f = both (eqb (along s.to axis) 0) _ d.1 in
    let g = both (eqb (along (direction_of m e) axis) 0) _ f.1 in
    let i = both _ (eqb _ (m.code e)) g.1 in
    record {
      edge = cube_edge m e a.0;
      leaves = eqb-true _ _ b.0;
      comes = eqb-true _ _ c.0;
      from_low = eqb-true _ _ d.0;
      to_low = eqb-true _ _ f.0;
      flat = eqb-true _ _ g.0;
      before_low = eqb-true _ _ i.0;
      before_code = eqb-true _ _ i.1;
    }

pub sides_lie_lem : (m : Mode) (p : Pattern) (axis : ℕ) (rs : List Ring) → sides_lie m p axis rs ≡ true → All (λ r. All (LowEdge m p axis) (go_round arrow r)) rs
unfolding sides_lie
sides_lie_lem m p axis rs h =
    all_of_lem (λ r. all_of (is_low_edge m p axis) (go_round arrow r)) (λ r. All (LowEdge m p axis) (go_round arrow r))
    (λ r t. all_of_lem (is_low_edge m p axis) (LowEdge m p axis) (low_edge m p axis) (go_round arrow r) t) rs h
