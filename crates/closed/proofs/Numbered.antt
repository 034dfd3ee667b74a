-- From grid edges to points: where cells keep the law of cells, and the segments of the outer faces end there, triangles between points balance. The
-- grid edges may be of any kind, and the cells cut in any way.
use mathlib.Core.Path.{◌≡◌, refl, ap, sym, ◌∙◌}
use mathlib.Core.List.{List, map}
use mathlib.Core.Bool.{Bool, true, false, ◌&&◌, and_comm, false≢true}
use Prim.Native.Nat.{ℕ, zero, suc, ◌<◌}
use native.Mathlib.Omega.{arith}
use lib.Dec.{eqb}
use lib.ListN.{get_or}
use borrow.Author.Tests.{eqb-true}
use Rattle.laws.specs.Range.{one_if, join_box}
use Rattle.laws.specs.Mesh.{Arrow, Triangle, rename, sides, total}
use Rattle.laws.proofs.Tests.{neither, is_none}
use Rattle.laws.proofs.Sides.{total_rename}
use Rattle.grid.specs.Grid.{Size, Kind, edge_count, crossed, on_face, some_face, mark}
use Rattle.grid.specs.Point.{point_edges, number}
use Rattle.grid.proofs.Points.{edge_of_number}
use Rattle.closed.specs.Runs.{runs, Even, on_one_face, Balanced}
use Rattle.closed.proofs.Law.{CellLaw, OuterLaw, closed_law}

-- a crossed edge of the grid that lies on the first or the last outer face across an axis
pub record OnRim (k : Kind) (n : Size) (above : ℕ → Bool) (axis : ℕ) (last : Bool) (e : ℕ) : Type 0 where
  pub small : e < edge_count k n
  pub cut : crossed k n above e ≡ true
  pub flat : on_face k n axis last e ≡ true

-- where no outer face passes a test, each fails it
none_of : (t : ℕ → Bool → Bool) → some_face t ≡ false → (axis : ℕ) (last : Bool) → axis < 3 → t axis last ≡ false
unfolding some_face
none_of t h axis last l =
    let a = neither (t 0 false) _ h in
    let b = neither (t 0 true) _ a.1 in
    let c = neither (t 1 false) _ b.1 in
    let d = neither (t 1 true) _ c.1 in
    let e = neither (t 2 false) (t 2 true) d.1 in
    pick axis last l a.0 b.0 c.0 d.0 e.0 e.1
  where
    pick : (axis : ℕ) (last : Bool) → axis < 3 → t 0 false ≡ false → t 0 true ≡ false → t 1 false ≡ false → t 1 true ≡ false → t 2 false ≡ false
        → t 2 true ≡ false → t axis last ≡ false
    pick zero false l a b c d e f = a
    pick zero true l a b c d e f = b
    pick (suc zero) false l a b c d e f = c
    pick (suc zero) true l a b c d e f = d
    pick (suc (suc zero)) false l a b c d e f = e
    pick (suc (suc zero)) true l a b c d e f = f
    pick (suc (suc (suc axis))) last l a b c d e f = absurd (omega arith)

module _ (k : Kind) (n : Size) (above : ℕ → Bool) where
  -- the grid edge of a point
  abbrev edge_of : ℕ → ℕ
  edge_of p = get_or (point_edges k n above) p 0

  -- two points lie on no common outer face
  abbrev Apart : ℕ → ℕ → Type 0
  Apart p q = (axis : ℕ) (last : Bool) → axis < 3 → on_face k n axis last (edge_of p) ≡ true → on_face k n axis last (edge_of q) ≡ true → ⊥

  apart_by_faces : (p q : ℕ) → on_one_face k n (edge_of p) (edge_of q) ≡ false → Apart p q
  unfolding on_one_face
  apart_by_faces p q h axis last l a b =
      false≢true (sym (none_of (λ axis last. on_face k n axis last (edge_of p) && on_face k n axis last (edge_of q)) h axis last l) ∙ rw (a, b))

  apart_by_mark : (p q : ℕ) → mark k n (edge_of p) ≡ 0 → Apart p q
  unfolding mark
  apart_by_mark p q h axis last l a b =
      false≢true (sym (none_of (λ axis last. on_face k n axis last (edge_of p)) (is_none _ h) axis last l) ∙ a)

  module _ (p q : ℕ) (apart : Apart p q) where
    -- one for an arrow between grid edges whose points are p and q: nothing, if both edges are on one outer face
    abbrev from_to : ℕ → ℕ → ℕ
    from_to i j = one_if (eqb (number k n above i) p && eqb (number k n above j) q)

    weightless : (axis : ℕ) (last : Bool) (i j : ℕ) → axis < 3 → OnRim k n above axis last i → OnRim k n above axis last j → from_to i j ≡ 0
    weightless axis last i j l a b = go (eqb (number k n above i) p) refl (eqb (number k n above j) q) refl
      where
        point_on_face : (r e : ℕ) → OnRim k n above axis last e → eqb (number k n above e) r ≡ true → on_face k n axis last (edge_of r) ≡ true
        point_on_face r e on t =
            let is : edge_of r ≡ e = ap edge_of (sym (eqb-true (number k n above e) r t)) ∙ edge_of_number k n above e on.small on.cut in
            rw is on.flat

        go : (s : Bool) → eqb (number k n above i) p ≡ s → (t : Bool) → eqb (number k n above j) q ≡ t → one_if (s && t) ≡ 0
        go true e true f = absurd (apart axis last l (point_on_face p i a e) (point_on_face q j b f))
        go true e false f = refl
        go false e true f = refl
        go false e false f = refl

    module _ (nx ny nz : ℕ) (made : ℕ → ℕ → ℕ → List Triangle) (across-x across-y across-z : ℕ → ℕ → ℕ → List Arrow)
        (law : CellLaw nx ny nz made across-x across-y across-z) (outer : OuterLaw nx ny nz made across-x across-y across-z (OnRim k n above)) where
      pub apart_even : Even (map (rename (number k n above)) (join_box nx ny nz made)) p q
      unfolding runs
      apart_even =
          let ts = join_box nx ny nz made in
          total_rename (λ a b. one_if (eqb a p && eqb b q)) (number k n above) ts
          ∙ closed_law nx ny nz made across-x across-y across-z (OnRim k n above) law outer from_to weightless
          ∙ ap (λ w. total w (sides ts)) (λ i a b. one_if (and_comm (eqb (number k n above b) p) (eqb (number k n above a) q) i))
          ∙ sym (total_rename (λ a b. one_if (eqb a q && eqb b p)) (number k n above) ts)

  -- the balance, for cells of any kind
  module _ (nx ny nz : ℕ) (made : ℕ → ℕ → ℕ → List Triangle) (across-x across-y across-z : ℕ → ℕ → ℕ → List Arrow)
      (law : CellLaw nx ny nz made across-x across-y across-z) (outer : OuterLaw nx ny nz made across-x across-y across-z (OnRim k n above)) where
    pub cells_balanced : Balanced k n (point_edges k n above) (map (rename (number k n above)) (join_box nx ny nz made))
    cells_balanced p q hp hq h = apart_even p q (apart_by_faces p q h) nx ny nz made across-x across-y across-z law outer

    pub cells_unmarked : (p q : ℕ) → mark k n (edge_of p) ≡ 0 → Even (map (rename (number k n above)) (join_box nx ny nz made)) p q
    cells_unmarked p q h = apart_even p q (apart_by_mark p q h) nx ny nz made across-x across-y across-z law outer
