-- A shell's box: a lone point's is its place, every point of the shell is in it, each of its six numbers is a coordinate of one of them, and none is beyond the limit on coordinates.
use mathlib.Core.Path.{◌≡◌, refl, subst}
use mathlib.Core.List.{List, [], ◌∷◌}
use mathlib.Core.Bool.{Bool}
use Prim.Native.Nat.{ℕ, ◌<◌, ◌≤◌}
use native.Mathlib.Omega.{arith}
use lib.Dec.{eqb}
use lib.ListN.{length, get_or}
use borrow.Author.Tests.{eq-eqb, eqb-true}
use Rattle.laws.specs.Range.{count_to, keep_to}
use Rattle.laws.specs.Least.{gathered, least_of, greatest_of}
use Rattle.laws.proofs.Keep.{length_keep, rank_lt, at_rank, kept_at}
use Rattle.laws.proofs.Least.{WorthAt, least_le, le_greatest, least_met, greatest_met, least_small, greatest_small}
use Rattle.grid.specs.Limits.{most_coordinate}
use Rattle.mesh.specs.Mesh.{triangles_of}
use Rattle.mesh.specs.Check.{mesh_number}
use Rattle.mesh.specs.declared.Place.{Place}
use Rattle.mesh.specs.Place.{place_of, Near}
use Rattle.mesh.proofs.Places.{near_place}
use Rattle.mesh.proofs.Passed.{passed}
use Rattle.records.specs.declared.Shell.{Shell}
use Rattle.shellnumbers.specs.Numbering.{number_of, Numbering}
use Rattle.records.specs.Record.{points_under, record_from, record_of}

-- the two corners of a record's box
abbrev pub least_corner : Shell → Place
least_corner s = record { x = s.least_x; y = s.least_y; z = s.least_z }

abbrev pub greatest_corner : Shell → Place
greatest_corner s = record { x = s.greatest_x; y = s.greatest_y; z = s.greatest_z }

-- no coordinate of a is greater than that of b
pub record NotBeyond (a b : Place) : Type 0 where
  pub x : a.x ≤ b.x
  pub y : a.y ≤ b.y
  pub z : a.z ≤ b.z

-- a place is in a record's box
pub record InBox (s : Shell) (at : Place) : Type 0 where
  pub from : NotBeyond (least_corner s) at
  pub to : NotBeyond at (greatest_corner s)

module _ (points triangles marks found : List ℕ) where
  -- a lone point's box is its own place
  pub lone_box : (p : ℕ) (ks : List ℕ) → let s = record_from points triangles marks (p ∷ []) ks in (least_corner s ≡ place_of points p) × (greatest_corner s ≡ place_of points p)
  unfolding record_from gathered
  lone_box p ks = (refl, refl)

  abbrev has : ℕ → ℕ → Bool
  has n p = eqb (number_of found p) n

  -- every point of shell n is in its box
  module _ (n p : ℕ) (small : p < length marks) (number : number_of found p ≡ n) where
    rank : count_to p (has n) < length (keep_to (length marks) (has n))
    rank = omega (arith, length_keep (length marks) (has n), rank_lt (length marks) p (has n) small (eq-eqb _ _ number))

    at : get_or (keep_to (length marks) (has n)) (count_to p (has n)) 0 ≡ p
    at = at_rank (length marks) p (has n) small (eq-eqb _ _ number)

    from : (v : ℕ → ℕ) → least_of v (points_under (length marks) found n) ≤ v p
    unfolding points_under
    from v = subst (λ q. least_of v (keep_to (length marks) (has n)) ≤ v q) at (least_le v 0 _ (count_to p (has n)) rank)

    to : (v : ℕ → ℕ) → v p ≤ greatest_of v (points_under (length marks) found n)
    unfolding points_under
    to v = subst (λ q. v q ≤ greatest_of v (keep_to (length marks) (has n))) at (le_greatest v 0 _ (count_to p (has n)) rank)

    pub box_holds : InBox (record_of points triangles marks found n) (place_of points p)
    unfolding record_from
    box_holds =
        let X : ℕ → ℕ = λ q. (place_of points q).x in
        let Y : ℕ → ℕ = λ q. (place_of points q).y in
        let Z : ℕ → ℕ = λ q. (place_of points q).z in
        record { from = record { x = from X; y = from Y; z = from Z }; to = record { x = to X; y = to Y; z = to Z } }

  -- a point of shell n, of which a coordinate is w
  pub record PointAt (v : Place → ℕ) (n w : ℕ) : Type 0 where
    pub point : ℕ
    pub small : point < length marks
    pub number : number_of found point ≡ n
    pub coordinate : v (place_of points point) ≡ w

  -- each of the six numbers of shell n's box is a coordinate of one of its points
  pub record BoxMet (n : ℕ) : Type 0 where
    pub least_x : PointAt (λ at. at.x) n (record_of points triangles marks found n).least_x
    pub greatest_x : PointAt (λ at. at.x) n (record_of points triangles marks found n).greatest_x
    pub least_y : PointAt (λ at. at.y) n (record_of points triangles marks found n).least_y
    pub greatest_y : PointAt (λ at. at.y) n (record_of points triangles marks found n).greatest_y
    pub least_z : PointAt (λ at. at.z) n (record_of points triangles marks found n).least_z
    pub greatest_z : PointAt (λ at. at.z) n (record_of points triangles marks found n).greatest_z

  point_at_lem : (v : Place → ℕ) (n w : ℕ) → WorthAt (λ q. v (place_of points q)) 0 (keep_to (length marks) (has n)) w → PointAt v n w
  point_at_lem v n w met =
      let r = kept_at (length marks) met.place (has n) (omega (arith, met.small, length_keep (length marks) (has n))) in
      record { point = _; small = r.small; number = eqb-true _ _ r.passes; coordinate = met.worth }

  -- so it is for every shell that is listed
  pub box_met : (shells : ℕ) → Numbering (triangles_of triangles) (length marks) found shells → (n : ℕ) → n < shells → BoxMet n
  unfolding record_from points_under
  box_met shells N n l =
      let u = N.used n l in
      let some : 0 < length (keep_to (length marks) (has n))
      = omega (arith, length_keep (length marks) (has n), rank_lt (length marks) u.point (has n) u.small (eq-eqb _ _ u.number)) in
      let low : (v : Place → ℕ) → PointAt v n (least_of (λ q. v (place_of points q)) (keep_to (length marks) (has n)))
      = λ v. point_at_lem v n _ (least_met (λ q. v (place_of points q)) 0 _ some) in
      let high : (v : Place → ℕ) → PointAt v n (greatest_of (λ q. v (place_of points q)) (keep_to (length marks) (has n)))
      = λ v. point_at_lem v n _ (greatest_met (λ q. v (place_of points q)) 0 _ some) in
      record {
        least_x = low (λ at. at.x);
        greatest_x = high (λ at. at.x);
        least_y = low (λ at. at.y);
        greatest_y = high (λ at. at.y);
        least_z = low (λ at. at.z);
        greatest_z = high (λ at. at.z);
      }

  -- in a mesh that passed no box goes beyond the limit
  pub box_small : mesh_number points triangles marks ≡ 0 → (n : ℕ) → Near (least_corner (record_of points triangles marks found n)) × Near (greatest_corner (record_of points triangles marks found n))
  unfolding record_from
  box_small passes n =
      let p : (q : ℕ) → Near (place_of points q) = near_place points (passed points triangles marks passes).coordinates_fit in
      let low : (v : ℕ → ℕ) → ((q : ℕ) → v q ≤ most_coordinate) → least_of v (points_under (length marks) found n) ≤ most_coordinate
      = λ v small. least_small v most_coordinate small _ in
      let high : (v : ℕ → ℕ) → ((q : ℕ) → v q ≤ most_coordinate) → greatest_of v (points_under (length marks) found n) ≤ most_coordinate
      = λ v small. greatest_small v most_coordinate small _ in
      (record { x = low _ (λ q. (p q).x); y = low _ (λ q. (p q).y); z = low _ (λ q. (p q).z) }, record { x = high _ (λ q. (p q).x); y = high _ (λ q. (p q).y); z = high _ (λ q. (p q).z) })
