-- A sample's coordinates, and the marks of the points on the edges that leave it.
use mathlib.Core.Path.{◌≡◌, refl, ap, ◌∙◌}
use mathlib.Core.Bool.{Bool, true, false, cond, ◌&&◌, ◌||◌}
use Prim.Native.Nat.{ℕ, ◌+◌, ◌*◌, ◌-◌, ◌/◌, ◌%◌, ◌<◌}
use native.Mathlib.Omega.{arith}
use lib.Dec.{eqb}
use Rattle.grid.specs.Grid.{Size, site, coordinate, side, along, axes, is_end, is_outermost, some_face, on_face_from}
use Rattle.grid.proofs.Sites.{choose, coordinate_site}

-- one test before two others, or before each of them
either : (a b c rest : Bool) → ((a && b) || ((a && c) || rest)) ≡ ((a && (b || c)) || rest)
either true true c rest = refl
either true false c rest = refl
either false b c rest = refl

last_either : (a b c : Bool) → ((a && b) || (a && c)) ≡ (a && (b || c))
last_either true b c = refl
last_either false b c = refl

module _ (n : Size) (s x y z : ℕ) (is : s ≡ x + n.nx * (y + n.ny * z)) (hx : x < n.nx) (hy : y < n.ny) (hz : z < n.nz) where
  pub stands : (axis : ℕ) → coordinate n axis s ≡ choose axis x y z
  unfolding site
  stands axis = rw is (coordinate_site n x y z hx hy hz axis)

  on_face_lem : (d axis : ℕ) (last : Bool) → on_face_from axes n axis last s d
      ≡ (eqb (along d axis) 0 && eqb (choose axis x y z) (cond last (side n axis - 1) 0))
  unfolding on_face_from is_outermost
  on_face_lem d axis last = rw (stands axis)

  pub some_face_lem : (d : ℕ) → some_face (λ axis last. on_face_from axes n axis last s d)
      ≡ ((eqb (d % 2) 0 && is_end x n.nx) || ((eqb (d / 2 % 2) 0 && is_end y n.ny) || (eqb (d / 4 % 2) 0 && is_end z n.nz)))
  unfolding some_face side
  some_face_lem d =
      let whole : d / 1 % 2 ≡ d % 2 = omega arith in
      rw (on_face_lem d 0 false, on_face_lem d 0 true, on_face_lem d 1 false, on_face_lem d 1 true, on_face_lem d 2 false, on_face_lem d 2 true, whole)
      (either (eqb (d % 2) 0) (eqb x 0) (eqb x (n.nx - 1)) _
      ∙ ap (λ r. (eqb (d % 2) 0 && is_end x n.nx) || r) (either (eqb (d / 2 % 2) 0) (eqb y 0) (eqb y (n.ny - 1)) _)
      ∙ ap (λ r. (eqb (d % 2) 0 && is_end x n.nx) || ((eqb (d / 2 % 2) 0 && is_end y n.ny) || r)) (last_either (eqb (d / 4 % 2) 0) (eqb z 0) (eqb z (n.nz - 1))))
