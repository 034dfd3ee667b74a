-- Crossed edges by the coordinates of the sample that they leave, and by which samples are above.
use mathlib.Core.Path.{◌≡◌, refl, ap, ap₂, sym, ◌∙◌, fun_ext}
use mathlib.Core.Bool.{Bool, true, false, ◌&&◌, xor, and-true, and-false, false≢true}
use Prim.Native.Nat.{ℕ, ◌+◌, ◌*◌, ◌/◌, ◌%◌, ◌<◌, ◌≤◌}
use native.Mathlib.Nat.{mul-zero, add-zero, add_comm, zero-add, mul-one, mul_comm, le-div_iff_mul-le}
use native.Mathlib.Decide.{dec_lt}
use native.Mathlib.Omega.{arith}
use lib.Dec.{ltb}
use borrow.Author.Tests.{lt-ltb, le-ltb, ltb-true}
use Rattle.laws.proofs.Tests.{both}
use Rattle.laws.proofs.Digits.{low_mod, low_div, low_lt}
use Rattle.grid.specs.Grid.{Size, sample_count, site, coordinate, side, Kind, axes, along, other_end, fits_along, is_there, crossed_from, crossed, on_face_from, on_face}
use Rattle.grid.proofs.Sites.{choose, site_add, site_of, site_small, coordinate_site}

-- an edge's number has its sample and its code
module _ (many s a : ℕ) (h : a < many) where
  pub edge_sample : (many * s + a) / many ≡ s
  edge_sample = rw (add_comm (many * s) a) (low_div a many s h)

  pub edge_code : (many * s + a) % many ≡ a
  edge_code = rw (add_comm (many * s) a) (low_mod a many s h)

  pub edge_small : (samples : ℕ) → s < samples → many * s + a < many * samples
  edge_small samples l = rw (add_comm (many * s) a) (low_lt a many s samples h l)

-- so what is said of an edge by its number is said of the edge that leaves the sample in its direction
module _ (k : Kind) (n : Size) (s a : ℕ) (h : a < k.many) where
  pub crossed_at : (above : ℕ → Bool) → crossed k n above (k.many * s + a) ≡ crossed_from k n above s (k.direction a)
  unfolding crossed
  crossed_at above = ap₂ (λ s a. crossed_from k n above s (k.direction a)) (edge_sample k.many s a h) (edge_code k.many s a h)

  pub on_face_at : (axis : ℕ) (last : Bool) → on_face k n axis last (k.many * s + a) ≡ on_face_from k n axis last s (k.direction a)
  unfolding on_face
  on_face_at axis last = ap₂ (λ s a. on_face_from k n axis last s (k.direction a)) (edge_sample k.many s a h) (edge_code k.many s a h)

-- a sample that stays where it is along an axis is there
pub stays : (c side : ℕ) → c < side → ltb (c + 0) side ≡ true
stays c side h = lt-ltb (c + 0) side (omega arith)

-- one sample along each axis
module _ (n : Size) where
  pub step_x : site n 1 0 0 ≡ 1
  unfolding site
  step_x = simp (mul-zero, add-zero)

  pub step_y : site n 0 1 0 ≡ n.nx
  unfolding site
  step_y = simp (mul-zero, add-zero, zero-add, mul-one)

  pub step_z : site n 0 0 1 ≡ n.nx * n.ny
  unfolding site
  step_z = simp (mul-one, zero-add)

module _ (n : Size) (above : ℕ → Bool) where
  -- of the three tests whether a sample is there, only the one along the edge can fail
  module _ (x y z : ℕ) (hx : x < n.nx) (hy : y < n.ny) (hz : z < n.nz) where
    abbrev s : ℕ
    s = site n x y z

    fits : (d axis : ℕ) → fits_along n s d axis ≡ ltb (choose axis x y z + along d axis) (side n axis)
    unfolding fits_along
    fits d axis = rw (coordinate_site n x y z hx hy hz axis)

    tested : (d : ℕ) → crossed_from axes n above s d
        ≡ ((ltb (x + along d 0) n.nx && (ltb (y + along d 1) n.ny && ltb (z + along d 2) n.nz))
        && xor (above s) (above (s + site n (along d 0) (along d 1) (along d 2))))
    unfolding crossed_from is_there other_end side
    tested d = rw (fits d 0, fits d 1, fits d 2)

    pub crossed_x : crossed axes n above (3 * s) ≡ (ltb (x + 1) n.nx && xor (above s) (above (s + 1)))
    crossed_x =
        let e : 3 * s ≡ 3 * s + 0 = omega arith in
        ap (crossed axes n above) e
        ∙ crossed_at axes n s 0 (omega arith) above
        ∙ tested 1
        ∙ rw (stays y n.ny hy, stays z n.nz hz, and-true, step_x n)

    pub crossed_y : crossed axes n above (3 * s + 1) ≡ (ltb (y + 1) n.ny && xor (above s) (above (s + n.nx)))
    crossed_y = crossed_at axes n s 1 (omega arith) above ∙ tested 2 ∙ rw (stays x n.nx hx, stays z n.nz hz, and-true, step_y n)

    pub crossed_z : crossed axes n above (3 * s + 2) ≡ (ltb (z + 1) n.nz && xor (above s) (above (s + n.nx * n.ny)))
    crossed_z = crossed_at axes n s 2 (omega arith) above ∙ tested 4 ∙ rw (stays x n.nx hx, stays y n.ny hy, step_z n)

-- where a sample is there at an edge's other end, it is one of the grid's
pub there_small : (n : Size) (s d : ℕ) → is_there n s d ≡ true → other_end n s d < sample_count n
unfolding is_there fits_along other_end side
there_small n s d t =
    let p = both (ltb (coordinate n 0 s + along d 0) n.nx) _ t in
    let q = both (ltb (coordinate n 1 s + along d 1) n.ny) _ p.1 in
    let r =
    site_small n (coordinate n 0 s + along d 0) (coordinate n 1 s + along d 1) (coordinate n 2 s + along d 2) (ltb-true _ _ p.0)
    (ltb-true _ _ q.0)
    (ltb-true _ _ q.1) in
    rw (site_add n (coordinate n 0 s) (coordinate n 1 s) (coordinate n 2 s) (along d 0) (along d 1) (along d 2), site_of n s) at r

-- which edges are crossed depends on the samples of the grid alone
module _ (k : Kind) (n : Size) (px : 0 < n.nx) (py : 0 < n.ny) (above other : ℕ → Bool)
    (same : (s : ℕ) → s < sample_count n → above s ≡ other s) where
  -- no edge leaves a sample beyond the grid
  beyond : (s d : ℕ) → sample_count n ≤ s → is_there n s d ≡ false
  unfolding is_there fits_along coordinate side
  beyond s d h =
      let a : n.nz * n.ny * n.nx ≤ s = rw (mul_comm n.nz n.ny, mul_comm (n.ny * n.nz) n.nx) h in
      let b : n.nz ≤ s / n.nx / n.ny = (le-div_iff_mul-le py).1 ((le-div_iff_mul-le px).1 a) in
      rw (le-ltb (s / n.nx / n.ny + along d 2) n.nz (omega arith), and-false, and-false)

  crossed_same : (s d : ℕ) → crossed_from k n above s d ≡ crossed_from k n other s d
  unfolding crossed_from
  crossed_same s d = go (is_there n s d) refl (dec_lt s (sample_count n))
    where
      go : (b : Bool) → is_there n s d ≡ b → Dec (s < sample_count n)
          → (b && xor (above s) (above (other_end n s d))) ≡ (b && xor (other s) (other (other_end n s d)))
      go true t (yes h) = ap₂ xor (same s h) (same (other_end n s d) (there_small n s d t))
      go true t (no h) = absurd (false≢true (sym (beyond s d (omega arith)) ∙ t))
      go false t d = refl

  pub crossed_cong : crossed k n above ≡ crossed k n other
  unfolding crossed
  crossed_cong = fun_ext (λ e. crossed_same (e / k.many) (k.direction (e % k.many)))
