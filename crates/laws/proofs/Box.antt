-- Cells stand in a box, and something flows each way through the faces between them. Nothing here knows what a cell or a face is.
use mathlib.Core.Path.{◌≡◌, ◌∙◌}
use mathlib.Core.List.{List, [], ◌++◌, map, flat_map}
use mathlib.Core.Bool.{Bool, true, false}
use Prim.Native.Nat.{ℕ, zero, suc, ◌+◌, ◌<◌}
use native.Mathlib.Numerals.{add-one}
use native.Mathlib.Omega.{arith}
use lib.ListN.{length}
use Rattle.laws.specs.Range.{sum_to, join_to, join_box}
use Rattle.laws.proofs.Ranges.{sum_cong, sum_add, sum_none, join_cong, length_join, map_join, flat_join}

-- moved on by one, a sum loses its first term and gains one past its last
pub sum_shift : (n : ℕ) (f : ℕ → ℕ) → sum_to n f + f n ≡ f 0 + sum_to n (λ i. f (i + 1))
unfolding sum_to
sum_shift zero f = omega arith
sum_shift (suc n) f =
    let next : f (n + 1) ≡ f (suc n) = rw add-one in
    omega (arith, sum_shift n f)

-- a measure of lists that adds over two lists adds over a join
pub measure_join : {A : Type 0} (m : List A → ℕ) → m [] ≡ 0 → ((xs ys : List A) → m (xs ++ ys) ≡ m xs + m ys) → (n : ℕ) (f : ℕ → List A)
    → m (join_to n f) ≡ sum_to n (λ i. m (f i))
unfolding sum_to join_to
measure_join m none both zero f = none
measure_join m none both (suc n) f = both (join_to n f) (f n) ∙ omega (arith, measure_join m none both n f)

module _ (nx ny nz : ℕ) where
  -- the sum over all cells
  unfoldable pub sum_box : (ℕ → ℕ → ℕ → ℕ) → ℕ
  sum_box f = sum_to nz (λ z. sum_to ny (λ y. sum_to nx (λ x. f x y z)))

  pub sum_box_cong : (f g : ℕ → ℕ → ℕ → ℕ) → ((x y z : ℕ) → x < nx → y < ny → z < nz → f x y z ≡ g x y z) → sum_box f ≡ sum_box g
  unfolding sum_box
  sum_box_cong f g h = sum_cong nz _ _ (λ z hz. sum_cong ny _ _ (λ y hy. sum_cong nx _ _ (λ x hx. h x y z hx hy hz)))

  box_add : (f g : ℕ → ℕ → ℕ → ℕ) → sum_box (λ x y z. f x y z + g x y z) ≡ sum_box f + sum_box g
  unfolding sum_box
  box_add f g =
      sum_cong nz _ _ (λ z hz. sum_cong ny _ _ (λ y hy. sum_add nx (λ x. f x y z) (λ x. g x y z)) ∙ sum_add ny _ _)
      ∙ sum_add nz _ _

  pub measure_box : {A : Type 0} (m : List A → ℕ) → m [] ≡ 0 → ((xs ys : List A) → m (xs ++ ys) ≡ m xs + m ys) → (f : ℕ → ℕ → ℕ → List A)
      → m (join_box nx ny nz f) ≡ sum_box (λ x y z. m (f x y z))
  unfolding sum_box join_box
  measure_box m none both f =
      measure_join m none both nz _
      ∙ sum_cong nz _ _ (λ z hz. measure_join m none both ny _ ∙ sum_cong ny _ _ (λ y hy. measure_join m none both nx _))

  -- where the first term and the one past the last are nothing, a sum may be moved on by one
  shift : (n : ℕ) (f : ℕ → ℕ) → f 0 ≡ 0 → f n ≡ 0 → sum_to n f ≡ sum_to n (λ i. f (i + 1))
  shift n f a b = omega (arith, sum_shift n f)

  shift_x : (f : ℕ → ℕ → ℕ → ℕ) → ((y z : ℕ) → y < ny → z < nz → f 0 y z ≡ 0) → ((y z : ℕ) → y < ny → z < nz → f nx y z ≡ 0)
      → sum_box f ≡ sum_box (λ x y z. f (x + 1) y z)
  unfolding sum_box
  shift_x f a b = sum_cong nz _ _ (λ z hz. sum_cong ny _ _ (λ y hy. shift nx (λ x. f x y z) (a y z hy hz) (b y z hy hz)))

  shift_y : (f : ℕ → ℕ → ℕ → ℕ) → ((x z : ℕ) → x < nx → z < nz → f x 0 z ≡ 0) → ((x z : ℕ) → x < nx → z < nz → f x ny z ≡ 0)
      → sum_box f ≡ sum_box (λ x y z. f x (y + 1) z)
  unfolding sum_box
  shift_y f a b =
      sum_cong nz _ _
      (λ z hz. shift ny (λ y. sum_to nx (λ x. f x y z)) (sum_none nx _ (λ x hx. a x z hx hz)) (sum_none nx _ (λ x hx. b x z hx hz)))

  shift_z : (f : ℕ → ℕ → ℕ → ℕ) → ((x y : ℕ) → x < nx → y < ny → f x y 0 ≡ 0) → ((x y : ℕ) → x < nx → y < ny → f x y nz ≡ 0)
      → sum_box f ≡ sum_box (λ x y z. f x y (z + 1))
  unfolding sum_box
  shift_z f a b =
      shift nz (λ z. sum_to ny (λ y. sum_to nx (λ x. f x y z)))
      (sum_none ny _ (λ y hy. sum_none nx _ (λ x hx. a x y hx hy)))
      (sum_none ny _ (λ y hy. sum_none nx _ (λ x hx. b x y hx hy)))

  add7 : (a b c d e f g : ℕ → ℕ → ℕ → ℕ)
      → sum_box (λ x y z. a x y z + (b x y z + c x y z + (d x y z + e x y z) + (f x y z + g x y z)))
      ≡ sum_box a + (sum_box b + sum_box c + (sum_box d + sum_box e) + (sum_box f + sum_box g))
  add7 a b c d e f g =
      omega (
        arith,
        box_add b c,
        box_add d e,
        box_add f g,
        box_add (λ x y z. b x y z + c x y z) (λ x y z. d x y z + e x y z),
        box_add (λ x y z. b x y z + c x y z + (d x y z + e x y z)) (λ x y z. f x y z + g x y z),
        box_add a (λ x y z. b x y z + c x y z + (d x y z + e x y z) + (f x y z + g x y z)),
      )

  -- `made w` is what a cell makes the way w, there or back, and `u`, `v`, `t` what flows that way through the faces across x, y, z: through the
  -- cell's face towards the smaller coordinate as said there, and through that towards the larger as said at the next cell, turned round
  module _ (made u v t : Bool → ℕ → ℕ → ℕ → ℕ) where
    abbrev pub CellEven : Type 0
    CellEven = (x y z : ℕ) → x < nx → y < ny → z < nz
        → made true x y z + (u false x y z + u true (x + 1) y z + (v false x y z + v true x (y + 1) z) + (t false x y z + t true x y (z + 1)))
        ≡ made false x y z + (u true x y z + u false (x + 1) y z + (v true x y z + v false x (y + 1) z) + (t true x y z + t false x y (z + 1)))

    -- nothing flows through the outer faces
    pub record Shut : Type 0 where
      pub x_first : (w : Bool) (y z : ℕ) → y < ny → z < nz → u w 0 y z ≡ 0
      pub x_last : (w : Bool) (y z : ℕ) → y < ny → z < nz → u w nx y z ≡ 0
      pub y_first : (w : Bool) (x z : ℕ) → x < nx → z < nz → v w x 0 z ≡ 0
      pub y_last : (w : Bool) (x z : ℕ) → x < nx → z < nz → v w x ny z ≡ 0
      pub z_first : (w : Bool) (x y : ℕ) → x < nx → y < ny → t w x y 0 ≡ 0
      pub z_last : (w : Bool) (x y : ℕ) → x < nx → y < ny → t w x y nz ≡ 0

    -- then all cells together make as much there as back
    pub box_even : CellEven → Shut → sum_box (made true) ≡ sum_box (made false)
    box_even cell shut =
        omega (
          arith,
          sum_box_cong _ _ cell,
          add7 (made true) (u false) (λ x y z. u true (x + 1) y z) (v false) (λ x y z. v true x (y + 1) z) (t false) (λ x y z. t true x y (z + 1)),
          add7 (made false) (u true) (λ x y z. u false (x + 1) y z) (v true) (λ x y z. v false x (y + 1) z) (t true) (λ x y z. t false x y (z + 1)),
          shift_x (u true) (shut.x_first true) (shut.x_last true),
          shift_x (u false) (shut.x_first false) (shut.x_last false),
          shift_y (v true) (shut.y_first true) (shut.y_last true),
          shift_y (v false) (shut.y_first false) (shut.y_last false),
          shift_z (t true) (shut.z_first true) (shut.z_last true),
          shift_z (t false) (shut.z_first false) (shut.z_last false),
        )

-- lists joined over the cells of a box
module _ {A : Type 0} (nx ny nz : ℕ) where
  pub length_box : (f : ℕ → ℕ → ℕ → List A) → length (join_box nx ny nz f) ≡ sum_to nz (λ z. sum_to ny (λ y. sum_to nx (λ x. length (f x y z))))
  unfolding join_box
  length_box f =
      length_join nz (λ z. join_to ny (λ y. join_to nx (λ x. f x y z)))
      ∙ sum_cong nz (λ z. length (join_to ny (λ y. join_to nx (λ x. f x y z)))) (λ z. sum_to ny (λ y. sum_to nx (λ x. length (f x y z))))
      (λ z lz. length_join ny (λ y. join_to nx (λ x. f x y z))
      ∙ sum_cong ny (λ y. length (join_to nx (λ x. f x y z))) (λ y. sum_to nx (λ x. length (f x y z))) (λ y ly. length_join nx (λ x. f x y z)))

  pub join_box_cong : (f g : ℕ → ℕ → ℕ → List A) → ((x y z : ℕ) → x < nx → y < ny → z < nz → f x y z ≡ g x y z)
      → join_box nx ny nz f ≡ join_box nx ny nz g
  unfolding join_box
  join_box_cong f g h =
      join_cong nz (λ z. join_to ny (λ y. join_to nx (λ x. f x y z))) (λ z. join_to ny (λ y. join_to nx (λ x. g x y z)))
      (λ z lz. join_cong ny (λ y. join_to nx (λ x. f x y z)) (λ y. join_to nx (λ x. g x y z))
      (λ y ly. join_cong nx (λ x. f x y z) (λ x. g x y z) (λ x lx. h x y z lx ly lz)))

  pub map_box : {B : Type 0} (g : A → B) (f : ℕ → ℕ → ℕ → List A) → map g (join_box nx ny nz f) ≡ join_box nx ny nz (λ x y z. map g (f x y z))
  unfolding join_box
  map_box g f =
      map_join g nz (λ z. join_to ny (λ y. join_to nx (λ x. f x y z)))
      ∙ join_cong nz (λ z. map g (join_to ny (λ y. join_to nx (λ x. f x y z)))) (λ z. join_to ny (λ y. join_to nx (λ x. map g (f x y z))))
      (λ z lz. map_join g ny (λ y. join_to nx (λ x. f x y z))
      ∙ join_cong ny (λ y. map g (join_to nx (λ x. f x y z))) (λ y. join_to nx (λ x. map g (f x y z))) (λ y ly. map_join g nx (λ x. f x y z)))

  pub flat_box : {B : Type 0} (g : A → List B) (f : ℕ → ℕ → ℕ → List A) → flat_map g (join_box nx ny nz f) ≡ join_box nx ny nz (λ x y z. flat_map g (f x y z))
  unfolding join_box
  flat_box g f =
      flat_join g nz (λ z. join_to ny (λ y. join_to nx (λ x. f x y z)))
      ∙ join_cong nz (λ z. flat_map g (join_to ny (λ y. join_to nx (λ x. f x y z)))) (λ z. join_to ny (λ y. join_to nx (λ x. flat_map g (f x y z))))
      (λ z lz. flat_join g ny (λ y. join_to nx (λ x. f x y z))
      ∙ join_cong ny (λ y. flat_map g (join_to nx (λ x. f x y z))) (λ y. join_to nx (λ x. flat_map g (f x y z))) (λ y ly. flat_join g nx (λ x. f x y z)))
