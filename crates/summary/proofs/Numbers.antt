-- The two numbers of a block, read directly: no corner of a cube of the block that is in the grid is smaller than the least or larger than the greatest, and if there is such a cube some corner is it.
use mathlib.Core.Path.{◌≡◌, refl, ap, sym, subst, ◌∙◌}
use mathlib.Core.Bool.{Bool, true, false, cond, false≢true}
use mathlib.Core.List.{List}
use mathlib.Core.Logic.{◌⊎◌, inl, inr}
use Prim.Native.Nat.{ℕ, zero, suc, ◌+◌, ◌*◌, ◌/◌, ◌^◌, ◌<◌, ◌≤◌, min, max}
use native.Mathlib.Nat.{pow-zero, div-one, mul-div-le}
use native.Mathlib.Omega.{arith}
use lib.Dec.{eqb}
use lib.ListN.{get_or}
use borrow.Author.Tests.{eqb-true, ltb-true, lt-ltb}
use Rattle.laws.specs.Range.{all_to}
use Rattle.laws.specs.Least.{gathered}
use Rattle.laws.proofs.Tests.{both, all_at}
use Rattle.laws.proofs.Least.{WorthAt, least_met, greatest_met, least_le, le_greatest}
use Rattle.cube.specs.Cube.{corner_x, corner_y, corner_z}
use Rattle.grid.specs.Limits.{most_number}
use Rattle.grid.specs.Grid.{Size}
use Rattle.grid.specs.Mesh.{corner_site}
use Rattle.summary.specs.Blocks.{in_grid, eight, half, cube_number, block_number, block_least, block_greatest}
use Rattle.summary.proofs.Halves.{half_of, half_small, half_at, wider}

-- cube (a, b, c) is one of block (x, y, z), which can be halved j times
pub record CubeOf (j x y z a b c : ℕ) : Type 0 where
  pub along_x : a / 2 ^ j ≡ x
  pub along_y : b / 2 ^ j ≡ y
  pub along_z : c / 2 ^ j ≡ z

-- entry h of the eight is h
eight_at : (h : ℕ) → h < 8 → get_or eight h 0 ≡ h
unfolding all_to
eight_at h l = eqb-true (get_or eight h 0) h (all_at 8 (λ h. eqb (get_or eight h 0) h) all h l)
  where
    all : all_to 8 (λ h. eqb (get_or eight h 0) h) ≡ true
    all = refl

-- ---- the least and the greatest of eight: no entry is beyond it, and some entry is it
pub record OneOf (v : ℕ → ℕ) (w : ℕ) : Type 0 where
  pub which : ℕ
  pub small : which < 8
  pub worth : v which ≡ w

one_of : (v : ℕ → ℕ) (w : ℕ) → WorthAt v 0 eight w → OneOf v w
one_of v w at = record { which = at.place; small = at.small; worth = ap v (sym (eight_at at.place at.small)) ∙ at.worth }

module _ (v : ℕ → ℕ) where
  pub least_of_eight : (i : ℕ) → i < 8 → gathered min v eight ≤ v i
  least_of_eight i l = subst (λ k. gathered min v eight ≤ v k) (eight_at i l) (least_le v 0 eight i l)

  pub greatest_of_eight : (i : ℕ) → i < 8 → v i ≤ gathered max v eight
  greatest_of_eight i l = subst (λ k. v k ≤ gathered max v eight) (eight_at i l) (le_greatest v 0 eight i l)

  pub some_least : OneOf v (gathered min v eight)
  some_least = one_of v (gathered min v eight) (least_met v 0 eight (omega arith))

  pub some_greatest : OneOf v (gathered max v eight)
  some_greatest = one_of v (gathered max v eight) (greatest_met v 0 eight (omega arith))

-- the sample at corner i of cube (a, b, c)
abbrev pub corner_sample : Size → List ℕ → ℕ → ℕ → ℕ → ℕ → ℕ
corner_sample n samples a b c i = get_or samples (corner_site n a b c i) 0

-- w is the sample at a corner of a cube of the block that is in the grid
pub record CornerOf (n : Size) (samples : List ℕ) (j x y z w : ℕ) : Type 0 where
  pub a : ℕ
  pub b : ℕ
  pub c : ℕ
  pub cube : CubeOf j x y z a b c
  pub there : in_grid n a b c ≡ true
  pub corner : ℕ
  pub small : corner < 8
  pub is : corner_sample n samples a b c corner ≡ w

-- ---- once for both numbers, by the order that they run in
module _ (op : ℕ → ℕ → ℕ) (outside : ℕ) (Beyond : ℕ → ℕ → Type 0) (on : (p q r : ℕ) → Beyond p q → Beyond q r → Beyond p r)
    (bound : (v : ℕ → ℕ) (i : ℕ) → i < 8 → Beyond (gathered op v eight) (v i)) (met : (v : ℕ → ℕ) → OneOf v (gathered op v eight))
    (n : Size) (samples : List ℕ) where
  abbrev number_of : ℕ → ℕ → ℕ → ℕ → ℕ
  number_of = block_number op outside n samples

  -- of a block and a half of it
  narrower : (j x y z : ℕ) → Beyond (number_of (suc j) (x / 2) (y / 2) (z / 2)) (number_of j x y z)
  unfolding block_number
  narrower j x y z =
      subst (Beyond (gathered op (half (number_of j) (x / 2) (y / 2) (z / 2)) eight)) (half_at (number_of j) x y z)
      (bound (half (number_of j) (x / 2) (y / 2) (z / 2)) (half_of x y z) (half_small x y z))

  -- of the block around a cube and a corner of the cube
  around : (j a b c i : ℕ) → in_grid n a b c ≡ true → i < 8 → Beyond (number_of j (a / 2 ^ j) (b / 2 ^ j) (c / 2 ^ j)) (corner_sample n samples a b c i)
  unfolding block_number cube_number
  around zero a b c i there l = rw (pow-zero 2, div-one a, div-one b, div-one c, there) (bound (corner_sample n samples a b c) i l)
  around (suc j) a b c i there l =
      on _ _ _ (rw (wider a j, wider b j, wider c j) (narrower j (a / 2 ^ j) (b / 2 ^ j) (c / 2 ^ j))) (around j a b c i there l)

  -- a block's number is that of a wholly outside one, or some corner is it
  number_met : (j x y z : ℕ) → (number_of j x y z ≡ outside) ⊎ CornerOf n samples j x y z (number_of j x y z)
  unfolding block_number cube_number
  number_met zero x y z = go (in_grid n x y z) refl
    where
      go : (t : Bool) → in_grid n x y z ≡ t
          → let w = cond t (gathered op (corner_sample n samples x y z) eight) outside in
          (w ≡ outside) ⊎ CornerOf n samples zero x y z w
      go false e = inl refl
      go true e =
          let m = met (corner_sample n samples x y z) in
          inr (record {
            a = x;
            b = y;
            c = z;
            cube = record { along_x = rw (pow-zero 2) (div-one x); along_y = rw (pow-zero 2) (div-one y); along_z = rw (pow-zero 2) (div-one z) };
            there = e;
            corner = m.which;
            small = m.small;
            is = m.worth;
          })
  number_met (suc j) x y z =
      let m = met (half (number_of j) x y z) in
      let h = m.which in
      go h m.worth (number_met j (2 * x + corner_x h) (2 * y + corner_y h) (2 * z + corner_z h))
    where
      go : (h : ℕ) → half (number_of j) x y z h ≡ gathered op (half (number_of j) x y z) eight
          → (half (number_of j) x y z h ≡ outside) ⊎ CornerOf n samples j (2 * x + corner_x h) (2 * y + corner_y h) (2 * z + corner_z h) (half (number_of j) x y z h)
          → let w = gathered op (half (number_of j) x y z) eight in
          (w ≡ outside) ⊎ CornerOf n samples (suc j) x y z w
      go h e (inl out) = inl (sym e ∙ out)
      go h e (inr at) =
          inr (record {
            a = at.a;
            b = at.b;
            c = at.c;
            cube = record {
              along_x = wider at.a j ∙ omega (arith, at.cube.along_x);
              along_y = wider at.b j ∙ omega (arith, at.cube.along_y);
              along_z = wider at.c j ∙ omega (arith, at.cube.along_z);
            };
            there = at.there;
            corner = at.corner;
            small = at.small;
            is = at.is ∙ e;
          })

-- ---- a cube in the grid
pub record InGrid (n : Size) (a b c : ℕ) : Type 0 where
  pub along_x : a + 1 < n.nx
  pub along_y : b + 1 < n.ny
  pub along_z : c + 1 < n.nz

pub in_grid_lem : (n : Size) (a b c : ℕ) → in_grid n a b c ≡ true → InGrid n a b c
unfolding in_grid
in_grid_lem n a b c h =
    let s = both _ _ h in
    let t = both _ _ s.1 in
    record { along_x = ltb-true _ _ s.0; along_y = ltb-true _ _ t.0; along_z = ltb-true _ _ t.1 }

pub is_in_grid : (n : Size) (a b c : ℕ) → InGrid n a b c → in_grid n a b c ≡ true
unfolding in_grid
is_in_grid n a b c g = rw (lt-ltb (a + 1) n.nx g.along_x, lt-ltb (b + 1) n.ny g.along_y, lt-ltb (c + 1) n.nz g.along_z)

-- ---- the two numbers
module _ (n : Size) (samples : List ℕ) where
  abbrev least : ℕ → ℕ → ℕ → ℕ → ℕ
  least = block_least n samples

  abbrev greatest : ℕ → ℕ → ℕ → ℕ → ℕ
  greatest = block_greatest n samples

  pub least_narrower : (j x y z : ℕ) → least (suc j) (x / 2) (y / 2) (z / 2) ≤ least j x y z
  least_narrower = narrower min most_number (λ p q. p ≤ q) (λ p q r h k. omega arith) least_of_eight some_least n samples

  pub greatest_narrower : (j x y z : ℕ) → greatest j x y z ≤ greatest (suc j) (x / 2) (y / 2) (z / 2)
  greatest_narrower = narrower max 0 (λ p q. q ≤ p) (λ p q r h k. omega arith) greatest_of_eight some_greatest n samples

  pub least_bounds : (j x y z a b c i : ℕ) → CubeOf j x y z a b c → in_grid n a b c ≡ true → i < 8 → least j x y z ≤ corner_sample n samples a b c i
  least_bounds j x y z a b c i cube there l =
      rw (← cube.along_x, ← cube.along_y, ← cube.along_z)
      (around min most_number (λ p q. p ≤ q) (λ p q r h k. omega arith) least_of_eight some_least n samples j a b c i there l)

  pub greatest_bounds : (j x y z a b c i : ℕ) → CubeOf j x y z a b c → in_grid n a b c ≡ true → i < 8 → corner_sample n samples a b c i ≤ greatest j x y z
  greatest_bounds j x y z a b c i cube there l =
      rw (← cube.along_x, ← cube.along_y, ← cube.along_z)
      (around max 0 (λ p q. q ≤ p) (λ p q r h k. omega arith) greatest_of_eight some_greatest n samples j a b c i there l)

  pub least_met_or_outside : (j x y z : ℕ) → (least j x y z ≡ most_number) ⊎ CornerOf n samples j x y z (least j x y z)
  least_met_or_outside = number_met min most_number (λ p q. p ≤ q) (λ p q r h k. omega arith) least_of_eight some_least n samples

  pub greatest_met_or_outside : (j x y z : ℕ) → (greatest j x y z ≡ 0) ⊎ CornerOf n samples j x y z (greatest j x y z)
  greatest_met_or_outside = number_met max 0 (λ p q. q ≤ p) (λ p q r h k. omega arith) greatest_of_eight some_greatest n samples

  module _ (sixteen-bits : (s : ℕ) → get_or samples s 0 ≤ most_number) (j x y z : ℕ) where
    -- no corner of a cube of the block that is in the grid is smaller, and if there is such a cube some corner is it
    pub least_is_least : ((a b c i : ℕ) → CubeOf j x y z a b c → in_grid n a b c ≡ true → i < 8 → least j x y z ≤ corner_sample n samples a b c i)
        × ((a b c : ℕ) → CubeOf j x y z a b c → in_grid n a b c ≡ true → CornerOf n samples j x y z (least j x y z))
    least_is_least = (least_bounds j x y z, λ a b c cube there. go a b c cube there (least_met_or_outside j x y z))
      where
        go : (a b c : ℕ) → CubeOf j x y z a b c → in_grid n a b c ≡ true → (least j x y z ≡ most_number) ⊎ CornerOf n samples j x y z (least j x y z)
            → CornerOf n samples j x y z (least j x y z)
        go a b c cube there (inr at) = at
        go a b c cube there (inl out) =
            record {
              a = a;
              b = b;
              c = c;
              cube = cube;
              there = there;
              corner = 0;
              small = omega arith;
              is = omega (arith, out, sixteen-bits (corner_site n a b c 0), least_bounds j x y z a b c 0 cube there (omega arith));
            }

    -- the same of the greatest
    pub greatest_is_greatest : ((a b c i : ℕ) → CubeOf j x y z a b c → in_grid n a b c ≡ true → i < 8 → corner_sample n samples a b c i ≤ greatest j x y z)
        × ((a b c : ℕ) → CubeOf j x y z a b c → in_grid n a b c ≡ true → CornerOf n samples j x y z (greatest j x y z))
    greatest_is_greatest = (greatest_bounds j x y z, λ a b c cube there. go a b c cube there (greatest_met_or_outside j x y z))
      where
        go : (a b c : ℕ) → CubeOf j x y z a b c → in_grid n a b c ≡ true → (greatest j x y z ≡ 0) ⊎ CornerOf n samples j x y z (greatest j x y z)
            → CornerOf n samples j x y z (greatest j x y z)
        go a b c cube there (inr at) = at
        go a b c cube there (inl out) =
            record {
              a = a;
              b = b;
              c = c;
              cube = cube;
              there = there;
              corner = 0;
              small = omega arith;
              is = omega (arith, out, greatest_bounds j x y z a b c 0 cube there (omega arith));
            }

  -- a block without a cube of the grid, as one that begins where no cube of the grid is
  module _ (j x y z : ℕ) (none : (a b c : ℕ) → CubeOf j x y z a b c → in_grid n a b c ≡ false) where
    pub least_outside : least j x y z ≡ most_number
    least_outside = go (least_met_or_outside j x y z)
      where
        go : (least j x y z ≡ most_number) ⊎ CornerOf n samples j x y z (least j x y z) → least j x y z ≡ most_number
        go (inl out) = out
        go (inr at) = absurd (false≢true (sym (none at.a at.b at.c at.cube) ∙ at.there))

    pub greatest_outside : greatest j x y z ≡ 0
    greatest_outside = go (greatest_met_or_outside j x y z)
      where
        go : (greatest j x y z ≡ 0) ⊎ CornerOf n samples j x y z (greatest j x y z) → greatest j x y z ≡ 0
        go (inl out) = out
        go (inr at) = absurd (false≢true (sym (none at.a at.b at.c at.cube) ∙ at.there))

  pub begins_outside : (j x y z : ℕ) → in_grid n (2 ^ j * x) (2 ^ j * y) (2 ^ j * z) ≡ false → (a b c : ℕ) → CubeOf j x y z a b c → in_grid n a b c ≡ false
  begins_outside j x y z out a b c cube = go (in_grid n a b c) refl
    where
      go : (t : Bool) → in_grid n a b c ≡ t → in_grid n a b c ≡ false
      go false e = e
      go true e =
          let g = in_grid_lem n a b c e in
          let before : (p q : ℕ) → p / 2 ^ j ≡ q → 2 ^ j * q ≤ p = λ p q h. subst (λ r. 2 ^ j * r ≤ p) h (mul-div-le p (2 ^ j)) in
          let first = is_in_grid n (2 ^ j * x) (2 ^ j * y) (2 ^ j * z)
          (record {
            along_x = omega (arith, g.along_x, before a x cube.along_x);
            along_y = omega (arith, g.along_y, before b y cube.along_y);
            along_z = omega (arith, g.along_z, before c z cube.along_z);
          }) in
          absurd (false≢true (sym out ∙ first))
