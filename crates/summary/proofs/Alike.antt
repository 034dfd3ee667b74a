-- A block that is opened holds a crossed cube: if no cube of a block is crossed, all samples at its cubes' corners are alike, walking along x, y and z from cube to cube.
use mathlib.Core.Path.{◌≡◌, refl, ap, sym, subst, ◌∙◌}
use mathlib.Core.Bool.{Bool, true, false, not, ◌&&◌, true≢false, false≢true}
use mathlib.Core.List.{List}
use mathlib.Core.Logic.{◌⊎◌, inl, inr}
use Prim.Native.Nat.{ℕ, zero, suc, ◌+◌, ◌*◌, ◌/◌, ◌%◌, ◌^◌, ◌<◌, ◌≤◌}
use native.Mathlib.Nat.{div-eq_of_lt-le, div-add-mod, mod-lt, mul_comm, add-mul, one-mul, add-zero}
use native.Mathlib.Omega.{arith}
use lib.Dec.{leb}
use lib.ListN.{get_or}
use lib.Pow.{pow_pos}
use borrow.Author.Tests.{le-leb, lt-leb}
use Rattle.laws.specs.Range.{some_to}
use Rattle.laws.proofs.Some.{some_true}
use Rattle.grid.specs.Limits.{most_number}
use Rattle.grid.specs.Grid.{Size, site, is_above_grey}
use Rattle.grid.specs.Mesh.{corner_site}
use Rattle.summary.specs.Blocks.{block_least, block_greatest}
use Rattle.summary.specs.Crossed.{is_crossed}
use Rattle.summary.proofs.Numbers.{CubeOf, CornerOf, InGrid, in_grid_lem, is_in_grid, least_met_or_outside, greatest_met_or_outside}
use Rattle.summary.proofs.Crossed.{finds_both, grid_step, crossed_here}

-- nothing changes along a walk on which no step changes anything
walked : (f : ℕ → Bool) (far : ℕ) → ((d : ℕ) → d < far → f (suc d) ≡ f d) → f far ≡ f 0
walked f zero same = refl
walked f (suc far) same = same far (omega arith) ∙ walked f far (λ d l. same d (omega arith))

-- the corners of a cube that is not crossed are alike
pub corners_alike : (n : Size) (above : ℕ → Bool) (a b c : ℕ) → is_crossed n above a b c ≡ false → (i k : ℕ) → i < 8 → k < 8
    → above (corner_site n a b c i) ≡ above (corner_site n a b c k)
unfolding is_crossed
corners_alike n above a b c h i k li lk = go (above (corner_site n a b c i)) (above (corner_site n a b c k)) refl refl
  where
    at : ℕ → Bool
    at e = above (corner_site n a b c e)

    mixed : (e f : ℕ) → e < 8 → f < 8 → at e ≡ true → at f ≡ false → ⊥
    mixed e f le lf t u =
        let high = some_true 8 at e le t in
        let low = some_true 8 (λ g. not (at g)) f lf (rw u) in
        let crossed : (some_to 8 at && some_to 8 (λ g. not (at g))) ≡ true = rw (high, low) in
        true≢false (sym crossed ∙ h)

    go : (p q : Bool) → at i ≡ p → at k ≡ q → at i ≡ at k
    go true true s t = s ∙ sym t
    go false false s t = s ∙ sym t
    go true false s t = absurd (mixed i k li lk s t)
    go false true s t = absurd (mixed k i lk li t s)

add_suc_one : (a b : ℕ) → a + suc b ≡ a + b + 1
add_suc_one a b = omega arith

-- a cube of a block by its distance from the block's first cube
pub in_block : (j x d : ℕ) → d < 2 ^ j → (2 ^ j * x + d) / 2 ^ j ≡ x
in_block j x d l = div-eq_of_lt-le (2 ^ j) (omega (arith, mul_comm x (2 ^ j))) (omega (arith, mul_comm x (2 ^ j), add-mul x 1 (2 ^ j), one-mul (2 ^ j)))

from_first : (j a x : ℕ) → a / 2 ^ j ≡ x → (a ≡ 2 ^ j * x + a % 2 ^ j) × (a % 2 ^ j < 2 ^ j)
from_first j a x h = (subst (λ q. a ≡ 2 ^ j * q + a % 2 ^ j) h (sym (div-add-mod a (2 ^ j))), mod-lt a (pow_pos j))

module _ (n : Size) (samples : List ℕ) (grey j x y z : ℕ) (none : (a b c : ℕ) → CubeOf j x y z a b c → crossed_here n samples grey a b c ≡ false) where
  abbrev above : ℕ → ℕ → ℕ → Bool
  above a b c = is_above_grey grey samples (site n a b c)

  abbrev first_x : ℕ
  first_x = 2 ^ j * x

  abbrev first_y : ℕ
  first_y = 2 ^ j * y

  abbrev first_z : ℕ
  first_z = 2 ^ j * z

  -- the cubes so far from the first are in the block and in the grid
  record Far (p q r : ℕ) : Type 0 where
    in_x : p < 2 ^ j
    in_y : q < 2 ^ j
    in_z : r < 2 ^ j
    there : InGrid n (first_x + p) (first_y + q) (first_z + r)

  nearer : (p q r p' q' r' : ℕ) → Far p q r → p' ≤ p → q' ≤ q → r' ≤ r → Far p' q' r'
  nearer p q r p' q' r' f hp hq hr =
      record {
        in_x = omega (arith, f.in_x);
        in_y = omega (arith, f.in_y);
        in_z = omega (arith, f.in_z);
        there = record {
          along_x = omega (arith, f.there.along_x);
          along_y = omega (arith, f.there.along_y);
          along_z = omega (arith, f.there.along_z);
        };
      }

  uncrossed : (p q r : ℕ) → Far p q r → is_crossed n (is_above_grey grey samples) (first_x + p) (first_y + q) (first_z + r) ≡ false
  uncrossed p q r f =
      let cube : CubeOf j x y z (first_x + p) (first_y + q) (first_z + r)
      = record { along_x = in_block j x p f.in_x; along_y = in_block j y q f.in_y; along_z = in_block j z r f.in_z } in
      let here = is_in_grid n (first_x + p) (first_y + q) (first_z + r) f.there in
      let h : (true && is_crossed n (is_above_grey grey samples) (first_x + p) (first_y + q) (first_z + r)) ≡ false
      = subst (λ t. (t && is_crossed n (is_above_grey grey samples) (first_x + p) (first_y + q) (first_z + r)) ≡ false) here (none _ _ _ cube) in
      h

  alike : (p q r : ℕ) → Far p q r → (i k : ℕ) → i < 8 → k < 8
      → is_above_grey grey samples (corner_site n (first_x + p) (first_y + q) (first_z + r) i) ≡ is_above_grey grey samples (corner_site n (first_x + p) (first_y + q) (first_z + r) k)
  alike p q r f = corners_alike n (is_above_grey grey samples) (first_x + p) (first_y + q) (first_z + r) (uncrossed p q r f)

  -- from the first sample of a cube so far from the first to any other of its corners
  corner_same : (p q r : ℕ) → Far p q r → (i : ℕ) → i < 8
      → is_above_grey grey samples (corner_site n (first_x + p) (first_y + q) (first_z + r) i) ≡ above (first_x + p) (first_y + q) (first_z + r)
  unfolding corner_site
  corner_same p q r f i l =
      let first : corner_site n (first_x + p) (first_y + q) (first_z + r) 0 ≡ site n (first_x + p) (first_y + q) (first_z + r)
      = λ t. site n (add-zero (first_x + p) t) (add-zero (first_y + q) t) (add-zero (first_z + r) t) in
      alike p q r f i 0 l (omega arith) ∙ ap (is_above_grey grey samples) first

  -- one cube on along x, along y and along z
  next_x : (p q r : ℕ) → Far p q r → above (first_x + suc p) (first_y + q) (first_z + r) ≡ above (first_x + p) (first_y + q) (first_z + r)
  unfolding corner_site
  next_x p q r f =
      let to : site n (first_x + suc p) (first_y + q) (first_z + r) ≡ corner_site n (first_x + p) (first_y + q) (first_z + r) 1
      = λ t. site n (add_suc_one (first_x) p t) (sym (add-zero (first_y + q)) t) (sym (add-zero (first_z + r)) t) in
      ap (is_above_grey grey samples) to ∙ corner_same p q r f 1 (omega arith)

  next_y : (p q r : ℕ) → Far p q r → above (first_x + p) (first_y + suc q) (first_z + r) ≡ above (first_x + p) (first_y + q) (first_z + r)
  unfolding corner_site
  next_y p q r f =
      let to : site n (first_x + p) (first_y + suc q) (first_z + r) ≡ corner_site n (first_x + p) (first_y + q) (first_z + r) 2
      = λ t. site n (sym (add-zero (first_x + p)) t) (add_suc_one (first_y) q t) (sym (add-zero (first_z + r)) t) in
      ap (is_above_grey grey samples) to ∙ corner_same p q r f 2 (omega arith)

  next_z : (p q r : ℕ) → Far p q r → above (first_x + p) (first_y + q) (first_z + suc r) ≡ above (first_x + p) (first_y + q) (first_z + r)
  unfolding corner_site
  next_z p q r f =
      let to : site n (first_x + p) (first_y + q) (first_z + suc r) ≡ corner_site n (first_x + p) (first_y + q) (first_z + r) 4
      = λ t. site n (sym (add-zero (first_x + p)) t) (sym (add-zero (first_y + q)) t) (add_suc_one (first_z) r t) in
      ap (is_above_grey grey samples) to ∙ corner_same p q r f 4 (omega arith)

  -- so each cube's first sample is as the block's
  first_same : (p q r : ℕ) → Far p q r → above (first_x + p) (first_y + q) (first_z + r) ≡ above (first_x + 0) (first_y + 0) (first_z + 0)
  first_same p q r f =
      walked (λ d. above (first_x + p) (first_y + q) (first_z + d)) r (λ d l. next_z p q d (nearer p q r p q d f (omega arith) (omega arith) (omega arith)))
      ∙ walked (λ d. above (first_x + p) (first_y + d) (first_z + 0)) q (λ d l. next_y p d 0 (nearer p q r p d 0 f (omega arith) (omega arith) (omega arith)))
      ∙ walked (λ d. above (first_x + d) (first_y + 0) (first_z + 0)) p (λ d l. next_x d 0 0 (nearer p q r d 0 0 f (omega arith) (omega arith) (omega arith)))

  -- and each sample at a corner of a cube of the block
  pub all_alike : (w : ℕ) → CornerOf n samples j x y z w → leb grey w ≡ above (first_x + 0) (first_y + 0) (first_z + 0)
  unfolding is_above_grey
  all_alike w at =
      let cx = from_first j at.a x at.cube.along_x in
      let cy = from_first j at.b y at.cube.along_y in
      let cz = from_first j at.c z at.cube.along_z in
      let g = in_grid_lem n at.a at.b at.c at.there in
      let p = at.a % 2 ^ j in
      let q = at.b % 2 ^ j in
      let r = at.c % 2 ^ j in
      let f : Far p q r = record {
        in_x = cx.1;
        in_y = cy.1;
        in_z = cz.1;
        there = record {
          along_x = omega (arith, g.along_x, cx.0);
          along_y = omega (arith, g.along_y, cy.0);
          along_z = omega (arith, g.along_z, cz.0);
        };
      } in
      let moved : corner_site n at.a at.b at.c at.corner ≡ corner_site n (first_x + p) (first_y + q) (first_z + r) at.corner
      = λ t. corner_site n (cx.0 t) (cy.0 t) (cz.0 t) at.corner in
      ap (leb grey) (sym at.is) ∙ ap (is_above_grey grey samples) moved ∙ corner_same p q r f at.corner at.small ∙ first_same p q r f

-- a block of which no cube is crossed is not opened
module _ (n : Size) (samples : List ℕ) (grey : ℕ) (sixteen-bits : (s : ℕ) → get_or samples s 0 ≤ most_number) where
  pub unopened : (j x y z : ℕ) → ((a b c : ℕ) → CubeOf j x y z a b c → crossed_here n samples grey a b c ≡ false) → grid_step n samples grey j x y z ≡ false
  unopened j x y z none = go (grid_step n samples grey j x y z) refl
    where
      least : ℕ
      least = block_least n samples j x y z

      greatest : ℕ
      greatest = block_greatest n samples j x y z

      -- its least would be below and its greatest above, and both are outside numbers or samples at corners
      apart : least < grey → grey ≤ greatest → (least ≡ most_number) ⊎ CornerOf n samples j x y z least
          → (greatest ≡ 0) ⊎ CornerOf n samples j x y z greatest → ⊥
      apart l g low (inl out) = omega (arith, l, g, out)
      apart l g (inl out) (inr high) = omega (arith, l, g, out, high.is, sixteen-bits (corner_site n high.a high.b high.c high.corner))
      apart l g (inr low) (inr high) =
          let same = all_alike n samples grey j x y z none least low ∙ sym (all_alike n samples grey j x y z none greatest high) in
          false≢true (sym (lt-leb grey least l) ∙ same ∙ le-leb grey greatest g)

      go : (t : Bool) → grid_step n samples grey j x y z ≡ t → grid_step n samples grey j x y z ≡ false
      go false e = e
      go true e =
          let f = finds_both grey least greatest e in
          absurd (apart f.0 f.1 (least_met_or_outside n samples j x y z) (greatest_met_or_outside n samples j x y z))
