-- Where the numbers of a block stand in the summary, and that every number of it is one of some block's.
use mathlib.Core.Path.{◌≡◌, refl, ap, ap₂, sym, subst, ◌∙◌}
use mathlib.Core.Bool.{Bool, true, false, false≢true}
use mathlib.Core.List.{List, [], ◌∷◌}
use Prim.Native.Nat.{ℕ, zero, suc, ◌+◌, ◌*◌, ◌-◌, ◌/◌, ◌%◌, ◌^◌, ◌<◌, ◌≤◌}
use native.Mathlib.Decide.{dec_lt}
use native.Mathlib.Nat.{pow-suc, mul-add, mul_assoc, mul_comm, add-zero, mul_left_comm, pow-le-pow_right}
use native.Mathlib.Omega.{arith}
use lib.ListN.{length, get_or, length-append}
use lib.Seq.{ext_get_or}
use lib.Arith.{digits_lt}
use lib.Pow.{pow_pos, pow-add}
use borrow.Author.Tests.{eqb-true, eq-eqb}
use Rattle.laws.specs.Range.{join_to, join_box}
use Rattle.laws.proofs.Digits.{pow_pow}
use Rattle.laws.proofs.Tests.{both}
use Rattle.laws.proofs.Ranges.{join_entry}
use Rattle.laws.proofs.Rows.{length_rows, entry_at}
use Rattle.grid.specs.Limits.{halvings}
use Rattle.grid.specs.Grid.{Size, site, coordinate}
use Rattle.grid.specs.Work.{size}
use Rattle.grid.proofs.Sites.{site_small, site_of, below_x, below_y, below_z}
use Rattle.summary.specs.Blocks.{block_least, block_greatest, level_start, place_of, level_numbers, summary_of, summary_length, same_numbers, is_summary}
use Rattle.summary.specs.Levels.{LevelOf}

-- 8^k blocks in level k
pub cubed : (k : ℕ) → 2 ^ k * (2 ^ k * 2 ^ k) ≡ 8 ^ k
cubed k =
    let thrice : 3 * k ≡ k + (k + k) = omega arith in
    sym (pow_pow 2 3 k ∙ rw (thrice, pow-add 2 k (k + k), pow-add 2 k k))

-- where the levels start
pub level_start_lem : (k : ℕ) → 7 * level_start k + 2 ≡ 2 * 8 ^ k
unfolding level_start
level_start_lem zero = refl
level_start_lem (suc k) = omega (arith, level_start_lem k, pow-suc 8 k)

pub next_start : (k : ℕ) → level_start (suc k) ≡ 8 * level_start k + 2
unfolding level_start
next_start k = omega (arith, level_start_lem k)

-- a box of pairs in a row
module _ (s : ℕ) (f : ℕ → ℕ → ℕ → List ℕ) (pairs : (x y z : ℕ) → length (f x y z) ≡ 2) where
  length_row : (y z : ℕ) → length (join_to s (λ x. f x y z)) ≡ s * 2
  length_row y z = length_rows 2 (λ x. f x y z) (λ x. pairs x y z) s

  length_layer : (z : ℕ) → length (join_to s (λ y. join_to s (λ x. f x y z))) ≡ s * (s * 2)
  length_layer z = length_rows (s * 2) (λ y. join_to s (λ x. f x y z)) (λ y. length_row y z) s

  length_cube : length (join_box s s s f) ≡ s * (s * (s * 2))
  unfolding join_box
  length_cube = length_rows (s * (s * 2)) (λ z. join_to s (λ y. join_to s (λ x. f x y z))) length_layer s

  cube_at : (x y z b : ℕ) → x < s → y < s → z < s → b < 2 → get_or (join_box s s s f) (z * (s * (s * 2)) + (y * (s * 2) + (x * 2 + b))) 0 ≡ get_or (f x y z) b 0
  unfolding join_box
  cube_at x y z b lx ly lz lb =
      let in_row : x * 2 + b < s * 2 = omega (arith, lx, lb) in
      entry_at (s * (s * 2)) (λ z. join_to s (λ y. join_to s (λ x. f x y z))) length_layer s z (y * (s * 2) + (x * 2 + b)) 0 lz (digits_lt {q = y} {m = s} {r = x * 2 + b} {c = s * 2} ly in_row)
      ∙ entry_at (s * 2) (λ y. join_to s (λ x. f x y z)) (λ y. length_row y z) s y (x * 2 + b) 0 ly in_row
      ∙ entry_at 2 (λ x. f x y z) (λ x. pairs x y z) s x b 0 lx lb

box_size : (k : ℕ) → 2 ^ k * (2 ^ k * (2 ^ k * 2)) ≡ 2 * 8 ^ k
box_size k =
    let s = 2 ^ k in
    ap (λ t. s * t) (sym (mul_assoc s s 2)) ∙ sym (mul_assoc s (s * s) 2) ∙ mul_comm (s * (s * s)) 2 ∙ ap (λ t. 2 * t) (cubed k)

-- the place of block (x, y, z) of a level, from the level's start on
from_start_lem : (s x y z b : ℕ) → z * (s * (s * 2)) + (y * (s * 2) + (x * 2 + b)) ≡ 2 * (x + s * (y + s * z)) + b
from_start_lem s x y z b =
    let inner : s * (y + s * z) ≡ s * y + s * (s * z) = mul-add s y (s * z) in
    let y-part : y * (s * 2) ≡ 2 * (s * y) = mul_comm y (s * 2) ∙ ap (λ t. t * y) (mul_comm s 2) ∙ mul_assoc 2 s y in
    let z-part : z * (s * (s * 2)) ≡ 2 * (s * (s * z))
    = mul_comm z (s * (s * 2)) ∙ ap (λ t. t * z) (ap (λ t. s * t) (mul_comm s 2) ∙ mul_left_comm s 2 s) ∙ mul_assoc 2 (s * s) z ∙ ap (λ t. 2 * t) (mul_assoc s s z) in
    omega (arith, inner, y-part, z-part)

module _ (n : Size) (samples : List ℕ) where
  abbrev pub pair_of : ℕ → ℕ → ℕ → ℕ → List ℕ
  pair_of j x y z = block_least n samples j x y z ∷ block_greatest n samples j x y z ∷ []

  length_level : (k : ℕ) → length (level_numbers n samples k) ≡ 2 * 8 ^ k
  unfolding level_numbers
  length_level k =
      length_cube (2 ^ k) (pair_of (halvings - k)) (λ x y z. refl) ∙ box_size k

  -- levels before level k
  pub length_levels : (k : ℕ) → length (join_to k (level_numbers n samples)) ≡ level_start k
  unfolding join_to level_start
  length_levels zero = refl
  length_levels (suc k) = simp length-append (omega (arith, length_levels k, length_level k))

  pub length_summary : length (summary_of n samples) ≡ summary_length
  unfolding summary_of summary_length
  length_summary = length_levels (halvings + 1)

  -- a level in the summary
  level_in : (k q : ℕ) → k ≤ halvings → q < 2 * 8 ^ k → get_or (summary_of n samples) (level_start k + q) 0 ≡ get_or (level_numbers n samples k) q 0
  unfolding summary_of
  level_in k q lk lq =
      rw (← (length_levels k)) (join_entry (halvings + 1) k q (level_numbers n samples) 0 (omega arith) (omega (arith, length_level k)))

  -- a block's least, then its greatest
  pub numbers_at_lem : (k x y z b : ℕ) → k ≤ halvings → x < 2 ^ k → y < 2 ^ k → z < 2 ^ k → b < 2
      → get_or (summary_of n samples) (place_of k x y z + b) 0 ≡ get_or (pair_of (halvings - k) x y z) b 0
  unfolding place_of level_numbers
  numbers_at_lem k x y z b lk lx ly lz lb =
      let s = 2 ^ k in
      let q = z * (s * (s * 2)) + (y * (s * 2) + (x * 2 + b)) in
      let there : level_start k + 2 * (x + s * (y + s * z)) + b ≡ level_start k + q = omega (arith, from_start_lem s x y z b) in
      let in_row : x * 2 + b < s * 2 = omega (arith, lx, lb) in
      let in-layer = digits_lt {q = y} {m = s} {r = x * 2 + b} {c = s * 2} ly in_row in
      let in-box = digits_lt {q = z} {m = s} {r = y * (s * 2) + (x * 2 + b)} {c = s * (s * 2)} lz in-layer in
      let in-level : q < 2 * 8 ^ k = subst (λ t. q < t) (box_size k) in-box in
      rw there (level_in k q lk in-level ∙ cube_at s (pair_of (halvings - k)) (λ x y z. refl) x y z b lx ly lz lb)

-- ---- every place is one of some block's numbers
pub record Placed (p : ℕ) : Type 0 where
  pub level : ℕ
  pub x : ℕ
  pub y : ℕ
  pub z : ℕ
  pub which : ℕ
  pub in_levels : level ≤ halvings
  pub in_x : x < 2 ^ level
  pub in_y : y < 2 ^ level
  pub in_z : z < 2 ^ level
  pub in_pair : which < 2
  pub is : p ≡ place_of level x y z + which

placed : (k p : ℕ) → k ≤ halvings + 1 → p < level_start k → Placed p
unfolding level_start place_of site
placed zero p lk l = absurd (omega arith)
placed (suc k) p lk l = go (dec_lt p (level_start k)) (λ l'. placed k p (omega arith) l')
  where
    go : Dec (p < level_start k) → (p < level_start k → Placed p) → Placed p
    go (yes l') below = below l'
    go (no ge) below =
        let s = 2 ^ k in
        let q = p - level_start k in
        let i = q / 2 in
        let box = size s s s in
        let positive : 0 < s = pow_pos k in
        let small : i < s * (s * s) = omega (arith, l, cubed k) in
        record {
          level = k;
          x = coordinate box 0 i;
          y = coordinate box 1 i;
          z = coordinate box 2 i;
          which = q % 2;
          in_levels = omega arith;
          in_x = below_x box positive positive i small;
          in_y = below_y box positive positive i small;
          in_z = below_z box positive positive i small;
          in_pair = omega arith;
          is = omega (arith, site_of box i);
        }

-- each level of the summary is there
pub levels_there : (n : Size) (samples : List ℕ) (k : ℕ) → k ≤ halvings → LevelOf n samples (summary_of n samples) k
levels_there n samples k l =
    record {
      leasts = λ x y z lx ly lz. ap (λ p. get_or (summary_of n samples) p 0) (sym (add-zero (place_of k x y z))) ∙ numbers_at_lem n samples k x y z 0 l lx ly lz (omega arith);
      greatests = λ x y z lx ly lz. numbers_at_lem n samples k x y z 1 l lx ly lz (omega arith);
    }

-- a block's two numbers stand in the summary
pub place_small : (k x y z : ℕ) → k ≤ halvings → x < 2 ^ k → y < 2 ^ k → z < 2 ^ k → place_of k x y z + 1 < summary_length
unfolding place_of summary_length site
place_small k x y z l lx ly lz =
    let s = 2 ^ k in
    let in-level = site_small (size s s s) x y z lx ly lz in
    let levels : 8 ^ k ≤ 8 ^ halvings = pow-le-pow_right (omega arith) l in
    omega (arith, in-level, cubed k, level_start_lem k, level_start_lem (halvings + 1), levels)

-- a list of the summary's length that has all its levels is the summary
pub summary_is : (n : Size) (samples list : List ℕ) → length list ≡ summary_length → ((k : ℕ) → k ≤ halvings → LevelOf n samples list k) → list ≡ summary_of n samples
unfolding summary_length
summary_is n samples list long has =
    ext_get_or 0 list (summary_of n samples) (long ∙ sym (length_summary n samples)) (λ p l.
    let at = placed (halvings + 1) p (omega arith) (omega (arith, long)) in
    rw at.is (go at.level at.x at.y at.z at.in_levels at.in_x at.in_y at.in_z at.which at.in_pair))
  where
    go : (k x y z : ℕ) → k ≤ halvings → x < 2 ^ k → y < 2 ^ k → z < 2 ^ k → (b : ℕ) → b < 2
        → get_or list (place_of k x y z + b) 0 ≡ get_or (summary_of n samples) (place_of k x y z + b) 0
    go k x y z l lx ly lz zero lb =
        rw (add-zero (place_of k x y z)) ((has k l).leasts x y z lx ly lz ∙ sym ((levels_there n samples k l).leasts x y z lx ly lz))
    go k x y z l lx ly lz (suc zero) lb = (has k l).greatests x y z lx ly lz ∙ sym ((levels_there n samples k l).greatests x y z lx ly lz)
    go k x y z l lx ly lz (suc (suc b)) lb = absurd (omega arith)

-- the test of a lent summary
same_true : (xs ys : List ℕ) → same_numbers xs ys ≡ true → xs ≡ ys
unfolding same_numbers
same_true [] [] h = refl
same_true [] (y ∷ ys) h = absurd (false≢true h)
same_true (x ∷ xs) [] h = absurd (false≢true h)
same_true (x ∷ xs) (y ∷ ys) h = let s = both _ _ h in ap₂ ◌∷◌ (eqb-true x y s.0) (same_true xs ys s.1)

same_self : (xs : List ℕ) → same_numbers xs xs ≡ true
unfolding same_numbers
same_self [] = refl
same_self (x ∷ xs) = rw (eq-eqb x x refl) (same_self xs)

pub is_summary_lem : (n : Size) (samples list : List ℕ) → list ≡ summary_of n samples → is_summary n samples list ≡ true
unfolding is_summary
is_summary_lem n samples list e = rw e (same_self (summary_of n samples))

pub is_no_summary : (n : Size) (samples list : List ℕ) → (list ≡ summary_of n samples → ⊥) → is_summary n samples list ≡ false
unfolding is_summary
is_no_summary n samples list ne = go (same_numbers list (summary_of n samples)) refl
  where
    go : (t : Bool) → same_numbers list (summary_of n samples) ≡ t → same_numbers list (summary_of n samples) ≡ false
    go false e = e
    go true e = absurd (ne (same_true list (summary_of n samples) e))

pub the_summary : (n : Size) (samples list : List ℕ) → is_summary n samples list ≡ true → list ≡ summary_of n samples
unfolding is_summary
the_summary n samples list h = same_true list (summary_of n samples) h
