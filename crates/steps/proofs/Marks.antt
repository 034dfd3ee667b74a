-- The bits of found cubes, set one after the other; what is found in a block is what is found in its halves.
use mathlib.Core.Path.{◌≡◌, refl, ap, sym, ◌∙◌}
use mathlib.Core.Bool.{Bool, true, false, ◌&&◌, ◌||◌, or_assoc, or_comm, or-false, and-false, and-true, false≢true}
use mathlib.Core.List.{List}
use Prim.Native.Nat.{ℕ, suc, ◌+◌, ◌*◌, ◌/◌, ◌%◌, ◌^◌, ◌<◌}
use native.Mathlib.Decide.{ℕ_discrete}
use native.Mathlib.Nat.{pow-zero, div-one, one-mul, zero-mul, mod-eq_of_lt}
use native.Mathlib.Numerals.{add-one}
use native.Mathlib.Omega.{arith}
use lib.Dec.{eqb}
use lib.Bits.{bit_or}
use lib.ListN.{length, get_or, set}
use lib.Pow.{pow-lt}
use mir.Val.{bool_byte}
use lib.Seq.{get_or-set_same, get_or-set_other}
use borrow.Author.Tests.{eq-eqb, ne_eqb, eqb-true}
use Rattle.laws.specs.Bits.{bit}
use Rattle.laws.specs.Range.{some_to}
use Rattle.laws.proofs.Tests.{both}
use Rattle.laws.proofs.Some.{some_true, some_false, some_and}
use Rattle.laws.proofs.Halves.{bit_of_zero}
use Rattle.laws.proofs.Words.{bit_or_lem, bit_power}
use Rattle.grid.specs.Limits.{most_side, most_rows}
use Rattle.cube.specs.Cube.{corner_x, corner_y, corner_z}
use Rattle.summary.specs.Blocks.{half}
use Rattle.summary.specs.Steps.{found}
use Rattle.summary.proofs.Halves.{half_of, half_small, half_at, wider}
use Rattle.summary.proofs.Numbers.{CubeOf}
use Rattle.steps.specs.Looks.{is_in, found_from, found_in, Marks}

-- more bits after others
pub marks_more : (entry now next : List ℕ) (test more : ℕ → ℕ → ℕ → Bool) → Marks entry now test → Marks now next more
    → Marks entry next (λ a b c. more a b c || test a b c)
marks_more entry now next test more had then a b c lb lc =
    then a b c lb lc
    ∙ ap (λ t. t || more a b c) (had a b c lb lc)
    ∙ or_assoc (bit (get_or entry (b + most_side * c) 0) a) (test a b c) (more a b c)
    ∙ ap (λ t. bit (get_or entry (b + most_side * c) 0) a || t) (or_comm (test a b c) (more a b c))

-- one cube's bit
pub mark_one : (words : List ℕ) (w x y z row : ℕ) (t : Bool) → length words ≡ most_rows → x < most_side → y < most_side → z < most_side → row ≡ y + most_side * z
    → ((a : ℕ) → bit w a ≡ (eqb a x && t))
    → Marks words (set words row (bit_or (get_or words row 0) w)) (λ a b c. (eqb a x && (eqb b y && eqb c z)) && t)
mark_one words w x y z row t long lx ly lz e bits a b c lb lc = go (ℕ_discrete b y) (ℕ_discrete c z)
  where
    at : ℕ
    at = b + most_side * c

    next : List ℕ
    next = set words row (bit_or (get_or words row 0) w)

    Goal : Type 0
    Goal = bit (get_or next at 0) a ≡ (bit (get_or words at 0) a || ((eqb a x && (eqb b y && eqb c z)) && t))

    other : (at ≡ row → ⊥) → (eqb b y && eqb c z) ≡ false → Goal
    other ne f =
        rw (get_or-set_other words row at (bit_or (get_or words row 0) w) 0 ne, f, and-false (eqb a x), or-false (bit (get_or words at 0) a))

    go : Dec (b ≡ y) → Dec (c ≡ z) → Goal
    go (yes p) (yes q) =
        let same : at ≡ row = omega (arith, p, q, e) in
        let small : row < length words = omega (arith, e, long) in
        rw (same, get_or-set_same words row (bit_or (get_or words row 0) w) 0 small, bit_or_lem (get_or words row 0) w a, bits a, eq-eqb b y p, eq-eqb c z q, and-true (eqb a x))
    go (no n) d = other (λ s. n (omega (arith, s, e))) (rw (ne_eqb b y n))
    go (yes p) (no n) = other (λ s. n (omega (arith, s, e))) (rw (ne_eqb c z n, and-false (eqb b y)))

-- the word that a step's answer is shifted to
pub one_bit : (t : Bool) (x a : ℕ) → x < most_side → bit (bool_byte t * 2 ^ x % 2 ^ 64) a ≡ (eqb a x && t)
one_bit true x a l =
    let small : 2 ^ x < 2 ^ 64 = pow-lt l in
    let e : 1 * 2 ^ x % 2 ^ 64 ≡ 2 ^ x = rw (one-mul (2 ^ x)) (mod-eq_of_lt small) in
    ap (λ w. bit w a) e ∙ bit_power x a ∙ sym (and-true (eqb a x))
one_bit false x a l = ap (λ w. bit (w % 2 ^ 64) a) (zero-mul (2 ^ x)) ∙ bit_of_zero a ∙ sym (and-false (eqb a x))

-- a single cube that is found is the one that was looked at
cube_found : (step : ℕ → ℕ → ℕ → ℕ → Bool) (x y z a b c : ℕ) → ((eqb a x && (eqb b y && eqb c z)) && step 0 x y z) ≡ found_from step 0 x y z a b c
unfolding found_from found
cube_found step x y z a b c = rw (pow-zero 2, div-one a, div-one b, div-one c) (go (eqb a x && (eqb b y && eqb c z)) refl)
  where
    go : (t : Bool) → (eqb a x && (eqb b y && eqb c z)) ≡ t → (t && step 0 x y z) ≡ (t && step 0 a b c)
    go false e = refl
    go true e =
        let s = both (eqb a x) (eqb b y && eqb c z) e in
        let r = both (eqb b y) (eqb c z) s.1 in
        λ i. step 0 (sym (eqb-true a x s.0) i) (sym (eqb-true b y r.0) i) (sym (eqb-true c z r.1) i)

-- one half more
pub in_next : (step : ℕ → ℕ → ℕ → ℕ → Bool) (j x y z h a b c : ℕ)
    → (half (λ p q r. found_from step j p q r a b c) x y z h || found_in step j x y z h a b c) ≡ found_in step j x y z (h + 1) a b c
unfolding found_in some_to
in_next step j x y z h a b c = rw (add-one h)

pub in_none : (step : ℕ → ℕ → ℕ → ℕ → Bool) (j x y z : ℕ) (words : List ℕ) → Marks words words (found_in step j x y z 0)
unfolding found_in some_to
in_none step j x y z words a b c lb lc = sym (or-false (bit (get_or words (b + most_side * c) 0) a))

-- the same bits by another test
pub marks_same : (entry exit : List ℕ) (test other : ℕ → ℕ → ℕ → Bool) → ((a b c : ℕ) → test a b c ≡ other a b c) → Marks entry exit test → Marks entry exit other
marks_same entry exit test other same had a b c lb lc = had a b c lb lc ∙ ap (λ t. bit (get_or entry (b + most_side * c) 0) a || t) (same a b c)

pub mark_cube : (step : ℕ → ℕ → ℕ → ℕ → Bool) (words : List ℕ) (x y z row : ℕ) (t : Bool) → length words ≡ most_rows → x < most_side → y < most_side → z < most_side
    → row ≡ y + most_side * z → t ≡ step 0 x y z
    → Marks words (set words row (bit_or (get_or words row 0) (bool_byte t * 2 ^ x % 2 ^ 64))) (found_from step 0 x y z)
mark_cube step words x y z row t long lx ly lz e is =
    let next = set words row (bit_or (get_or words row 0) (bool_byte t * 2 ^ x % 2 ^ 64)) in
    marks_same words next (λ a b c. (eqb a x && (eqb b y && eqb c z)) && t) (found_from step 0 x y z) (λ a b c. ap (λ u. (eqb a x && (eqb b y && eqb c z)) && u) is ∙ cube_found step x y z a b c)
    (mark_one words (bool_byte t * 2 ^ x % 2 ^ 64) x y z row t long lx ly lz e (λ a. one_bit t x a lx))

-- ---- from a block to its halves
-- a cube that is in a block
pub is_in_lem : (j x y z a b c : ℕ) → is_in j x y z a b c ≡ true → CubeOf j x y z a b c
is_in_lem j x y z a b c e =
    let s = both (eqb (a / 2 ^ j) x) (eqb (b / 2 ^ j) y && eqb (c / 2 ^ j) z) e in
    let r = both (eqb (b / 2 ^ j) y) (eqb (c / 2 ^ j) z) s.1 in
    record { along_x = eqb-true (a / 2 ^ j) x s.0; along_y = eqb-true (b / 2 ^ j) y r.0; along_z = eqb-true (c / 2 ^ j) z r.1 }

pub in_is : (j x y z a b c : ℕ) → CubeOf j x y z a b c → is_in j x y z a b c ≡ true
in_is j x y z a b c o = rw (eq-eqb (a / 2 ^ j) x o.along_x, eq-eqb (b / 2 ^ j) y o.along_y, eq-eqb (c / 2 ^ j) z o.along_z)

module _ (j x y z a b c : ℕ) where
  -- the cube is in one of the halves
  in_halves : some_to 8 (half (λ p q r. is_in j p q r a b c) x y z) ≡ is_in (suc j) x y z a b c
  in_halves = go (is_in (suc j) x y z a b c) refl
    where
      is_in_half : ℕ → Bool
      is_in_half = half (λ p q r. is_in j p q r a b c) x y z

      none : is_in (suc j) x y z a b c ≡ false → (h : ℕ) (t : Bool) → is_in_half h ≡ t → is_in_half h ≡ false
      none e h false f = f
      none e h true f =
          let o = is_in_lem j (2 * x + corner_x h) (2 * y + corner_y h) (2 * z + corner_z h) a b c f in
          let is = in_is (suc j) x y z a b c
          (record {
            along_x = wider a j ∙ omega (arith, o.along_x);
            along_y = wider b j ∙ omega (arith, o.along_y);
            along_z = wider c j ∙ omega (arith, o.along_z);
          }) in
          absurd (false≢true (sym e ∙ is))

      go : (t : Bool) → is_in (suc j) x y z a b c ≡ t → some_to 8 is_in_half ≡ is_in (suc j) x y z a b c
      go true e =
          let o = is_in_lem (suc j) x y z a b c e in
          let p = a / 2 ^ j in
          let q = b / 2 ^ j in
          let r = c / 2 ^ j in
          let self = in_is j p q r a b c (record { along_x = refl; along_y = refl; along_z = refl }) in
          let at : is_in_half (half_of p q r) ≡ true
          = rw (← o.along_x, ← o.along_y, ← o.along_z, wider a j, wider b j, wider c j) (half_at (λ p q r. is_in j p q r a b c) p q r ∙ self) in
          some_true 8 is_in_half (half_of p q r) (half_small p q r) at ∙ sym e
      go false e = some_false 8 is_in_half (λ h l. none e h (is_in_half h) refl) ∙ sym e

  module _ (step : ℕ → ℕ → ℕ → ℕ → Bool) where
    -- the step at the block around the cube is the block's
    here : {t : Bool} → is_in (suc j) x y z a b c ≡ true → step (suc j) x y z ≡ t → step (suc j) (a / 2 ^ suc j) (b / 2 ^ suc j) (c / 2 ^ suc j) ≡ t
    here e is =
        let o = is_in_lem (suc j) x y z a b c e in
        (λ i. step (suc j) (o.along_x i) (o.along_y i) (o.along_z i)) ∙ is

    -- what is found from a block on that is opened is what is found from its halves on
    pub from_halves : step (suc j) x y z ≡ true → found_in step j x y z 8 a b c ≡ found_from step (suc j) x y z a b c
    unfolding found_in found_from found
    from_halves opened =
        some_and 8 (half (λ p q r. is_in j p q r a b c) x y z) (found step j a b c)
        ∙ ap (λ u. u && found step j a b c) in_halves
        ∙ go (is_in (suc j) x y z a b c) refl
      where
        go : (t : Bool) → is_in (suc j) x y z a b c ≡ t → (t && found step j a b c) ≡ (t && (step (suc j) (a / 2 ^ suc j) (b / 2 ^ suc j) (c / 2 ^ suc j) && found step j a b c))
        go false e = refl
        go true e = rw (here e opened)

    -- and nothing is found from a block on that is not
    pub from_closed : step (suc j) x y z ≡ false → found_from step (suc j) x y z a b c ≡ false
    unfolding found_from found
    from_closed closed = go (is_in (suc j) x y z a b c) refl
      where
        go : (t : Bool) → is_in (suc j) x y z a b c ≡ t → (t && (step (suc j) (a / 2 ^ suc j) (b / 2 ^ suc j) (c / 2 ^ suc j) && found step j a b c)) ≡ false
        go false e = refl
        go true e = rw (here e closed)
