-- A block, and the half of it that a smaller block is.
use mathlib.Core.Path.{◌≡◌, sym}
use Prim.Native.Nat.{ℕ, suc, ◌+◌, ◌*◌, ◌/◌, ◌%◌, ◌^◌, ◌<◌}
use native.Mathlib.Nat.{pow-suc, div-div-eq-div-mul}
use native.Mathlib.Omega.{arith}
use Rattle.cube.specs.Cube.{corner_x, corner_y, corner_z}
use Rattle.summary.specs.Blocks.{half}

-- which half block (x, y, z) is of the block that it is in
abbrev pub half_of : ℕ → ℕ → ℕ → ℕ
half_of x y z = x % 2 + 2 * (y % 2) + 4 * (z % 2)

pub half_small : (x y z : ℕ) → half_of x y z < 8
half_small x y z = omega arith

-- its three digits
digits : (p q r : ℕ) → p < 2 → q < 2 → r < 2
    → let h = p + 2 * q + 4 * r in
    (corner_x h ≡ p) × (corner_y h ≡ q) × (corner_z h ≡ r)
digits p q r lp lq lr =
    let two : (p + 2 * q + 4 * r) / 2 ≡ q + 2 * r = omega arith in
    let four : (p + 2 * q + 4 * r) / 4 ≡ r = omega arith in
    (omega arith, omega (arith, two), omega (arith, four))

pub half_at : {A : Type 0} (f : ℕ → ℕ → ℕ → A) (x y z : ℕ) → half f (x / 2) (y / 2) (z / 2) (half_of x y z) ≡ f x y z
half_at f x y z =
    let h = half_of x y z in
    let d = digits (x % 2) (y % 2) (z % 2) (omega arith) (omega arith) (omega arith) in
    let a : 2 * (x / 2) + corner_x h ≡ x = omega (arith, d.0) in
    let b : 2 * (y / 2) + corner_y h ≡ y = omega (arith, d.1) in
    let c : 2 * (z / 2) + corner_z h ≡ z = omega (arith, d.2) in
    λ i. f (a i) (b i) (c i)

-- the block with one more halving that a cube is in
pub wider : (a j : ℕ) → a / 2 ^ suc j ≡ a / 2 ^ j / 2
wider a j = rw (pow-suc 2 j) (sym (div-div-eq-div-mul a (2 ^ j) 2))
