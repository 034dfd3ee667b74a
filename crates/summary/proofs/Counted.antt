-- The crossed cubes of a block, counted half by half, are those of its box of cubes; those of the whole block are those of the grid.
use mathlib.Core.Path.{◌≡◌, ap₂, sym, ◌∙◌}
use mathlib.Core.Bool.{and-false}
use mathlib.Core.List.{List}
use Prim.Native.Nat.{ℕ, zero, suc, ◌+◌, ◌*◌, ◌-◌, ◌^◌, ◌<◌, ◌≤◌}
use native.Mathlib.Nat.{pow-zero, pow-suc, add-zero, one-mul, mul-add, mul_assoc, mul-one}
use native.Mathlib.Omega.{arith}
use lib.Dec.{ltb}
use borrow.Author.Tests.{le-ltb}
use Rattle.laws.specs.Range.{one_if, sum_to, count_to}
use Rattle.laws.proofs.Ranges.{sum_cong, sum_quiet, sum_none}
use Rattle.laws.proofs.Boxes.{box, box_halves, from_origin}
use Rattle.grid.specs.Limits.{halvings}
use Rattle.grid.specs.Grid.{Size, is_above_grey}
use Rattle.summary.specs.Blocks.{in_grid}
use Rattle.summary.specs.Crossed.{is_crossed, crossed_cubes}
use Rattle.summary.proofs.Numbers.{is_in_grid}
use Rattle.summary.proofs.Crossed.{crossed_here}
use Rattle.summary.proofs.Few.{crossed_in}

-- where a block's first half and its second begin
first_half : (j x : ℕ) → 2 ^ j * (2 * x + 0) ≡ 2 ^ suc j * x
first_half j x = rw (pow-suc 2 j, add-zero (2 * x)) (sym (mul_assoc (2 ^ j) 2 x))

second_half : (j x : ℕ) → 2 ^ j * (2 * x + 1) ≡ 2 ^ suc j * x + 2 ^ j
second_half j x = rw (pow-suc 2 j) (mul-add (2 ^ j) (2 * x) 1 ∙ ap₂ ◌+◌ (sym (mul_assoc (2 ^ j) 2 x)) (mul-one (2 ^ j)))

module _ (n : Size) (samples : List ℕ) (grey : ℕ) where
  abbrev one : ℕ → ℕ → ℕ → ℕ
  one x y z = one_if (crossed_here n samples grey x y z)

  crossed_box : (j x y z : ℕ) → crossed_in n samples grey j x y z ≡ box one (2 ^ j * x) (2 ^ j * y) (2 ^ j * z) (2 ^ j) (2 ^ j) (2 ^ j)
  unfolding crossed_in sum_to
  crossed_box zero x y z = rw (pow-zero 2, one-mul x, one-mul y, one-mul z, add-zero x, add-zero y, add-zero z) (omega arith)
  crossed_box (suc j) x y z =
      let m = 2 ^ j in
      let at : (p q r p' q' r' : ℕ) → m * p ≡ p' → m * q ≡ q' → m * r ≡ r' → crossed_in n samples grey j p q r ≡ box one p' q' r' m m m
      = λ p q r p' q' r' ep eq er. crossed_box j p q r ∙ (λ i. box one (ep i) (eq i) (er i) m m m) in
      let twice : 2 ^ suc j ≡ m + m = omega (arith, pow-suc 2 j) in
      let x₀ = first_half j x in
      let x₁ = second_half j x in
      let y₀ = first_half j y in
      let y₁ = second_half j y in
      let z₀ = first_half j z in
      let z₁ = second_half j z in
      let halves = box_halves one (2 ^ suc j * x) (2 ^ suc j * y) (2 ^ suc j * z) m in
      let whole : box one (2 ^ suc j * x) (2 ^ suc j * y) (2 ^ suc j * z) (2 ^ suc j) (2 ^ suc j) (2 ^ suc j)
      ≡ box one (2 ^ suc j * x) (2 ^ suc j * y) (2 ^ suc j * z) (m + m) (m + m) (m + m)
      = λ i. box one (2 ^ suc j * x) (2 ^ suc j * y) (2 ^ suc j * z) (twice i) (twice i) (twice i) in
      omega (
        arith,
        whole,
        halves,
        at _ _ _ _ _ _ x₀ y₀ z₀,
        at _ _ _ _ _ _ x₁ y₀ z₀,
        at _ _ _ _ _ _ x₀ y₁ z₀,
        at _ _ _ _ _ _ x₁ y₁ z₀,
        at _ _ _ _ _ _ x₀ y₀ z₁,
        at _ _ _ _ _ _ x₁ y₀ z₁,
        at _ _ _ _ _ _ x₀ y₁ z₁,
        at _ _ _ _ _ _ x₁ y₁ z₁,
      )

  -- no cube beyond the grid counts, and each of the grid does if it is crossed
  beyond_x : (a b c : ℕ) → n.nx - 1 ≤ a → one a b c ≡ 0
  unfolding in_grid
  beyond_x a b c l = rw (le-ltb (a + 1) n.nx (omega arith))

  beyond_y : (a b c : ℕ) → n.ny - 1 ≤ b → one a b c ≡ 0
  unfolding in_grid
  beyond_y a b c l = rw (le-ltb (b + 1) n.ny (omega arith), and-false (ltb (a + 1) n.nx))

  beyond_z : (a b c : ℕ) → n.nz - 1 ≤ c → one a b c ≡ 0
  unfolding in_grid
  beyond_z a b c l =
      rw (le-ltb (c + 1) n.nz (omega arith), and-false (ltb (b + 1) n.ny), and-false (ltb (a + 1) n.nx))

  inside : (a b c : ℕ) → a < n.nx - 1 → b < n.ny - 1 → c < n.nz - 1 → one a b c ≡ one_if (is_crossed n (is_above_grey grey samples) a b c)
  inside a b c la lb lc =
      rw (is_in_grid n a b c (record { along_x = omega arith; along_y = omega arith; along_z = omega arith }))

  -- the grid's own cubes are all that count
  pub all_crossed : n.nx ≤ 2 ^ halvings → n.ny ≤ 2 ^ halvings → n.nz ≤ 2 ^ halvings
      → crossed_in n samples grey halvings 0 0 0 ≡ crossed_cubes n (is_above_grey grey samples)
  unfolding crossed_cubes count_to
  all_crossed mx my mz =
      crossed_box halvings 0 0 0
      ∙ from_origin one (2 ^ halvings) (2 ^ halvings) (2 ^ halvings)
      ∙ sum_quiet (n.nz - 1) (2 ^ halvings) _ (omega (arith, mz)) (λ c lc uc. sum_none _ _ (λ b ub. sum_none _ _ (λ a ua. beyond_z a b c lc)))
      ∙ sum_cong (n.nz - 1) _ _ (λ c lc.
      sum_quiet (n.ny - 1) (2 ^ halvings) _ (omega (arith, my)) (λ b lb ub. sum_none _ _ (λ a ua. beyond_y a b c lb))
      ∙ sum_cong (n.ny - 1) _ _ (λ b lb.
      sum_quiet (n.nx - 1) (2 ^ halvings) _ (omega (arith, mx)) (λ a la ua. beyond_x a b c la)
      ∙ sum_cong (n.nx - 1) _ _ (λ a la. inside a b c la lb lc)))
