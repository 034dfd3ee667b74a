-- Lists with zeros laid below what is lent: what stands where.
use mathlib.Core.Path.{◌≡◌, ap, ◌∙◌}
use mathlib.Core.List.{List, ◌++◌}
use Prim.Native.Nat.{ℕ, zero, suc, ◌+◌, ◌*◌, ◌-◌, ◌/◌, ◌%◌, ◌<◌}
use native.Mathlib.Nat.{mul-add, mul_assoc, mul-zero, div-add-mod, mod-lt}
use native.Mathlib.Omega.{arith}
use lib.ListN.{get_or, replicate, length-replicate}
use lib.Seq.{get_or-append-add}
use Rattle.laws.specs.Bits.{bit}
use Rattle.laws.proofs.Digits.{low_mod, low_div}
use Rattle.masks.specs.Masks.{word_cubes, word_with, row_words, mask_above}
use Rattle.rows.specs.declared.Sides.{Sides}
use Rattle.rows.specs.Rows.{zeros_below, words_above, grid_samples, layer_first}

pub over_zeros : (each layers : ℕ) (list : List ℕ) (i place : ℕ) → place ≡ each * layers + i → get_or (zeros_below each layers list) place 0 ≡ get_or list i 0
over_zeros each zero list i place is = ap (λ k. get_or list k 0) (omega (arith, is, mul-zero each))
over_zeros each (suc layers) list i place is =
    let zeros : List ℕ = replicate (each * suc layers) 0 in
    ap (λ k. get_or (zeros ++ list) k 0) (omega (arith, is, length-replicate {A = ℕ} (each * suc layers) 0)) ∙ get_or-append-add zeros list i 0

-- where samples are lent, the grid's sample is the one lent, and it is above as its word says
pub sample_lent : (sides : Sides) (samples : List ℕ) (i : ℕ) → get_or (grid_samples sides samples) (layer_first sides sides.below + i) 0 ≡ get_or samples i 0
sample_lent sides samples i = over_zeros (sides.nx * sides.ny) sides.below samples i _ (omega (arith, mul_assoc sides.nx sides.ny sides.below))

pub above_lent : (sides : Sides) (masks : List ℕ) → 0 < sides.nx → (i : ℕ) → words_above sides masks (layer_first sides sides.below + i) ≡ mask_above sides.nx masks i
unfolding mask_above
above_lent sides masks some i =
    let words = row_words sides.nx in
    let before = sides.ny * sides.below in
    let x = i % sides.nx in
    let row = i / sides.nx in
    let small : x < sides.nx = mod-lt i some in
    let all : layer_first sides sides.below + i ≡ x + sides.nx * (row + before) = omega (arith, div-add-mod i sides.nx, mul-add sides.nx row before) in
    let place : word_with x + words * (row + before) ≡ words * sides.ny * sides.below + (word_with x + words * row)
    = omega (arith, mul-add words row before, mul_assoc words sides.ny sides.below) in
    rw (all, low_mod x sides.nx (row + before) small, low_div x sides.nx (row + before) small)
    (ap (λ m. bit m (x - word_cubes * word_with x)) (over_zeros (words * sides.ny) sides.below masks (word_with x + words * row) _ place))
