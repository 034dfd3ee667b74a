-- The lent layers in the grid of a state: what the walks are given, and what is then handed out.
use mathlib.Core.Path.{◌≡◌, ap, sym, subst, ◌∙◌}
use mathlib.Core.List.{List, [], ◌++◌, map, append-nil}
use Prim.Native.Nat.{ℕ, suc, ◌+◌, ◌*◌, ◌-◌, ◌≤◌, ◌<◌}
use native.Mathlib.Nat.{mul-le-mul}
use native.Mathlib.Omega.{arith}
use lib.ListN.{length}
use Rattle.laws.specs.Part.{part_of}
use Rattle.grid.specs.Limits.{most_side}
use Rattle.grid.specs.Grid.{is_above_grey}
use Rattle.grid.specs.Work.{size, SidesFit, sample_of, lent_samples}
use Rattle.masks.specs.Masks.{row_words, Masked}
use Rattle.masks.proofs.Above.{told_agrees}
use Rattle.rows.specs.declared.Sides.{Sides}
use Rattle.rows.specs.Rows.{size_of, zeros_below, grid_samples}
use Rattle.pointplaces.specs.Places.{Given}
use Rattle.layerstate.specs.declared.Head.{Head}
use Rattle.layerstate.specs.State.{kept_at, kept_in, state_in}
use Rattle.layerstate.specs.Heads.{head_in}
use Rattle.layerparts.specs.Layer.{layer_through, last_layer}
use Rattle.layerparts.specs.Parts.{Framed}
use Rattle.layers.specs.Outcome.{layer_hands, closing_hands}

-- the words of two layers of the largest grid
abbrev pair_words : ℕ
pair_words = row_words most_side * (most_side * 2)

-- the kept layer is a part of the state's room, and is lent before the new one, or alone
module _ (room : List ℕ) (each : ℕ) where
  abbrev kept_part : List ℕ
  kept_part = part_of kept_at (kept_at + each - kept_at) room

  part_kept : map sample_of kept_part ≡ kept_in each room
  unfolding kept_in
  part_kept = let long : kept_at + each - kept_at ≡ each = omega arith in ap (λ k. map sample_of (part_of kept_at k room)) long

  pub pair_lent : (layer : List ℕ) → lent_samples kept_part layer ≡ kept_in each room ++ layer
  pair_lent layer = ap (λ kept. kept ++ layer) part_kept

  pub kept_lent : lent_samples kept_part [] ≡ kept_in each room
  kept_lent = append-nil (map sample_of kept_part) ∙ part_kept

module _ (head : Head) (first : ℕ) (sides : Sides) (framed : Framed head first sides) where
  pub sides_fit_lem : SidesFit head.nx head.ny head.nz → SidesFit sides.nx sides.ny sides.nz
  sides_fit_lem fit = rw (framed.nx, framed.ny, framed.nz) fit

  -- two layers have room for the words of their rows
  pub words_fit : SidesFit head.nx head.ny head.nz → (layers : ℕ) → layers ≤ 2 → row_words sides.nx * (sides.ny * layers) ≤ pair_words
  words_fit fit layers few =
      let most = sides_fit_lem fit in
      omega (
        arith,
        mul-le-mul {n₁ = row_words sides.nx} {m₁ = sides.ny * layers} {n₂ = row_words most_side} {m₂ = most_side * 2} (omega (arith, most.most_x))
            (mul-le-mul {n₁ = sides.ny} {m₁ = layers} {n₂ = most_side} {m₂ = 2} most.most_y few),
      )

  pub given_of : SidesFit head.nx head.ny head.nz → (grey : ℕ) (samples masks : List ℕ) (layers rows : ℕ) → layers ≤ 2 → 1 ≤ layers → (first + 1 < head.nz → layers ≡ 2)
      → rows ≡ sides.ny * layers → length samples ≡ sides.nx * rows → length masks ≡ pair_words → Masked sides.nx rows grey samples masks → Given sides sides.below grey samples masks
  given_of fit grey samples masks layers rows few some over are long words masked =
      let fits = sides_fit_lem fit in
      let told = subst (λ rows. Masked sides.nx rows grey samples masks) are masked in
      record {
        ready =
            record {
              fit = fits;
              words = framed.words;
              last = framed.last;
              layers = layers;
              from = omega arith;
              here = omega arith;
              over = λ l. omega (arith, over (omega (arith, framed.below, framed.nz)));
              rows = omega (arith, words, words_fit fit layers few);
              agree = told_agrees sides.nx (sides.ny * layers) (is_above_grey grey samples) masks fits.least_x told;
            };
        held = omega (arith, long, ap (λ rows. sides.nx * rows) are);
        masked = told;
      }

  module _ (room : List ℕ) (is : head ≡ head_in room) where
    is_x : sides.nx ≡ (head_in room).nx
    is_x = framed.nx ∙ ap (λ h. h.nx) is

    is_y : sides.ny ≡ (head_in room).ny
    is_y = framed.ny ∙ ap (λ h. h.ny) is

    is_z : sides.nz ≡ (head_in room).nz
    is_z = framed.nz ∙ ap (λ h. h.nz) is

    is_grey : head.grey ≡ (head_in room).grey
    is_grey = ap (λ h. h.grey) is

    pub layer_handed : (layer : List ℕ) → head.taken ≡ suc first
        → layer_through (size_of sides) head.grey (grid_samples sides (kept_in (sides.nx * sides.ny) room ++ layer)) sides.below ≡ layer_hands (state_in room) head.taken layer
    unfolding layer_hands state_in
    layer_handed layer taken =
        (λ i. layer_through (size (is_x i) (is_y i) (is_z i)) (is_grey i) (zeros_below (is_x i * is_y i) (framed.below i) (kept_in (is_x i * is_y i) room ++ layer)) (framed.below i))
        ∙ ap (λ t. layer_hands (state_in room) t layer) (sym taken)

    pub last_handed : first ≡ (head_in room).nz - 1
        → last_layer (size_of sides) head.grey (grid_samples sides (kept_in (sides.nx * sides.ny) room)) sides.below ≡ closing_hands (state_in room)
    unfolding closing_hands state_in
    last_handed last =
        let at : sides.below ≡ (head_in room).nz - 1 = framed.below ∙ last in
        λ i. last_layer (size (is_x i) (is_y i) (is_z i)) (is_grey i) (zeros_below (is_x i * is_y i) (at i) (kept_in (is_x i * is_y i) room)) (at i)
