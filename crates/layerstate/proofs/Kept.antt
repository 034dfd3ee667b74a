-- How long a layer is at most, and the kept layer.
use mathlib.Core.Path.{◌≡◌, ◌∙◌}
use mathlib.Core.List.{List}
use Prim.Native.Nat.{ℕ, ◌+◌, ◌*◌, ◌≤◌}
use native.Mathlib.Nat.{mul-le-mul}
use lib.ListN.{length, length-map}
use Rattle.laws.specs.Part.{part_of}
use Rattle.laws.proofs.Parts.{length_part}
use Rattle.grid.specs.Limits.{most_side}
use Rattle.grid.specs.Work.{SidesFit, sample_of}
use Rattle.layerstate.specs.State.{most_layer, kept_at, kept_in}

pub layer_most : {nx ny nz : ℕ} → SidesFit nx ny nz → nx * ny ≤ most_layer
layer_most {nx} {ny} fit = mul-le-mul {n₁ = nx} {m₁ = ny} {n₂ = most_side} {m₂ = most_side} fit.most_x fit.most_y

module _ (room : List ℕ) (many : ℕ) (fits : kept_at + many ≤ length room) where
  pub length_kept : length (kept_in many room) ≡ many
  unfolding kept_in
  length_kept = length-map (part_of kept_at many room) sample_of ∙ length_part room kept_at many fits
