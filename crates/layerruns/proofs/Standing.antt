-- The state in its room: what is read from it, and what the three calls write.
use mathlib.Core.Path.{◌≡◌, refl, ap, ◌∙◌}
use mathlib.Core.List.{List, [], ◌∷◌, map, map-id}
use Prim.Native.Nat.{ℕ, ◌+◌, ◌*◌, ◌<◌, ◌≤◌}
use native.Mathlib.Nat.{mod-eq_of_lt}
use native.Mathlib.Omega.{arith}
use lib.ListN.{length, get_or, take, drop, set, replicate, length-replicate}
use lib.Seq.{sets, sets-eq, take_at}
use Rattle.laws.proofs.Lists.{map_cong, all_of_places}
use Rattle.laws.proofs.Writes.{sets_before, set_before}
use Rattle.laws.proofs.Parts.{sets_over}
use Rattle.grid.specs.Limits.{most_number}
use Rattle.grid.specs.Grid.{Size}
use Rattle.grid.specs.Work.{sample_of}
use Rattle.layerstate.specs.State.{most_layer, layer_size, taken_at, closed_at, points_at, triangles_at, kept_at, kept_in, state_in, opened_room, layered_room, closed_room}
use Rattle.layerruns.specs.Run.{AreSamples}
use Rattle.layerruns.specs.SoFar.{standing}

-- samples are their lowest 16 bits
samples_low : (xs : List ℕ) → AreSamples xs → map sample_of xs ≡ xs
samples_low xs small =
    map_cong (λ x. x ≤ most_number) sample_of (λ x. x) (λ x h. mod-eq_of_lt (omega arith)) xs (all_of_places (λ x. x ≤ most_number) 0 xs (λ i l. small i)) ∙ map-id xs

module _ (n : Size) (grey taken over points triangles : ℕ) (kept : List ℕ) where
  abbrev room : List ℕ
  room = standing n grey taken over points triangles kept

  abbrev front : List ℕ
  front = n.nx ∷ n.ny ∷ n.nz ∷ grey ∷ taken ∷ over ∷ points ∷ triangles ∷ replicate most_layer 0

  number_at : (i : ℕ) → i < kept_at → get_or room i 0 ≡ get_or front i 0
  unfolding standing
  number_at i l = sets_before front kept_at kept i 0 l

  pub sides_read : (state_in room).sides ≡ n
  unfolding state_in
  sides_read i = record { nx = number_at 0 (omega arith) i; ny = number_at 1 (omega arith) i; nz = number_at 2 (omega arith) i }

  pub grey_read : (state_in room).grey ≡ grey
  unfolding state_in
  grey_read = number_at 3 (omega arith)

  pub taken_read : (state_in room).taken ≡ taken
  unfolding state_in
  taken_read = number_at 4 (omega arith)

  pub over_read : (state_in room).closed ≡ over
  unfolding state_in
  over_read = number_at 5 (omega arith)

  pub points_read : (state_in room).points ≡ points
  unfolding state_in
  points_read = number_at 6 (omega arith)

  pub triangles_read : (state_in room).triangles ≡ triangles
  unfolding state_in
  triangles_read = number_at 7 (omega arith)

  pub kept_read : length kept ≡ layer_size n → length kept ≤ most_layer → AreSamples kept → (state_in room).kept ≡ kept
  unfolding state_in kept_in standing
  kept_read long few small =
      let split = sets-eq kept front kept_at (omega (arith, length-replicate {A = ℕ} most_layer 0, few)) in
      let whole : (state_in room).sides.nx * (state_in room).sides.ny ≡ layer_size n = ap layer_size sides_read in
      ap (λ m. map sample_of (take m (drop kept_at (sets front kept_at kept)))) whole
      ∙ ap (λ r. map sample_of (take (layer_size n) (drop kept_at r))) split
      ∙ ap (map sample_of) (take_at kept (drop (kept_at + length kept) front) (layer_size n) long)
      ∙ samples_low kept small

  -- a granted layer and a granted closing write this
  pub layer_written : (new : List ℕ) (p t : ℕ) → length kept ≤ length new → layered_room new p t room ≡ standing n grey (taken + 1) over (points + p) (triangles + t) new
  unfolding layered_room standing
  layer_written new p t short =
      let one : set room taken_at (get_or room taken_at 0 + 1) ≡ sets (set front taken_at (taken + 1)) kept_at kept
      = ap (λ k. set room taken_at (k + 1)) (number_at taken_at (omega arith)) ∙ set_before front taken_at kept_at kept (taken + 1) (omega arith) in
      let two : set (set room taken_at (get_or room taken_at 0 + 1)) points_at (get_or room points_at 0 + p) ≡ sets (set (set front taken_at (taken + 1)) points_at (points + p)) kept_at kept
      = (λ i. set (one i) points_at (number_at points_at (omega arith) i + p)) ∙ set_before (set front taken_at (taken + 1)) points_at kept_at kept (points + p) (omega arith) in
      (λ i. sets (set (two i) triangles_at (number_at triangles_at (omega arith) i + t)) kept_at new)
      ∙ ap (λ r. sets r kept_at new) (set_before (set (set front taken_at (taken + 1)) points_at (points + p)) triangles_at kept_at kept (triangles + t) (omega arith))
      ∙ sets_over (set (set (set front taken_at (taken + 1)) points_at (points + p)) triangles_at (triangles + t)) kept_at kept new short

  pub closing_written : (p : ℕ) → closed_room p room ≡ standing n grey taken 1 (points + p) triangles kept
  unfolding closed_room standing
  closing_written p =
      (λ i. set (set_before front closed_at kept_at kept 1 (omega arith) i) points_at (number_at points_at (omega arith) i + p))
      ∙ set_before (set front closed_at 1) points_at kept_at kept (points + p) (omega arith)

pub opening_written : (n : Size) (grey : ℕ) → opened_room n.nx n.ny n.nz grey ≡ standing n grey 0 0 0 0 []
unfolding opened_room standing
opening_written n grey = refl
