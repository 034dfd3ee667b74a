-- The ends of a crossed edge are samples that differ, and there is room for its point.
use mathlib.Core.Path.{◌≡◌, ap, sym, ◌∙◌}
use mathlib.Core.List.{List}
use mathlib.Core.Bool.{Bool, true, ◌&&◌, xor, false≢true}
use Prim.Native.Nat.{ℕ, ◌+◌, ◌*◌, ◌<◌, ◌≤◌}
use native.Mathlib.Nat.{mul-add, mul-one}
use native.Mathlib.Omega.{arith}
use lib.Dec.{leb, ltb}
use lib.ListN.{get_or}
use borrow.Author.Tests.{ltb-true}
use Rattle.laws.specs.Range.{one_if}
use Rattle.laws.proofs.Keep.{length_one}
use Rattle.laws.proofs.Tests.{both, same_ends}
use Rattle.grid.specs.Grid.{site, is_above_grey}
use Rattle.grid.specs.Work.{size}
use Rattle.grid.proofs.Crossings.{step_x, step_y, step_z, crossed_x, crossed_y, crossed_z}
use Rattle.grid.proofs.Sites.{site_small}
use Rattle.masks.proofs.Above.{told_above}
use Rattle.rows.specs.declared.Sides.{Sides}
use Rattle.rows.specs.declared.Cuts.{Cuts}
use Rattle.rows.specs.Rows.{size_of, words_above, cut, layer_first, next_number}
use Rattle.rows.proofs.Busy.{Tested}
use Rattle.rows.proofs.Window.{above_lent}
use Rattle.edgepoints.specs.EdgePoint.{PointRooms, RoomsFor, step_of, Placeable}
use Rattle.pointplaces.specs.Places.{SamplePlaceable, Given, number_past}
use Rattle.pointplaces.proofs.Placing.{room_less, crossings_on, number_within}

-- of the edges from `first` on and below `past`: the number past one more of them, and the room for the point of one that is crossed
module _ (sides : Sides) (masks : List ℕ) (first past from : ℕ) where
  edge_on : (e n : ℕ) (b : Bool) → first ≤ e → n ≡ number_past sides masks first e from → cut sides masks e ≡ b → next_number b n ≡ number_past sides masks first (e + 1) from
  edge_on e n b h counted is = omega (arith, counted, ap one_if is, crossings_on sides masks first e (e + 1) h (omega arith), length_one e (cut sides masks))

  edge_room : (e n : ℕ) (r : PointRooms) → first ≤ e → e < past → n ≡ number_past sides masks first e from → RoomsFor (number_past sides masks first past from) r
      → cut sides masks e ≡ true → RoomsFor (n + 1) r
  edge_room e n r h l counted fits crossed_here_lem =
      room_less
      (omega (arith, number_within sides masks first e (e + 1) past from n h (omega arith) (omega arith) counted, length_one e (cut sides masks), ap one_if crossed_here_lem))
      fits

module _ (sides : Sides) (z grey : ℕ) (samples masks : List ℕ) (given : Given sides z grey samples masks) where
  abbrev above : ℕ → Bool
  above = words_above sides masks

  -- how many samples are lent of the layers that have words, and how many there are below them
  abbrev lent : ℕ
  lent = sides.nx * (sides.ny * given.ready.layers)

  abbrev before : ℕ
  before = layer_first sides sides.below

  -- the words say of each sample whether it is above
  above_is : (t : ℕ) → t < lent → above (before + t) ≡ is_above_grey grey samples t
  above_is t l =
      above_lent sides masks (omega (arith, given.ready.fit.least_x)) t
      ∙ told_above sides.nx (sides.ny * given.ready.layers) (is_above_grey grey samples) masks given.ready.fit.least_x given.masked t l

  -- where one sample is above and another is not, they differ
  differ : (t u : ℕ) → t < lent → u < lent → xor (above (before + t)) (above (before + u)) ≡ true → get_or samples t 0 ≡ get_or samples u 0 → ⊥
  unfolding is_above_grey
  differ t u ht hu apart same =
      let alike : above (before + t) ≡ above (before + u) = above_is t ht ∙ ap (leb grey) same ∙ sym (above_is u hu) in
      false≢true (sym (same_ends (above (before + t))) ∙ ap (xor (above (before + t))) alike ∙ apart)

  -- the point of a crossed edge, which leaves sample s along an axis, can be placed
  placeable : (s place axis step n : ℕ) (there crossed_here_lem : Bool) (r : PointRooms) → s ≡ before + place → place < lent → step_of (size_of sides) axis ≡ step
      → (there ≡ true → place + step < lent) → crossed_here_lem ≡ (there && xor (above s) (above (s + step))) → RoomsFor (n + 1) r → crossed_here_lem ≡ true
      → Placeable (size_of sides) samples place axis n r
  placeable s place axis step n there crossed_here_lem r at small is other tested fits yes-crossed =
      let t = both there (xor (above s) (above (s + step))) (sym tested ∙ yes-crossed) in
      let end = other t.0 in
      let on : before + place + step ≡ before + (place + step) = omega arith in
      record {
        there = rw is (omega (arith, given.held, end));
        differ = rw is (differ place (place + step) small end (rw (at, on) at t.1));
        room = fits;
      }

  -- the points of a sample's crossed edges can be placed
  module _ (x y up : ℕ) (hx : x < sides.nx) (hy : y < sides.ny) (hz : z < sides.nz) (layer : z ≡ sides.below + up) where
    abbrev s : ℕ
    s = x + sides.nx * (y + sides.ny * z)

    abbrev p : ℕ
    p = x + sides.nx * (y + sides.ny * up)

    s_is : s ≡ before + p
    s_is =
        let rows : y + sides.ny * z ≡ y + sides.ny * up + sides.ny * sides.below = omega (arith, ap (λ z. sides.ny * z) layer, mul-add sides.ny sides.below up) in
        omega (arith, ap (λ r. sides.nx * r) rows, mul-add sides.nx (y + sides.ny * up) (sides.ny * sides.below))

    inside : (x y up : ℕ) → x < sides.nx → y < sides.ny → up < given.ready.layers → x + sides.nx * (y + sides.ny * up) < lent
    unfolding site
    inside x y up hx hy hu = site_small (size sides.nx sides.ny given.ready.layers) x y up hx hy hu

    here : up < given.ready.layers
    here = omega (arith, layer, given.ready.here)

    past_x : ltb (x + 1) sides.nx ≡ true → p + 1 < lent
    past_x h = omega (arith, inside (x + 1) y up (ltb-true _ _ h) hy here)

    past_y : ltb (y + 1) sides.ny ≡ true → p + sides.nx < lent
    past_y h =
        let q : y + 1 + sides.ny * up ≡ y + sides.ny * up + 1 = omega arith in
        omega (arith, rw q at (inside x (y + 1) up hx (ltb-true _ _ h) here), mul-add sides.nx (y + sides.ny * up) 1, mul-one sides.nx)

    past_z : ltb (z + 1) sides.nz ≡ true → p + sides.nx * sides.ny < lent
    past_z h =
        let q : y + sides.ny * (up + 1) ≡ y + sides.ny * up + sides.ny = omega (arith, mul-add sides.ny up 1, mul-one sides.ny) in
        omega (
          arith,
          rw q at (inside x y (up + 1) hx hy (omega (arith, layer, given.ready.over (ltb-true _ _ h)))),
          mul-add sides.nx (y + sides.ny * up) sides.ny,
        )

    module _ (first past from n : ℕ) (cuts : Cuts) (r : PointRooms) where
      at_sample : first ≤ 3 * s → 3 * (s + 1) ≤ past → n ≡ number_past sides masks first (3 * s) from → Tested sides masks (3 * s) cuts
          → RoomsFor (number_past sides masks first past from) r → SamplePlaceable sides samples p n cuts r
      unfolding site
      at_sample h l counted by fits =
          let size = size_of sides in
          let small = inside x y up hx hy here in
          let one = edge_on sides masks first past from (3 * s) n cuts.x h counted by.along_x in
          let step : 3 * s + 1 + 1 ≡ 3 * s + 2 = omega arith in
          let two = rw step at (edge_on sides masks first past from (3 * s + 1) _ cuts.y (omega arith) one by.along_y) in
          let room = edge_room sides masks first past from in
          record {
            along_x = λ c.
                placeable s p 0 1 n (ltb (x + 1) sides.nx) (cut sides masks (3 * s)) r s_is small (step_x size) past_x (crossed_x size above x y z hx hy hz)
                (room (3 * s) n r h (omega arith) counted fits (by.along_x ∙ c))
                (by.along_x ∙ c);
            along_y = λ c.
                placeable s p 1 sides.nx _ (ltb (y + 1) sides.ny) (cut sides masks (3 * s + 1)) r s_is small (step_y size) past_y (crossed_y size above x y z hx hy hz)
                (room (3 * s + 1) _ r (omega arith) (omega arith) one fits (by.along_y ∙ c))
                (by.along_y ∙ c);
            along_z = λ c.
                placeable s p 2 (sides.nx * sides.ny) _ (ltb (z + 1) sides.nz) (cut sides masks (3 * s + 2)) r s_is small (step_z size) past_z (crossed_z size above x y z hx hy hz)
                (room (3 * s + 2) _ r (omega arith) (omega arith) two fits (by.along_z ∙ c))
                (by.along_z ∙ c);
          }

      pub sample_placeable : (at place : ℕ) → at ≡ s → at ≡ before + place → first ≤ 3 * at → 3 * (at + 1) ≤ past → n ≡ number_past sides masks first (3 * at) from
          → Tested sides masks (3 * at) cuts → RoomsFor (number_past sides masks first past from) r → SamplePlaceable sides samples place n cuts r
      sample_placeable at place is lies h l counted by fits =
          let same : place ≡ p = omega (arith, is, lies, s_is) in
          rw same (at_sample (rw is at h) (rw is at l) (rw is at counted) (rw is at by) fits)
