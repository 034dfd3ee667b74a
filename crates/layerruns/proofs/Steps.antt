-- One call more: what holds of a run holds after a granted layer and after a granted closing.
use mathlib.Core.Path.{◌≡◌, refl, ap, ap₂, sym, subst, ◌∙◌}
use mathlib.Core.List.{List, [], ◌++◌}
use mathlib.Core.Bool.{true, false, false≢true}
use Prim.Native.Nat.{ℕ, suc, ◌+◌, ◌-◌, ◌<◌, ◌≤◌}
use native.Mathlib.Decide.{dec_lt}
use native.Mathlib.Omega.{arith}
use lib.ListN.{length, get_or, drop, length-append, length-drop, get_or-append}
use lib.Seq.{drop_at, get_or-append-add, get_or-drop}
use Rattle.laws.specs.Range.{join_to}
use Rattle.grid.specs.Limits.{most_number, most_points, most_triangles}
use Rattle.grid.specs.Sides.{sides_fit}
use Rattle.grid.specs.Grid.{Size, is_above_grey}
use Rattle.grid.specs.Work.{SidesFit}
use Rattle.rows.specs.Rows.{zeros_below}
use Rattle.layerstate.specs.State.{layer_size, State, state_in, layered_room, closed_room}
use Rattle.layerstate.proofs.Kept.{layer_most}
use Rattle.layerparts.specs.Layer.{first_sample, layer_edges, layer_triangles, Handed, nothing, layer_through, last_layer}
use Rattle.layerparts.proofs.Most.{few_of}
use Rattle.layerparts.proofs.Local.{layers_on, layers_rise}
use Rattle.layers.specs.Outcome.{Rooms, point_room, triangle_room, granted, layer_hands, closing_hands}
use Rattle.layerruns.specs.Run.{Received, AreSamples, joined, handed_by}
use Rattle.layerruns.specs.SoFar.{received, both_handed, all_handed, first_layers, all_layers, so_far, standing, state_after, Stood}
use Rattle.layerruns.proofs.Granted.{Even, handed_even, LayerGranted, ClosingGranted, handed_granted}
use Rattle.layerruns.proofs.Standing.{sides_read, grey_read, taken_read, over_read, points_read, triangles_read, kept_read, layer_written, closing_written}
use Rattle.layerruns.proofs.Volumes.{handed_next, received_both, first_same, last_same, layer_same}

-- samples one after the other
samples_joined : (xs ys : List ℕ) → AreSamples xs → AreSamples ys → AreSamples (xs ++ ys)
samples_joined xs ys p q i = go (dec_lt i (length xs))
  where
    go : Dec (i < length xs) → get_or (xs ++ ys) i 0 ≤ most_number
    go (yes l) = rw (get_or-append xs ys 0 i l) (p i)
    go (no l) =
        let at : i ≡ length xs + (i - length xs) = omega arith in
        rw (ap (λ k. get_or (xs ++ ys) k 0) at ∙ get_or-append-add xs ys (i - length xs) 0) (q (i - length xs))

pub samples_dropped : (k : ℕ) (xs : List ℕ) → AreSamples xs → AreSamples (drop k xs)
samples_dropped k xs p i = rw (get_or-drop k xs i 0) (p (k + i))

through_even : (n : Size) (grey : ℕ) (samples : List ℕ) (z : ℕ) → Even (layer_through n grey samples z)
unfolding layer_through
through_even n grey samples z = handed_even n grey samples (layer_edges n (is_above_grey grey samples) z) (layer_triangles n (is_above_grey grey samples) z)

last_even : (n : Size) (grey : ℕ) (samples : List ℕ) (z : ℕ) → Even (last_layer n grey samples z)
unfolding last_layer
last_even n grey samples z = handed_even n grey samples (layer_edges n (is_above_grey grey samples) z) []

-- a layer more, and none
next_layer : (n : Size) (grey : ℕ) (samples : List ℕ) (z : ℕ) → first_layers n grey samples (suc z) ≡ both_handed (first_layers n grey samples z) (layer_through n grey samples z)
unfolding first_layers
next_layer n grey samples z = handed_next z (layer_through n grey samples)

no_layer : (n : Size) (grey : ℕ) (one other : List ℕ) → first_layers n grey one 0 ≡ both_handed (first_layers n grey other 0) nothing
unfolding first_layers all_handed both_handed join_to
no_layer n grey one other = refl

module _ (n : Size) (grey taken : ℕ) (samples : List ℕ) (sided : sides_fit n.nx n.ny n.nz ≡ true) (fit : SidesFit n.nx n.ny n.nz) (whole : length samples ≡ first_sample n taken) (small : AreSamples samples)
    (most : taken ≤ n.nz) where
  px : 0 < n.nx
  px = omega (arith, fit.least_x)

  py : 0 < n.ny
  py = omega (arith, fit.least_y)

  -- the layer that is kept
  abbrev kept : List ℕ
  kept = drop (first_sample n (taken - 1)) samples

  kept_long : 0 < taken → length kept ≡ layer_size n
  kept_long some =
      let up : taken ≡ taken - 1 + 1 = omega arith in
      omega (arith, length-drop (first_sample n (taken - 1)) samples, whole, ap (first_sample n) up, layers_on n (taken - 1) 1)

  kept_short : length kept ≤ layer_size n
  kept_short = go (dec_lt 0 taken)
    where
      go : Dec (0 < taken) → length kept ≤ layer_size n
      go (yes some) = omega (arith, kept_long some)
      go (no none) =
          let zero-taken : taken ≡ 0 = omega arith in
          omega (arith, length-drop (first_sample n (taken - 1)) samples, whole, ap (first_sample n) zero-taken, layers_on n 0 0)

  -- the state while the run is open, and what it has handed out
  abbrev pub had : Handed
  had = so_far n grey samples taken false

  abbrev room : List ℕ
  room = state_after n grey samples taken false

  abbrev s : State
  s = state_in room

  abbrev points : ℕ
  points = length had.edges

  abbrev triangles : ℕ
  triangles = length had.triangles

  -- what is read from it
  pub sides_is : s.sides ≡ n
  unfolding state_after
  sides_is = sides_read n grey taken 0 points triangles kept

  pub grey_is : s.grey ≡ grey
  unfolding state_after
  grey_is = grey_read n grey taken 0 points triangles kept

  pub taken_is : s.taken ≡ taken
  unfolding state_after
  taken_is = taken_read n grey taken 0 points triangles kept

  pub turn_read : s.taken < s.sides.nz → taken < n.nz
  turn_read h = omega (arith, h, taken_is, ap (λ n. n.nz) sides_is)

  pub all_read : s.sides.nz ≤ s.taken → taken ≡ n.nz
  all_read h = omega (arith, h, taken_is, ap (λ n. n.nz) sides_is)

  pub points_is : s.points ≡ points
  unfolding state_after
  points_is = points_read n grey taken 0 points triangles kept

  pub triangles_is : s.triangles ≡ triangles
  unfolding state_after
  triangles_is = triangles_read n grey taken 0 points triangles kept

  kept_is : 0 < taken → s.kept ≡ kept
  unfolding state_after
  kept_is some =
      kept_read n grey taken 0 points triangles kept (kept_long some) (omega (arith, kept_long some, layer_most fit)) (samples_dropped (first_sample n (taken - 1)) samples small)

  -- what a layer hands out, by the volume with it
  module _ (new : List ℕ) (turn : taken < n.nz) where
    abbrev pub hands : Handed
    hands = layer_hands s s.taken new

    pub first_handing : taken ≡ 0 → hands ≡ nothing
    unfolding layer_hands
    first_handing none = ap (λ t. layer_hands s t new) (taken_is ∙ none)

    pub next_handing : 0 < taken → hands ≡ layer_through n grey (samples ++ new) (taken - 1)
    unfolding layer_hands
    next_handing some =
        let z = taken - 1 in
        let up : taken ≡ suc z = omega arith in
        ap (λ t. layer_hands s t new) (taken_is ∙ up)
        ∙ (λ i. layer_through (sides_is i) (grey_is i) (zeros_below (layer_size (sides_is i)) z (kept_is some i ++ new)) z)
        ∙ layer_same n px py grey samples z new (omega (arith, whole, layers_rise n z taken (omega arith))) (omega arith)

    even : Even hands
    even = go (dec_lt 0 taken)
      where
        go : Dec (0 < taken) → Even hands
        go (yes some) = subst Even (sym (next_handing some)) (through_even n grey (samples ++ new) (taken - 1))
        go (no none) = subst Even (sym (first_handing (omega arith))) (refl, refl)

    pub grown : so_far n grey (samples ++ new) (taken + 1) false ≡ both_handed had hands
    unfolding so_far
    grown = go (dec_lt 0 taken)
      where
        here : taken + 1 - 1 ≡ taken
        here = omega arith

        go : Dec (0 < taken) → first_layers n grey (samples ++ new) (taken + 1 - 1) ≡ both_handed (first_layers n grey samples (taken - 1)) hands
        go (yes some) =
            let up : taken ≡ suc (taken - 1) = omega arith in
            ap (first_layers n grey (samples ++ new)) (here ∙ up)
            ∙ next_layer n grey (samples ++ new) (taken - 1)
            ∙ ap₂ both_handed (first_same n px py grey samples new taken whole (taken - 1) (omega arith) most) (sym (next_handing some))
        go (no none) =
            let gone : taken - 1 ≡ 0 = omega arith in
            let stays : taken ≡ 0 = omega arith in
            ap (first_layers n grey (samples ++ new)) (here ∙ stays) ∙ no_layer n grey (samples ++ new) samples ∙ ap₂ (λ k h. both_handed (first_layers n grey samples k) h) (sym gone) (sym (first_handing stays))

    -- after a granted layer
    module _ (r : Rooms) (small-new : AreSamples new) (got : Received) (got_is : got ≡ received had) (g : LayerGranted r room new) where
      abbrev p : ℕ
      p = length hands.edges

      abbrev t : ℕ
      t = length hands.triangles

      new_long : length new ≡ layer_size n
      new_long = g.right ∙ ap layer_size sides_is

      edges_long : length (so_far n grey (samples ++ new) (taken + 1) false).edges ≡ points + p
      unfolding both_handed
      edges_long = ap (λ h. length h.edges) grown ∙ length-append had.edges hands.edges

      triangles_long : length (so_far n grey (samples ++ new) (taken + 1) false).triangles ≡ triangles + t
      unfolding both_handed
      triangles_long = ap (λ h. length h.triangles) grown ∙ length-append had.triangles hands.triangles

      new_kept : drop (first_sample n (taken + 1 - 1)) (samples ++ new) ≡ new
      new_kept =
          let here : taken + 1 - 1 ≡ taken = omega arith in
          drop_at samples new (first_sample n (taken + 1 - 1)) (whole ∙ ap (first_sample n) (sym here))

      state_written : layered_room new p t room ≡ state_after n grey (samples ++ new) (taken + 1) false
      unfolding state_after
      state_written =
          layer_written n grey taken 0 points triangles kept new p t (omega (arith, kept_short, new_long))
          ∙ sym (λ i. standing n grey (taken + 1) 0 (edges_long i) (triangles_long i) (new_kept i))

      pub layer_stood : Stood n grey (taken + 1) (samples ++ new) false (granted r room hands (layered_room new p t room)).state
          (joined got (handed_by (granted r room hands (layered_room new p t room))))
      unfolding granted
      layer_stood =
          let points_few = (few_of most_points s.points (point_room r) p g.few_points).0 in
          let triangles_few = (few_of most_triangles s.triangles (triangle_room r) t g.few_triangles).0 in
          record {
            sided = sided;
            fit = fit;
            whole = omega (arith, length-append samples new, whole, new_long, layers_on n taken 1);
            small = samples_joined samples new small small-new;
            most = omega arith;
            ended = λ yes-over. absurd (false≢true yes-over);
            state_is = state_written;
            got_is = (λ i. joined (got_is i) (handed_granted r room hands (layered_room new p t room) even i)) ∙ sym (received_both had hands) ∙ ap received (sym grown);
            few_points = omega (arith, edges_long, points_is, points_few);
            few_triangles = omega (arith, triangles_long, triangles_is, triangles_few);
          }

  -- what a closing hands out, by the volume
  module _ (all : taken ≡ n.nz) where
    pub closing_handing : closing_hands s ≡ last_layer n grey samples (n.nz - 1)
    unfolding closing_hands
    closing_handing =
        let some : 0 < taken = omega (arith, fit.least_z) in
        let layer : taken - 1 ≡ n.nz - 1 = omega arith in
        let held : s.kept ≡ drop (first_sample n (n.nz - 1)) samples = kept_is some ∙ ap (λ z. drop (first_sample n z) samples) layer in
        (λ i. last_layer (sides_is i) (grey_is i) (zeros_below (layer_size (sides_is i)) ((sides_is i).nz - 1) (held i)) ((sides_is i).nz - 1))
        ∙ last_same n px py grey samples (n.nz - 1) (omega (arith, fit.least_z))

    pub whole_grown : so_far n grey samples taken true ≡ both_handed had (closing_hands s)
    unfolding so_far all_layers
    whole_grown =
        let layer : n.nz - 1 ≡ taken - 1 = omega arith in
        ap₂ both_handed (ap (first_layers n grey samples) layer) (sym closing_handing)

    module _ (r : Rooms) (got : Received) (got_is : got ≡ received had) (few-before : triangles ≤ most_triangles) (g : ClosingGranted r room) where
      abbrev last : ℕ
      last = length (closing_hands s).edges

      no_triangles : length (closing_hands s).triangles ≡ 0
      unfolding last_layer
      no_triangles = ap (λ h. length h.triangles) closing_handing

      all_points : length (so_far n grey samples taken true).edges ≡ points + last
      unfolding both_handed
      all_points = ap (λ h. length h.edges) whole_grown ∙ length-append had.edges (closing_hands s).edges

      all_triangles : length (so_far n grey samples taken true).triangles ≡ triangles
      unfolding both_handed
      all_triangles = omega (arith, ap (λ h. length h.triangles) whole_grown, length-append had.triangles (closing_hands s).triangles, no_triangles)

      end_written : closed_room last room ≡ state_after n grey samples taken true
      unfolding state_after
      end_written = closing_written n grey taken 0 points triangles kept last ∙ sym (λ i. standing n grey taken 1 (all_points i) (all_triangles i) kept)

      pub closing_stood : Stood n grey taken samples true (granted r room (closing_hands s) (closed_room last room)).state (joined got (handed_by (granted r room (closing_hands s) (closed_room last room))))
      unfolding granted
      closing_stood =
          let points_few = (few_of most_points s.points (point_room r) last g.few_points).0 in
          let even = subst Even (sym closing_handing) (last_even n grey samples (n.nz - 1)) in
          record {
            sided = sided;
            fit = fit;
            whole = whole;
            small = small;
            most = most;
            ended = λ yes-over. all;
            state_is = end_written;
            got_is = (λ i. joined (got_is i) (handed_granted r room (closing_hands s) (closed_room last room) even i)) ∙ sym (received_both had (closing_hands s)) ∙ ap received (sym whole_grown);
            few_points = omega (arith, all_points, points_is, points_few);
            few_triangles = omega (arith, all_triangles, few-before);
          }

-- a closed run takes no layer and no second closing
pub closed_read : (n : Size) (grey taken : ℕ) (samples : List ℕ) → (state_in (state_after n grey samples taken true)).closed ≡ 0 → ⊥
unfolding state_after
closed_read n grey taken samples h =
    let is = over_read n grey taken 1 (length (so_far n grey samples taken true).edges) (length (so_far n grey samples taken true).triangles) (drop (first_sample n (taken - 1)) samples) in
    absurd (omega (arith, is, h))
