-- With rooms that hold what one call can hand out, every call of a run is granted if and only if the whole mesh is within both bounds.
use mathlib.Core.Path.{◌≡◌, refl, ap, ap₂, sym, subst, ◌∙◌}
use mathlib.Core.List.{List, [], ◌++◌}
use mathlib.Core.Bool.{Bool, true, false, ◌&&◌}
use Prim.Native.Nat.{ℕ, zero, suc, ◌+◌, ◌*◌, ◌-◌, ◌<◌, ◌≤◌}
use native.Mathlib.Decide.{dec_lt}
use native.Mathlib.Numerals.{add-one}
use native.Mathlib.Omega.{arith}
use lib.Dec.{leb}
use lib.ListN.{length, get_or, take, drop, length-append, length-take, length-drop, length-replicate, take-append-drop, get_or-eq_default}
use lib.Seq.{length-take-le, length-sets, take-add, take_all, get_or-take}
use borrow.Author.Tests.{le-leb, eq-eqb}
use Rattle.laws.specs.Range.{join_to}
use Rattle.laws.proofs.Ranges.{length_join, sum_rises}
use Rattle.cube.specs.Answer.{most_case_triangles}
use Rattle.grid.specs.Limits.{most_number, most_points, most_triangles}
use Rattle.grid.specs.Sides.{sides_fit}
use Rattle.grid.specs.Grid.{Size, sample_count, axes, is_above_grey}
use Rattle.grid.specs.Point.{point_edges}
use Rattle.grid.specs.Mode.{cubes}
use Rattle.grid.specs.Mesh.{edge_mesh}
use Rattle.grid.specs.Work.{size}
use Rattle.layerstate.specs.State.{layer_size, most_layer, kept_at, state_length, State, state_in, is_state}
use Rattle.layerparts.specs.Layer.{first_sample, layer_edges, layer_triangles, Handed, layer_through, last_layer}
use Rattle.layerparts.proofs.Most.{not_many}
use Rattle.layerparts.proofs.Local.{layers_on, layers_rise}
use Rattle.layerparts.proofs.Counted.{points_most, triangles_most}
use Rattle.layers.specs.Outcome.{Rooms, point_room, triangle_room, closing_hands, opened, layered, closed}
use Rattle.layerruns.specs.Run.{Received, AreSamples, joined, handed_by, none, Run, opening, layer, closing}
use Rattle.layerruns.specs.SoFar.{both_handed, first_layers, so_far, standing, state_after, Stood}
use Rattle.layerruns.specs.Whole.{HoldsLayer}
use Rattle.layerruns.proofs.Granted.{layer_grants, closing_grants}
use Rattle.layerruns.proofs.Standing.{over_read}
use Rattle.layerruns.proofs.Volumes.{first_same}
use Rattle.layerruns.proofs.Steps.{samples_dropped, hands, sides_is, grey_is, taken_is, points_is, triangles_is, first_handing, next_handing, grown, closing_handing, whole_grown}
use Rattle.layerruns.proofs.PutTogether.{all_edges, all_triangles, firsts, all_handed_lem, within_bounds}
use Rattle.layerruns.proofs.RunState.{run_stood}

-- an open state is as long as a state, and is one
module _ (n : Size) (grey taken : ℕ) (samples : List ℕ) (grey_fits : grey ≤ most_number) {state : List ℕ} {got : Received} (stood : Stood n grey taken samples false state got) where
  abbrev room : List ℕ
  room = state_after n grey samples taken false

  room_long : length room ≡ state_length
  unfolding state_after standing
  room_long = length-sets _ kept_at (drop (first_sample n (taken - 1)) samples) ∙ omega (arith, length-replicate {A = ℕ} most_layer 0)

  room_state : is_state (state_in room) ≡ true
  unfolding is_state
  room_state =
      let sides = sides_is n grey taken samples stood.sided stood.fit stood.whole stood.small stood.most in
      let value = grey_is n grey taken samples stood.sided stood.fit stood.whole stood.small stood.most in
      (λ i. sides_fit (sides i).nx (sides i).ny (sides i).nz && leb (value i) most_number) ∙ ap₂ ◌&&◌ stood.sided (le-leb grey most_number grey_fits)

  room_open : (state_in room).closed ≡ 0
  unfolding state_after
  room_open = over_read n grey taken 0 _ _ (drop (first_sample n (taken - 1)) samples)

module _ (nx ny nz grey : ℕ) (volume : List ℕ) where
  abbrev n : Size
  n = size nx ny nz

  abbrev above : ℕ → Bool
  above = is_above_grey grey volume

  -- layer z of the volume, and the layers before it
  abbrev layer_of : ℕ → List ℕ
  layer_of z = take (layer_size n) (drop (first_sample n z) volume)

  abbrev before : ℕ → List ℕ
  before z = take (first_sample n z) volume

  module _ (whole : length volume ≡ sample_count n) (small : AreSamples volume) (grey_fits : grey ≤ most_number) (few_points : length (point_edges axes n above) ≤ most_points)
      (few_triangles : length (edge_mesh cubes n above) ≤ most_triangles) where
    one_more : (z : ℕ) → before z ++ layer_of z ≡ before (z + 1)
    one_more z =
        let next : first_sample n (z + 1) ≡ first_sample n z + layer_size n = omega (arith, layers_on n z 1) in
        sym (ap (λ k. take k volume) next ∙ take-add (first_sample n z) (layer_size n) volume)

    before_long : (z : ℕ) → z ≤ nz → length (before z) ≡ first_sample n z
    before_long z h = length-take-le (first_sample n z) volume (omega (arith, whole, layers_rise n z nz h))

    layer_long : (z : ℕ) → z < nz → length (layer_of z) ≡ layer_size n
    layer_long z h =
        length-take-le (layer_size n) (drop (first_sample n z) volume)
        (omega (arith, length-drop (first_sample n z) volume, whole, layers_rise n (z + 1) nz (omega arith), layers_on n z 1))

    -- fewer layers have fewer points and triangles
    points_few : (many : ℕ) → many ≤ nz → 0 < nz → length (join_to many (layer_edges n above)) ≤ most_points
    points_few many h some =
        omega (
          arith,
          length_join many (layer_edges n above),
          length_join nz (layer_edges n above),
          sum_rises many nz (λ z. length (layer_edges n above z)) h,
          ap length (all_edges n grey volume some),
          few_points,
        )

    triangles_few : (many : ℕ) → many ≤ nz - 1 → 0 < nz → length (join_to many (layer_triangles n above)) ≤ most_triangles
    triangles_few many h some =
        omega (
          arith,
          length_join many (layer_triangles n above),
          length_join (nz - 1) (layer_triangles n above),
          sum_rises many (nz - 1) (λ z. length (layer_triangles n above z)) h,
          ap length (all_triangles n grey volume some),
          few_triangles,
        )

    module _ {taken : ℕ} {state : List ℕ} {got : Received} (run : Run nx ny nz grey taken (before taken) false state got) where
      stood : Stood n grey taken (before taken) false state got
      stood = run_stood nx ny nz grey run

      abbrev s : State
      s = state_in (state_after n grey (before taken) taken false)

      some : 0 < nz
      some = omega (arith, stood.fit.least_z)

      module _ (turn : taken < nz) where
        abbrev new : List ℕ
        new = layer_of taken

        abbrev handing : Handed
        handing = hands n grey taken (before taken) stood.sided stood.fit stood.whole stood.small stood.most new turn

        -- what the call hands out at most
        most : (length handing.edges ≤ 3 * layer_size n) × (length handing.triangles ≤ most_case_triangles * layer_size n)
        unfolding layer_through
        most = go (dec_lt 0 taken)
          where
            go : Dec (0 < taken) → (length handing.edges ≤ 3 * layer_size n) × (length handing.triangles ≤ most_case_triangles * layer_size n)
            go (yes more) =
                let is = next_handing n grey taken (before taken) stood.sided stood.fit stood.whole stood.small stood.most new turn more in
                let there = is_above_grey grey (before taken ++ new) in (
                  omega (arith, ap (λ h. length h.edges) is, points_most n there (taken - 1)),
                  omega (arith, ap (λ h. length h.triangles) is, triangles_most n there (taken - 1)),
                )
            go (no first) =
                let is = first_handing n grey taken (before taken) stood.sided stood.fit stood.whole stood.small stood.most new turn (omega arith) in
                (omega (arith, ap (λ h. length h.edges) is), omega (arith, ap (λ h. length h.triangles) is))

        -- with this call's, what was handed out is what the first layers of the volume have
        together : both_handed (so_far n grey (before taken) taken false) handing ≡ first_layers n grey volume taken
        unfolding so_far
        together =
            let here : taken + 1 - 1 ≡ taken = omega arith in
            let rest = drop (first_sample n (taken + 1)) volume in
            sym (grown n grey taken (before taken) stood.sided stood.fit stood.whole stood.small stood.most new turn)
            ∙ ap₂ (first_layers n grey) (one_more taken) here
            ∙ sym
            (first_same n (omega (arith, stood.fit.least_x)) (omega (arith, stood.fit.least_y)) grey (before (taken + 1)) rest (taken + 1) (before_long (taken + 1) (omega arith)) taken (omega arith)
            (omega arith))
            ∙ ap (λ v. first_layers n grey v taken) (take-append-drop (first_sample n (taken + 1)) volume)

        pub layer_goes_on : (r : Rooms) → HoldsLayer n r → (layered r state new).number ≡ 0
        unfolding both_handed
        layer_goes_on r holds =
            let f = firsts n grey volume some taken in
            let had-points = so_far n grey (before taken) taken false in
            let points = ap (λ h. length h.edges) (together ∙ f) in
            let triangles = ap (λ h. length h.triangles) (together ∙ f) in
            let read-points = points_is n grey taken (before taken) stood.sided stood.fit stood.whole stood.small stood.most in
            let read-triangles = triangles_is n grey taken (before taken) stood.sided stood.fit stood.whole stood.small stood.most in
            let sides = sides_is n grey taken (before taken) stood.sided stood.fit stood.whole stood.small stood.most in
            let read_taken = taken_is n grey taken (before taken) stood.sided stood.fit stood.whole stood.small stood.most in
            ap (λ room. (layered r room new).number) stood.state_is
            ∙ layer_grants r _ new (room_long n grey taken (before taken) grey_fits stood) (room_state n grey taken (before taken) grey_fits stood) (layer_long taken turn ∙ ap layer_size (sym sides))
            (omega (arith, turn, read_taken, ap (λ n. n.nz) sides))
            (room_open n grey taken (before taken) grey_fits stood)
            (not_many most_points s.points (point_room r) (length handing.edges) (omega (arith, read-points, length-append had-points.edges handing.edges, points, points_few taken (omega arith) some)) (omega (arith, most.0, holds.0)))
            (not_many most_triangles s.triangles (triangle_room r) (length handing.triangles) (omega (arith, read-triangles, length-append had-points.triangles handing.triangles, triangles, triangles_few taken (omega arith) some))
            (omega (arith, most.1, holds.1)))

    module _ {state : List ℕ} {got : Received} (run : Run nx ny nz grey nz volume false state got) where
      done : Stood n grey nz volume false state got
      done = run_stood nx ny nz grey run

      pub closing_goes_on : (r : Rooms) → 3 * layer_size n ≤ point_room r → (closed r state).number ≡ 0
      unfolding so_far both_handed last_layer
      closing_goes_on r holds =
          let there : 0 < nz = omega (arith, done.fit.least_z) in
          let handing = closing_handing n grey nz volume done.sided done.fit done.whole done.small done.most refl in
          let all = sym (whole_grown n grey nz volume done.sided done.fit done.whole done.small done.most refl) ∙ all_handed_lem n grey volume there in
          let sides = sides_is n grey nz volume done.sided done.fit done.whole done.small done.most in
          let read_taken = taken_is n grey nz volume done.sided done.fit done.whole done.small done.most in
          let read-points = points_is n grey nz volume done.sided done.fit done.whole done.small done.most in
          let s = state_in (state_after n grey volume nz false) in
          ap (λ room. (closed r room).number) done.state_is
          ∙ closing_grants r _ (room_long n grey nz volume grey_fits done) (room_state n grey nz volume grey_fits done) (omega (arith, read_taken, ap (λ n. n.nz) sides))
          (room_open n grey nz volume grey_fits done)
          (not_many most_points s.points (point_room r) (length (closing_hands s).edges)
          (omega (arith, read-points, length-append (so_far n grey volume nz false).edges (closing_hands s).edges, ap (λ h. length h.edges) all, few_points))
          (omega (arith, ap (λ h. length h.edges) handing, points_most n above (nz - 1), holds)))

    -- so a run takes all layers and is closed, whatever the rooms are that hold a layer's
    samples_cut : (many : ℕ) (xs : List ℕ) → AreSamples xs → AreSamples (take many xs)
    samples_cut many xs p i = go (dec_lt i many)
      where
        go : Dec (i < many) → get_or (take many xs) i 0 ≤ most_number
        go (yes l) = rw (get_or-take many xs i 0 l) (p i)
        go (no l) = rw (get_or-eq_default (take many xs) 0 {n = i} (omega (arith, length-take many xs))) (omega arith)

    module _ (room : List ℕ) (long : length room ≡ state_length) (sided : sides_fit nx ny nz ≡ true) (rooms : ℕ → Rooms) (hold : (z : ℕ) → HoldsLayer n (rooms z)) where
      opens : (opened nx ny nz grey room).number ≡ 0
      unfolding opened
      opens = rw (sided, eq-eqb (length room) state_length long)

      reach : (taken : ℕ) → taken ≤ nz → (state : List ℕ) × (got : Received) × Run nx ny nz grey taken (before taken) false state got
      reach zero h =
          let empty : [] ≡ before 0 = ap (λ k. take k volume) (sym first_none) in
          (_, _, subst (λ samples. Run nx ny nz grey 0 samples false (opened nx ny nz grey room).state none) empty (opening room (opened nx ny nz grey room) refl opens))
        where
          first_none : first_sample n 0 ≡ 0
          first_none = omega (arith, layers_on n 0 0)
      reach (suc taken) h =
          let so = reach taken (omega arith) in
          let r = rooms taken in
          let after = layered r so.0 (layer_of taken) in
          let granted = layer_goes_on so.2 (omega arith) r (hold taken) in
          let run = layer so.2 (layer_of taken) (samples_cut (layer_size n) _ (samples_dropped (first_sample n taken) volume small)) r after refl granted in (
            _,
            _,
            subst (λ k. Run nx ny nz grey k (before k) false after.state (joined so.1 (handed_by after))) (add-one taken)
                (subst (λ samples. Run nx ny nz grey (taken + 1) samples false after.state (joined so.1 (handed_by after))) (one_more taken) run),
          )

      pub whole_run : (state : List ℕ) × (got : Received) × Run nx ny nz grey nz volume true state got
      whole_run =
          let so = reach nz (omega arith) in
          let all : before nz ≡ volume = take_all (sample_count n) volume (omega (arith, whole)) in
          let run = subst (λ samples. Run nx ny nz grey nz samples false so.0 so.1) all so.2 in
          let r = rooms nz in
          (_, _, closing run r (closed r so.0) refl (closing_goes_on run r (hold nz).0))

-- With rooms that hold a layer's at each call, a run takes the volume and is closed if and only if its mesh is within both bounds.
module _ (nx ny nz grey : ℕ) (volume : List ℕ) where
  abbrev Within : Type 0
  Within =
      (length (point_edges axes (size nx ny nz) (is_above_grey grey volume)) ≤ most_points) × (length (edge_mesh cubes (size nx ny nz) (is_above_grey grey volume)) ≤ most_triangles)

  abbrev Granted : Type 0
  Granted = (state : List ℕ) × (got : Received) × Run nx ny nz grey nz volume true state got

  pub granted_alike : length volume ≡ sample_count (size nx ny nz) → AreSamples volume → grey ≤ most_number → sides_fit nx ny nz ≡ true → (room : List ℕ) → length room ≡ state_length
      → (rooms : ℕ → Rooms) → ((z : ℕ) → HoldsLayer (size nx ny nz) (rooms z)) → (Within → Granted) × (Granted → Within)
  granted_alike whole small grey_fits sided room long rooms hold =
      ((λ few. whole_run nx ny nz grey volume whole small grey_fits few.0 few.1 room long sided rooms hold), λ all. within_bounds all.2)
