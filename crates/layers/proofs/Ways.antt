-- The ways out of the three calls, each from what its tests said.
use mathlib.Core.Path.{◌≡◌, refl, ap, sym, ◌∙◌}
use mathlib.Core.List.{List, flat_map}
use mathlib.Core.Bool.{Bool, true, false, cond, not, ◌&&◌, ◌||◌}
use Prim.Native.Nat.{ℕ, ◌*◌, ◌≤◌}
use native.Mathlib.Nat.{add-zero}
use native.Mathlib.Omega.{arith}
use lib.Dec.{eqb, leb, ltb}
use lib.ListN.{length}
use borrow.Author.Tests.{le-ltb}
use Rattle.laws.specs.Room.{laid}
use Rattle.laws.specs.Mesh.{flat}
use Rattle.grid.specs.Limits.{most_number, most_points, most_triangles}
use Rattle.grid.specs.Sides.{sides_fit}
use Rattle.edgepoints.specs.EdgePoint.{point_rooms, RoomsFor}
use Rattle.layerstate.specs.declared.Head.{Head}
use Rattle.layerstate.specs.State.{state_length, state_in, is_state, opened_room, layered_room, closed_room}
use Rattle.layerstate.specs.Heads.{head_in}
use Rattle.layerparts.specs.Layer.{Handed}
use Rattle.layerparts.specs.Parts.{too_many, refusal_for}
use Rattle.layerparts.proofs.Most.{not_refused}
use Rattle.layers.specs.Outcome.{Rooms, Outcome, opened, point_room, triangle_room, refused, granted, layer_hands, layer_measured, closing_hands, closing_measured, with_state, layered, closed}
use Rattle.layers.specs.First.{first_taken}
use Rattle.layers.specs.Promise.{rooms, open_left, left}

-- an opening
module _ (nx ny nz grey : ℕ) (room : List ℕ) where
  pub open_sides : sides_fit nx ny nz ≡ false → open_left 1 room ≡ opened nx ny nz grey room
  unfolding opened
  open_sides h = rw h

  pub open_length : sides_fit nx ny nz ≡ true → eqb (length room) state_length ≡ false → open_left 3 room ≡ opened nx ny nz grey room
  unfolding opened
  open_length h k = rw (h, k)

  pub open_granted : sides_fit nx ny nz ≡ true → eqb (length room) state_length ≡ true → open_left 0 (opened_room nx ny nz grey) ≡ opened nx ny nz grey room
  unfolding opened
  open_granted h k = rw (h, k)

-- a first layer
module _ (layer room : List ℕ) where
  pub first_points : ltb most_points (head_in room).points ≡ true → open_left 4 room ≡ first_taken layer room
  unfolding first_taken state_in
  first_points h = rw h

  pub first_triangles : ltb most_points (head_in room).points ≡ false → ltb most_triangles (head_in room).triangles ≡ true → open_left 5 room ≡ first_taken layer room
  unfolding first_taken state_in
  first_triangles h k = rw (h, k)

  pub first_kept : ltb most_points (head_in room).points ≡ false → ltb most_triangles (head_in room).triangles ≡ false → open_left 0 (layered_room layer 0 0 room) ≡ first_taken layer room
  unfolding first_taken state_in
  first_kept h k = rw (h, k)

module _ (r : Rooms) (room : List ℕ) where
  -- the tests of the state
  pub state_length_lem : (next : Outcome) → eqb (length room) state_length ≡ false → left 3 0 0 r room ≡ with_state r room next
  unfolding with_state refused
  state_length_lem next h = rw h

  pub state_none : (next : Outcome) → eqb (length room) state_length ≡ true → (sides_fit (head_in room).nx (head_in room).ny (head_in room).nz && leb (head_in room).grey most_number) ≡ false
      → left 1 0 0 r room ≡ with_state r room next
  unfolding with_state refused is_state state_in
  state_none next h k = rw (h, k)

  pub state_some : (next : Outcome) → eqb (length room) state_length ≡ true → (sides_fit (head_in room).nx (head_in room).ny (head_in room).nz && leb (head_in room).grey most_number) ≡ true
      → next ≡ with_state r room next
  unfolding with_state is_state state_in
  state_some next h k = rw (h, k)

  -- what is handed out is too many, or fills the rooms
  module _ (layer : List ℕ) (h : Handed) where
    abbrev refusal : ℕ
    refusal = refusal_for (head_in room) (point_room r) (triangle_room r) (length h.edges) (length h.triangles)

    pub layer_refused : (refusal ≡ 0 → ⊥) → left refusal 0 0 r room ≡ layer_measured r room layer h
    unfolding layer_measured refusal_for refused state_in
    layer_refused some =
        go (too_many most_points (head_in room).points (point_room r) (length h.edges)) (too_many most_triangles (head_in room).triangles (triangle_room r) (length h.triangles))
        (granted r room h (layered_room layer (length h.edges) (length h.triangles) room))
        some
      where
        go : (a b : Bool) (o : Outcome) → (◌≡◌ {A = ℕ} (cond a 4 (cond b 5 0)) 0 → ⊥)
            → left (cond a 4 (cond b 5 0)) 0 0 r room ≡ cond a (left 4 0 0 r room) (cond b (left 5 0 0 r room) o)
        go true b o some = refl
        go false true o some = refl
        go false false o some = absurd (some refl)

    pub layer_granted : refusal ≡ 0 → granted r room h (layered_room layer (length h.edges) (length h.triangles) room) ≡ layer_measured r room layer h
    unfolding layer_measured state_in
    layer_granted none =
        let few = not_refused (head_in room) (point_room r) (triangle_room r) (length h.edges) (length h.triangles) none in
        rw (few.0, few.1)

  module _ (h : Handed) where
    pub last_refused : too_many most_points (head_in room).points (point_room r) (length h.edges) ≡ true → left 4 0 0 r room ≡ closing_measured r room h
    unfolding closing_measured refused state_in
    last_refused t = rw t

    pub last_granted : too_many most_points (head_in room).points (point_room r) (length h.edges) ≡ false → granted r room h (closed_room (length h.edges) room) ≡ closing_measured r room h
    unfolding closing_measured state_in
    last_granted t = rw t

-- what was left behind, part by part
module _ (r : Rooms) (room : List ℕ) (h : Handed) {found made : ℕ} {places edges marks triangles state after : List ℕ} where
  pub all_left : found ≡ length h.edges → made ≡ length h.triangles → places ≡ laid h.places r.points → edges ≡ laid h.edges r.edges → marks ≡ laid h.marks r.marks
      → triangles ≡ laid (flat h.triangles) r.triangles → state ≡ after → left 0 found made (rooms places edges marks triangles) state ≡ granted r room h after
  unfolding granted
  all_left f m p e k t s i = left 0 (f i) (m i) (rooms (p i) (e i) (k i) (t i)) (s i)

-- the rooms hold what they count
pub room_for : (r : Rooms) (count : ℕ) → count ≤ point_room r → RoomsFor count (point_rooms r.points r.edges r.marks)
room_for r count h = record { points = omega arith; edges = omega arith; marks = omega arith }

-- what is too many, and a refusal, depend on what they are told of
pub many_same : (most : ℕ) {so_far other room room' count count' : ℕ} → so_far ≡ other → room ≡ room' → count ≡ count' → too_many most so_far room count ≡ too_many most other room' count'
many_same most s r c i = too_many most (s i) (r i) (c i)

pub refusal_same : {head other : Head} {room room' points points' triangles triangles' : ℕ} (triangle_room : ℕ) → head ≡ other → room ≡ room' → points ≡ points' → triangles ≡ triangles'
    → refusal_for head room triangle_room points triangles ≡ refusal_for other room' triangle_room points' triangles'
refusal_same triangle_room h r p t i = refusal_for (h i) (r i) triangle_room (p i) (t i)

-- a first layer hands out nothing
first_measured : (r : Rooms) (room layer : List ℕ) → left (first_taken layer room).number 0 0 r (first_taken layer room).state ≡ layer_measured r room layer (layer_hands (state_in room) 0 layer)
unfolding layer_measured layer_hands first_taken refused granted laid flat flat_map state_in
first_measured r room layer =
    let p = (head_in room).points in
    let t = (head_in room).triangles in
    rw (add-zero p, add-zero t, le-ltb (point_room r) 0 (omega arith), le-ltb (triangle_room r) 0 (omega arith)) (go (ltb most_points p) (ltb most_triangles t) (layered_room layer 0 0 room))
  where
    go : (a b : Bool) (after : List ℕ)
        → left (cond a (open_left 4 room) (cond b (open_left 5 room) (open_left 0 after))).number 0 0 r (cond a (open_left 4 room) (cond b (open_left 5 room) (open_left 0 after))).state
        ≡ cond (a || false) (left 4 0 0 r room) (cond (b || false) (left 5 0 0 r room) (left 0 0 0 r after))
    go true b after = refl
    go false true after = refl
    go false false after = refl

first_left : (r : Rooms) (room layer : List ℕ) {number : ℕ} {state : List ℕ} → open_left number state ≡ first_taken layer room
    → left number 0 0 r state ≡ layer_measured r room layer (layer_hands (state_in room) 0 layer)
first_left r room layer kept = (λ i. left (kept i).number 0 0 r (kept i).state) ∙ first_measured r room layer

-- a layer and a closing, refused for the state
module _ (r : Rooms) (room : List ℕ) where
  pub layer_length : (layer : List ℕ) → eqb (length room) state_length ≡ false → left 3 0 0 r room ≡ layered r room layer
  unfolding layered
  layer_length layer h = state_length_lem r room _ h

  pub layer_none : (layer : List ℕ) → eqb (length room) state_length ≡ true → (sides_fit (head_in room).nx (head_in room).ny (head_in room).nz && leb (head_in room).grey most_number) ≡ false
      → left 1 0 0 r room ≡ layered r room layer
  unfolding layered
  layer_none layer h k = state_none r room _ h k

  pub closing_length : eqb (length room) state_length ≡ false → left 3 0 0 r room ≡ closed r room
  unfolding closed
  closing_length h = state_length_lem r room _ h

  pub closing_none : eqb (length room) state_length ≡ true → (sides_fit (head_in room).nx (head_in room).ny (head_in room).nz && leb (head_in room).grey most_number) ≡ false
      → left 1 0 0 r room ≡ closed r room
  unfolding closed
  closing_none h k = state_none r room _ h k

-- the ways through a layer and a closing, past the tests of the state
module _ (r : Rooms) (room : List ℕ) (long : eqb (length room) state_length ≡ true)
    (some : (sides_fit (head_in room).nx (head_in room).ny (head_in room).nz && leb (head_in room).grey most_number) ≡ true) where
  abbrev amiss : List ℕ → Bool
  amiss layer = not (eqb (length layer) ((head_in room).nx * (head_in room).ny)) || (leb (head_in room).nz (head_in room).taken || not (eqb (head_in room).closed 0))

  pub layer_amiss_lem : (layer : List ℕ) → amiss layer ≡ true → left 17 0 0 r room ≡ layered r room layer
  unfolding layered refused state_in
  layer_amiss_lem layer t = rw t (state_some r room (left 17 0 0 r room) long some)

  pub layer_taken : (layer : List ℕ) → amiss layer ≡ false → layer_measured r room layer (layer_hands (state_in room) (head_in room).taken layer) ≡ layered r room layer
  unfolding layered state_in
  layer_taken layer t = rw t (state_some r room _ long some)

  pub first_layered : (layer : List ℕ) {number : ℕ} {state : List ℕ} → amiss layer ≡ false → (head_in room).taken ≡ 0 → open_left number state ≡ first_taken layer room
      → left number 0 0 r state ≡ layered r room layer
  first_layered layer t none kept =
      first_left r room layer kept ∙ ap (λ n. layer_measured r room layer (layer_hands (state_in room) n layer)) (sym none) ∙ layer_taken layer t

  abbrev early : Bool
  early = ltb (head_in room).taken (head_in room).nz || not (eqb (head_in room).closed 0)

  pub closing_early : early ≡ true → left 18 0 0 r room ≡ closed r room
  unfolding closed refused state_in
  closing_early t = rw t (state_some r room (left 18 0 0 r room) long some)

  pub closing_taken : early ≡ false → closing_measured r room (closing_hands (state_in room)) ≡ closed r room
  unfolding closed state_in
  closing_taken t = rw t (state_some r room _ long some)
