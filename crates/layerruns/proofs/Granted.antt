-- What a granted layer or closing says of its state, and what it handed out; and that a refused one leaves everything.
use mathlib.Core.Path.{◌≡◌, refl}
use mathlib.Core.List.{List}
use mathlib.Core.Bool.{Bool, true, false, cond, not, ◌||◌}
use Prim.Native.Nat.{ℕ, ◌*◌, ◌≤◌, ◌<◌}
use native.Mathlib.Omega.{arith}
use lib.Dec.{eqb, leb, ltb}
use lib.ListN.{length, length-map}
use borrow.Author.Tests.{eqb-true, eq-eqb, not-false, ltb-false, le-ltb, leb-false, lt-leb}
use Rattle.laws.specs.Mesh.{Triangle, flat}
use Rattle.laws.proofs.Tests.{neither}
use Rattle.laws.proofs.Rooms.{laid_read}
use Rattle.laws.proofs.Ranges.{length_flat}
use Rattle.laws.proofs.Sides.{length_corners}
use Rattle.grid.specs.Limits.{most_points, most_triangles}
use Rattle.grid.specs.Grid.{Size, axes, mark}
use Rattle.grid.specs.Point.{place}
use Rattle.layerstate.specs.State.{layer_size, state_length, State, state_in, is_state, layered_room, closed_room}
use Rattle.layerparts.specs.Layer.{Handed, handed}
use Rattle.layerparts.specs.Parts.{too_many}
use Rattle.layers.specs.Outcome.{Rooms, Outcome, point_room, triangle_room, refused, granted, layer_hands, layer_measured, closing_hands, closing_measured, with_state, layered, closed}
use Rattle.layerruns.specs.Run.{handed_by}
use Rattle.layerruns.specs.SoFar.{received}

-- three coordinates a point, and a mark
abbrev pub Even : Handed → Type 0
Even h = (length h.places ≡ 3 * length h.edges) × (length h.marks ≡ length h.edges)

pub handed_even : (n : Size) (grey : ℕ) (samples edges : List ℕ) (triangles : List Triangle) → Even (handed n grey samples edges triangles)
unfolding place
handed_even n grey samples edges triangles = (length_flat 3 (place axes n grey samples) (λ e. refl) edges, length-map edges (mark axes n))

module _ (r : Rooms) (room : List ℕ) where
  abbrev s : State
  s = state_in room

  abbrev Keeps : Outcome → Type 0
  Keeps o = (o.number ≡ 0 → ⊥) → o ≡ refused r room o.number

  -- what a granted layer says
  module _ (layer : List ℕ) where
    abbrev hands : Handed
    hands = layer_hands s s.taken layer

    pub record LayerGranted : Type 0 where
      pub long : length room ≡ state_length
      pub some : is_state s ≡ true
      pub right : length layer ≡ layer_size s.sides
      pub turn : s.taken < s.sides.nz
      pub still_open : s.closed ≡ 0
      pub few_points : too_many most_points s.points (point_room r) (length hands.edges) ≡ false
      pub few_triangles : too_many most_triangles s.triangles (triangle_room r) (length hands.triangles) ≡ false
      pub outcome : layered r room layer ≡ granted r room hands (layered_room layer (length hands.edges) (length hands.triangles) room)

    abbrev by_tests : Bool → Bool → Bool → Bool → Bool → Outcome → Outcome
    by_tests a b c d e g = cond (not a) (refused r room 3) (cond (not b) (refused r room 1) (cond c (refused r room 17) (cond d (refused r room 4) (cond e (refused r room 5) g))))

    -- the five tests, each either way
    five : (a b c d e : Bool) (g : Outcome) → (by_tests a b c d e g).number ≡ 0 → (a ≡ true) × (b ≡ true) × (c ≡ false) × (d ≡ false) × (e ≡ false) × (by_tests a b c d e g ≡ g)
    unfolding refused
    five false b c d e g z = absurd (omega (arith, z))
    five true false c d e g z = absurd (omega (arith, z))
    five true true true d e g z = absurd (omega (arith, z))
    five true true false true e g z = absurd (omega (arith, z))
    five true true false false true g z = absurd (omega (arith, z))
    five true true false false false g z = (refl, refl, refl, refl, refl, refl)

    five_keep : (a b c d e : Bool) (g : Outcome) → g.number ≡ 0 → Keeps (by_tests a b c d e g)
    unfolding refused
    five_keep false b c d e g none some = refl
    five_keep true false c d e g none some = refl
    five_keep true true true d e g none some = refl
    five_keep true true false true e g none some = refl
    five_keep true true false false true g none some = refl
    five_keep true true false false false g none some = absurd (some none)

    abbrev amiss : Bool
    amiss = not (eqb (length layer) (layer_size s.sides)) || (leb s.sides.nz s.taken || not (eqb s.closed 0))

    pub layer_granted : (layered r room layer).number ≡ 0 → LayerGranted
    unfolding layered with_state layer_measured
    layer_granted z =
        let t = five (eqb (length room) state_length) (is_state s) amiss (too_many most_points s.points (point_room r) (length hands.edges))
        (too_many most_triangles s.triangles (triangle_room r) (length hands.triangles))
        _
        z in
        let right = neither (not (eqb (length layer) (layer_size s.sides))) _ t.2 in
        let turn = neither (leb s.sides.nz s.taken) _ right.1 in
        record {
          long = eqb-true _ _ t.0;
          some = t.1;
          right = eqb-true _ _ (not-false _ right.0);
          turn = leb-false _ _ turn.0;
          still_open = eqb-true _ _ (not-false _ turn.1);
          few_points = t.3;
          few_triangles = t.4;
          outcome = t.5;
        }

    -- and what a layer needs to be granted
    pub layer_grants : length room ≡ state_length → is_state s ≡ true → length layer ≡ layer_size s.sides → s.taken < s.sides.nz → s.closed ≡ 0
        → too_many most_points s.points (point_room r) (length hands.edges) ≡ false → too_many most_triangles s.triangles (triangle_room r) (length hands.triangles) ≡ false
        → (layered r room layer).number ≡ 0
    unfolding layered with_state layer_measured granted
    layer_grants long some right turn still_open few_points few_triangles =
        rw (
          eq-eqb (length room) state_length long,
          some,
          eq-eqb (length layer) (layer_size s.sides) right,
          lt-leb s.sides.nz s.taken turn,
          eq-eqb s.closed 0 still_open,
          few_points,
          few_triangles,
        )

    -- a refused layer leaves every room and the state, and gives zero counts
    pub layer_keeps : Keeps (layered r room layer)
    unfolding layered with_state layer_measured granted
    layer_keeps =
        five_keep (eqb (length room) state_length) (is_state s) amiss (too_many most_points s.points (point_room r) (length hands.edges))
        (too_many most_triangles s.triangles (triangle_room r) (length hands.triangles))
        _
        refl

  -- what a granted closing says
  pub record ClosingGranted : Type 0 where
    pub long : length room ≡ state_length
    pub some : is_state s ≡ true
    pub turn : s.sides.nz ≤ s.taken
    pub still_open : s.closed ≡ 0
    pub few_points : too_many most_points s.points (point_room r) (length (closing_hands s).edges) ≡ false
    pub outcome : closed r room ≡ granted r room (closing_hands s) (closed_room (length (closing_hands s).edges) room)

  abbrev by_four : Bool → Bool → Bool → Bool → Outcome → Outcome
  by_four a b c d g = cond (not a) (refused r room 3) (cond (not b) (refused r room 1) (cond c (refused r room 18) (cond d (refused r room 4) g)))

  four : (a b c d : Bool) (g : Outcome) → (by_four a b c d g).number ≡ 0 → (a ≡ true) × (b ≡ true) × (c ≡ false) × (d ≡ false) × (by_four a b c d g ≡ g)
  unfolding refused
  four false b c d g z = absurd (omega (arith, z))
  four true false c d g z = absurd (omega (arith, z))
  four true true true d g z = absurd (omega (arith, z))
  four true true false true g z = absurd (omega (arith, z))
  four true true false false g z = (refl, refl, refl, refl, refl)

  four_keep : (a b c d : Bool) (g : Outcome) → g.number ≡ 0 → Keeps (by_four a b c d g)
  unfolding refused
  four_keep false b c d g none some = refl
  four_keep true false c d g none some = refl
  four_keep true true true d g none some = refl
  four_keep true true false true g none some = refl
  four_keep true true false false g none some = absurd (some none)

  abbrev early : Bool
  early = ltb s.taken s.sides.nz || not (eqb s.closed 0)

  pub closing_granted : (closed r room).number ≡ 0 → ClosingGranted
  unfolding closed with_state closing_measured
  closing_granted z =
      let t = four (eqb (length room) state_length) (is_state s) early (too_many most_points s.points (point_room r) (length (closing_hands s).edges)) _ z in
      let turn = neither (ltb s.taken s.sides.nz) _ t.2 in
      record {
        long = eqb-true _ _ t.0;
        some = t.1;
        turn = ltb-false _ _ turn.0;
        still_open = eqb-true _ _ (not-false _ turn.1);
        few_points = t.3;
        outcome = t.4;
      }

  pub closing_grants : length room ≡ state_length → is_state s ≡ true → s.sides.nz ≤ s.taken → s.closed ≡ 0
      → too_many most_points s.points (point_room r) (length (closing_hands s).edges) ≡ false → (closed r room).number ≡ 0
  unfolding closed with_state closing_measured granted
  closing_grants long some turn still_open few_points =
      rw (eq-eqb (length room) state_length long, some, le-ltb s.taken s.sides.nz turn, eq-eqb s.closed 0 still_open, few_points)

  pub closing_keeps : Keeps (closed r room)
  unfolding closed with_state closing_measured granted
  closing_keeps = four_keep (eqb (length room) state_length) (is_state s) early (too_many most_points s.points (point_room r) (length (closing_hands s).edges)) _ refl

  -- what a granted call handed out, read from the front of its rooms
  pub handed_granted : (h : Handed) (after : List ℕ) → Even h → handed_by (granted r room h after) ≡ received h
  unfolding handed_by granted received
  handed_granted h after even =
      let places = laid_read h.places r.points (3 * length h.edges) even.0 in
      let listed = laid_read h.edges r.edges (length h.edges) refl in
      let marked = laid_read h.marks r.marks (length h.edges) even.1 in
      let cornered = laid_read (flat h.triangles) r.triangles (3 * length h.triangles) (length_corners h.triangles) in
      λ i. record { places = places i; edges = listed i; marks = marked i; corners = cornered i }
