-- The ways out of the two calls, each leaving the outcome that is defined.
use mathlib.Core.Path.{◌≡◌, refl, ap, sym, ◌∙◌}
use mathlib.Core.List.{List}
use mathlib.Core.Bool.{Bool, true, false, cond}
use Prim.Native.Nat.{ℕ, min}
use lib.Dec.{eqb, ltb}
use lib.ListN.{length, replicate}
use borrow.Author.Tests.{eq-eqb, ne_eqb}
use Rattle.grid.specs.Limits.{halvings, most_points, most_triangles}
use Rattle.grid.specs.Sides.{sides_fit}
use Rattle.grid.specs.Grid.{Size, axes, sample_count, edge_count}
use Rattle.grid.specs.Mode.{cubes}
use Rattle.grid.specs.Work.{size}
use Rattle.extract.specs.Extraction.{Rooms, Outcome, refused, cleared, point_room, point_list, triangle_room, triangle_list, granted, measured}
use Rattle.extract.specs.Promise.{rooms, left}
use Rattle.summary.specs.Blocks.{summary_of, summary_length, is_summary}
use Rattle.summary.specs.Steps.{step_at, looked}
use Rattle.query.specs.Query.{built, no_summary, query_refused, answered, queried}
use Rattle.query.specs.Promise.{built_left, query_left}

-- ---- past 19: what the extractor leaves
-- if it is refused its counts are zero
refused_counts : (n : Size) (grey : ℕ) (samples : List ℕ) (r : Rooms) → let o = measured cubes n grey samples r in (o.number ≡ 0 → ⊥) → o ≡ left o.number 0 0 o.rooms
unfolding measured refused granted
refused_counts n grey samples r =
    go (ltb (min most_points (point_room cubes n grey samples r)) (length (point_list cubes n grey samples r)))
    (ltb (min most_triangles (triangle_room cubes n grey samples r)) (length (triangle_list cubes n grey samples r)))
  where
    go : (a b : Bool)
        → let o = cond a (refused 4 (cleared r)) (cond b (refused 5 (cleared r)) (granted cubes n grey samples r)) in
        (o.number ≡ 0 → ⊥) → o ≡ left o.number 0 0 o.rooms
    go true b h = refl
    go false true h = refl
    go false false h = absurd (h refl)

module _ (nx ny nz grey : ℕ) (samples summary : List ℕ) (r : Rooms) where
  abbrev mesh : Outcome
  mesh = measured cubes (size nx ny nz) grey samples r

  pub mesh_refused : (number p t : ℕ) (after : Rooms) → left number p t after ≡ mesh → (number ≡ 0 → ⊥) → query_left number 0 0 0 after ≡ answered nx ny nz grey samples summary r
  unfolding answered
  mesh_refused number p t after e h =
      let is : number ≡ mesh.number = ap (λ o. o.number) e in
      let counts = refused_counts (size nx ny nz) grey samples r (λ z. h (is ∙ z)) in
      let places : after ≡ mesh.rooms = ap (λ o. o.rooms) e in
      let whole : left number 0 0 after ≡ mesh = (λ i. left (is i) 0 0 (places i)) ∙ sym counts in
      let none : 0 ≡ cond (eqb mesh.number 0) (looked (step_at summary grey) halvings 0 0 0) 0
      = rw (ne_eqb mesh.number 0 (λ z. h (is ∙ z))) in
      λ i. record { mesh = whole i; block_count = none i }

  pub mesh_granted : (p t blocks : ℕ) (after : Rooms) → left 0 p t after ≡ mesh → blocks ≡ looked (step_at summary grey) halvings 0 0 0
      → query_left 0 p t blocks after ≡ answered nx ny nz grey samples summary r
  unfolding answered
  mesh_granted p t blocks after e b =
      let zero : mesh.number ≡ 0 = sym (ap (λ o. o.number) e) in
      let all : blocks ≡ cond (eqb mesh.number 0) (looked (step_at summary grey) halvings 0 0 0) 0
      = b ∙ (rw (eq-eqb mesh.number 0 zero)) in
      λ i. record { mesh = e i; block_count = all i }

  -- ---- the refusals by sides and lengths, 19, and the way past them
  pub refused_sides : sides_fit nx ny nz ≡ false → query_left 1 0 0 0 r ≡ queried nx ny nz grey samples summary r
  unfolding queried query_refused refused
  refused_sides h = rw h

  module _ (fit : sides_fit nx ny nz ≡ true) where
    pub refused_samples : (length samples ≡ sample_count (size nx ny nz) → ⊥) → query_left 2 0 0 0 r ≡ queried nx ny nz grey samples summary r
    unfolding queried query_refused refused
    refused_samples h = rw (fit, ne_eqb (length samples) (sample_count (size nx ny nz)) h)

    module _ (samples_are : length samples ≡ sample_count (size nx ny nz)) where
      pub refused_work : (length r.work ≡ edge_count axes (size nx ny nz) → ⊥) → query_left 3 0 0 0 r ≡ queried nx ny nz grey samples summary r
      unfolding queried query_refused refused
      refused_work h =
          rw (fit, eq-eqb (length samples) (sample_count (size nx ny nz)) samples_are, ne_eqb (length r.work) (edge_count axes (size nx ny nz)) h)

      module _ (work-is : length r.work ≡ edge_count axes (size nx ny nz)) where
        pub refused_summary : (work : List ℕ) → is_summary (size nx ny nz) samples summary ≡ false → work ≡ replicate (length r.work) 0
            → query_left no_summary 0 0 0 (rooms r.points r.edges r.marks r.triangles work) ≡ queried nx ny nz grey samples summary r
        unfolding queried query_refused refused cleared
        refused_summary work h w =
            rw (
              fit,
              eq-eqb (length samples) (sample_count (size nx ny nz)) samples_are,
              eq-eqb (length r.work) (edge_count axes (size nx ny nz)) work-is,
              h,
              w,
            )

        pub past_summary : is_summary (size nx ny nz) samples summary ≡ true → answered nx ny nz grey samples summary r ≡ queried nx ny nz grey samples summary r
        unfolding queried
        past_summary h =
            rw (
              fit,
              eq-eqb (length samples) (sample_count (size nx ny nz)) samples_are,
              eq-eqb (length r.work) (edge_count axes (size nx ny nz)) work-is,
              h,
            )

-- ---- building
module _ (nx ny nz : ℕ) (samples room : List ℕ) where
  pub built_sides : sides_fit nx ny nz ≡ false → built_left 1 room ≡ built nx ny nz samples room
  unfolding built
  built_sides h = rw h

  module _ (fit : sides_fit nx ny nz ≡ true) where
    pub built_samples : (length samples ≡ sample_count (size nx ny nz) → ⊥) → built_left 2 room ≡ built nx ny nz samples room
    unfolding built
    built_samples h = rw (fit, ne_eqb (length samples) (sample_count (size nx ny nz)) h)

    module _ (samples_are : length samples ≡ sample_count (size nx ny nz)) where
      pub built_room : (length room ≡ summary_length → ⊥) → built_left 3 room ≡ built nx ny nz samples room
      unfolding built
      built_room h = rw (fit, eq-eqb (length samples) (sample_count (size nx ny nz)) samples_are, ne_eqb (length room) summary_length h)

      pub built_granted : (after : List ℕ) → length room ≡ summary_length → after ≡ summary_of (size nx ny nz) samples → built_left 0 after ≡ built nx ny nz samples room
      unfolding built
      built_granted after h e = rw (fit, eq-eqb (length samples) (sample_count (size nx ny nz)) samples_are, eq-eqb (length room) summary_length h, e)
