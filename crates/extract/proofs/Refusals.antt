-- The refusals by sides and lengths, and the way past them.
use mathlib.Core.Path.{◌≡◌}
use mathlib.Core.List.{List}
use mathlib.Core.Bool.{true, false}
use Prim.Native.Nat.{ℕ}
use lib.ListN.{length}
use borrow.Author.Tests.{eq-eqb, ne_eqb}
use Rattle.grid.specs.Sides.{sides_fit}
use Rattle.grid.specs.Grid.{sample_count, edge_count}
use Rattle.grid.specs.Mode.{Mode}
use Rattle.grid.specs.Work.{size}
use Rattle.extract.specs.Extraction.{Rooms, refused, measured, extracted}
use Rattle.extract.specs.Promise.{left}

module _ (m : Mode) (nx ny nz grey : ℕ) (samples : List ℕ) (r : Rooms) where
  pub refused_sides : sides_fit nx ny nz ≡ false → left 1 0 0 r ≡ extracted m nx ny nz grey samples r
  unfolding extracted refused
  refused_sides h = rw h

  module _ (fit : sides_fit nx ny nz ≡ true) where
    pub refused_samples : (length samples ≡ sample_count (size nx ny nz) → ⊥) → left 2 0 0 r ≡ extracted m nx ny nz grey samples r
    unfolding extracted refused
    refused_samples h = rw (fit, ne_eqb (length samples) (sample_count (size nx ny nz)) h)

    module _ (samples_are : length samples ≡ sample_count (size nx ny nz)) where
      pub refused_work : (length r.work ≡ edge_count m.kind (size nx ny nz) → ⊥) → left 3 0 0 r ≡ extracted m nx ny nz grey samples r
      unfolding extracted refused
      refused_work h =
          rw (
            fit,
            eq-eqb (length samples) (sample_count (size nx ny nz)) samples_are,
            ne_eqb (length r.work) (edge_count m.kind (size nx ny nz)) h,
          )

      pub past_lengths : length r.work ≡ edge_count m.kind (size nx ny nz) → measured m (size nx ny nz) grey samples r ≡ extracted m nx ny nz grey samples r
      unfolding extracted
      past_lengths h =
          rw (
            fit,
            eq-eqb (length samples) (sample_count (size nx ny nz)) samples_are,
            eq-eqb (length r.work) (edge_count m.kind (size nx ny nz)) h,
          )
