-- The checks of a grid's text in their order.
use mathlib.Core.Path.{◌≡◌, refl, ◌∙◌}
use mathlib.Core.List.{List}
use mathlib.Core.Bool.{Bool, true, false, cond, not, ◌&&◌}
use Prim.Native.Nat.{ℕ, ◌*◌, ◌≤◌, ◌<◌}
use native.Mathlib.Nat.{mul-le-mul_right, one-mul}
use native.Mathlib.Omega.{arith}
use lib.Dec.{leb}
use lib.ListN.{length}
use borrow.Author.Tests.{leb-true, eq-eqb, ne_eqb, lt-ltb, le-ltb}
use Rattle.laws.specs.Room.{laid}
use Rattle.grid.specs.Limits.{most_rounds, most_weight, most_small, most_number}
use Rattle.grid.specs.Sides.{sides_fit}
use Rattle.grid.proofs.Sides.{sides_within}
use Rattle.reading.specs.Reading.{got, GotRows, malformed, rows, read_rows}
use Rattle.std.specs.Prelude.{Ok, Err}
use Rattle.grid.specs.declared.refusal.Refusal.TheVariants.{GridLine}
use Rattle.gridtext.specs.Grid.{samples_of, smoothing_fits, head_number, refused, granted, with_rows, with_head}
use Rattle.gridtext.specs.Promise.{samples_filled, left}
use Rattle.gridtext.specs.declared.Head.{Head}

-- line 1's numbers passed
pub passed : (h : Head) → head_number h ≡ 0 → (sides_fit h.nx h.ny h.nz ≡ true) × (samples_of h ≤ most_small) × (leb h.rounds most_rounds && leb h.weight most_weight ≡ true)
unfolding head_number smoothing_fits
passed h e = go (sides_fit h.nx h.ny h.nz) (leb (samples_of h) most_small) refl (leb h.rounds most_rounds && leb h.weight most_weight) e
  where
    go : (s t : Bool) → leb (samples_of h) most_small ≡ t → (u : Bool) → ◌≡◌ {A = ℕ} (cond (not s) 1 (cond (not t) 13 (cond (not u) 10 0))) 0 → (s ≡ true) × (samples_of h ≤ most_small) × (u ≡ true)
    go true true q true e = (refl, leb-true (samples_of h) most_small q, refl)
    go true true q false e = absurd (omega arith)
    go true false q u e = absurd (omega arith)
    go false t q u e = absurd (omega arith)

-- there are no more rows than samples
pub rows_few : (h : Head) → head_number h ≡ 0 → h.ny * h.nz ≤ most_small
rows_few h e =
    let p = passed h e in
    let x = (sides_within h.nx h.ny h.nz p.0).least_x in
    let m : 1 * (h.ny * h.nz) ≤ h.nx * (h.ny * h.nz) = mul-le-mul_right (h.ny * h.nz) (omega arith) in
    omega (arith, p.1, one-mul (h.ny * h.nz))

-- after line 1
module _ (h : Head) (rest room : List ℕ) where
  pub head_refused : (head_number h ≡ 0 → ⊥) → refused (head_number h) 0 room ≡ with_head room (got h rest)
  unfolding with_head
  head_refused ne = rw (ne_eqb (head_number h) 0 ne)

  module _ (e : head_number h ≡ 0) where
    pub room_short : length room < samples_of h → refused 3 0 room ≡ with_head room (got h rest)
    unfolding with_head
    room_short l = rw (eq-eqb (head_number h) 0 e, lt-ltb (length room) (samples_of h) l)

    pub room_holds : samples_of h ≤ length room → with_head room (got h rest) ≡ with_rows h room (read_rows most_number h.nx (h.ny * h.nz) 2 rest)
    unfolding with_head
    room_holds l = rw (eq-eqb (head_number h) 0 e, le-ltb (length room) (samples_of h) l)

-- after the rows
module _ (h : Head) (read : GotRows) (room exit : List ℕ) (x : exit ≡ samples_filled read room) where
  pub rows_refused : (line : ℕ) → read ≡ malformed line → left (Err (GridLine line)) exit ≡ with_rows h room read
  unfolding with_rows refused samples_filled
  rows_refused line q =
      let y : exit ≡ room = x ∙ rw q in
      rw (q, y)

  pub rows_granted : (ns : List ℕ) → read ≡ rows ns → left (Ok h) exit ≡ with_rows h room read
  unfolding with_rows granted samples_filled
  rows_granted ns q =
      let y : exit ≡ laid ns room = x ∙ rw q in
      rw (q, y)
