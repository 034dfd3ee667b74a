-- A layer of cubes, stretch by stretch: what is written for a stretch, and what is passed.
use mathlib.Core.Path.{◌≡◌, refl, ap, ap₂, sym, ◌∙◌}
use mathlib.Core.Bool.{Bool, true, false, cond}
use mathlib.Core.List.{List, [], ◌++◌, append_assoc, append-nil}
use Prim.Native.Nat.{ℕ, ◌+◌, ◌*◌, ◌-◌, ◌<◌, ◌≤◌}
use native.Mathlib.Omega.{arith}
use lib.ListN.{length, length-append}
use Rattle.laws.specs.Bits.{word_bits, bit}
use Rattle.laws.specs.Range.{join_to}
use Rattle.laws.proofs.Ranges.{join_next, join_cong, join_quiet, join_split, join_room}
use Rattle.rows.specs.declared.Sides.{Sides}
use Rattle.rows.specs.declared.Stretch.{Stretch}
use Rattle.rows.specs.Rows.{Ready, Stands, first_x, own_cubes, cubes_mask, next_stretch}
use Rattle.rows.proofs.Stretches.{stands_next, first_x_lem, cubes_most}
use Rattle.cuberows.specs.declared.Corners.{Corners}
use Rattle.cuberows.specs.Cubes.{word_case, BusyCubes}
use Rattle.cuberows.proofs.Layers.{Within, cubes_next, corners, cube_is, past_quiet, own_busy, own_quiet}
use Rattle.triangles.specs.Names.{cube_names, busy_names, stretch_names, grid_names, layer_names}
use Rattle.triangles.specs.Walk.{StretchRoom, LayerRoom, Written}
use Rattle.triangles.proofs.Names.{cube_quiet, written_on, written_room}

-- what is written for a layer's cubes, row by row, up to cube x of row y
abbrev pub named_to : List ℕ → List ℕ → Sides → List ℕ → ℕ → ℕ → ℕ → List ℕ
named_to offsets names sides masks z x y =
    join_to y (λ y. join_to (sides.nx - 1) (λ x. grid_names offsets names sides masks z x y)) ++ join_to x (λ x. grid_names offsets names sides masks z x y)

module _ (offsets names : List ℕ) (sides : Sides) (masks : List ℕ) (z : ℕ) where
  abbrev cube : ℕ → ℕ → List ℕ
  cube x y = grid_names offsets names sides masks z x y

  abbrev row : ℕ → List ℕ
  row y = join_to (sides.nx - 1) (λ x. cube x y)

  pub named_none : named_to offsets names sides masks z 0 0 ≡ []
  unfolding join_to
  named_none = refl

  -- at the end of a row the next begins, and at the end of the last the layer is written
  pub named_row : (y : ℕ) → named_to offsets names sides masks z (sides.nx - 1) y ≡ named_to offsets names sides masks z 0 (y + 1)
  unfolding join_to
  named_row y = sym (append-nil _ ∙ join_next y row)

  pub named_all : named_to offsets names sides masks z 0 (sides.ny - 1) ≡ layer_names offsets names sides masks z
  unfolding join_to
  named_all = append-nil _

  -- some cubes more, and the room that they need of the layer's
  pub named_on : (x y many : ℕ) → named_to offsets names sides masks z x y ++ join_to many (λ i. cube (x + i) y) ≡ named_to offsets names sides masks z (x + many) y
  named_on x y many = append_assoc (join_to y row) (join_to x (λ x. cube x y)) (join_to many (λ i. cube (x + i) y)) ∙ ap (λ xs. join_to y row ++ xs) (sym (join_split x many (λ x. cube x y)))

  pub named_room : (x y many : ℕ) → x + many ≤ sides.nx - 1 → y + 1 < sides.ny
      → length (named_to offsets names sides masks z x y) + length (join_to many (λ i. cube (x + i) y)) ≤ length (layer_names offsets names sides masks z)
  named_room x y many hx hy =
      let rest = sides.nx - 1 - (x + many) in
      let whole : x + many + rest ≡ sides.nx - 1 = omega arith in
      let c : ℕ → List ℕ = λ x. cube x y in
      omega (
        arith,
        length-append (join_to y row) (join_to x c),
        length-append (join_to x c) (join_to many (λ i. c (x + i))),
        length-append (join_to (x + many) c) (join_to rest (λ i. c (x + many + i))),
        ap length (join_split x many c),
        ap length (join_split (x + many) rest c),
        ap (λ n. length (join_to n c)) whole,
        join_room y (sides.ny - 1) row (omega arith),
      )

  -- what is written for a stretch are the triangles of its cubes
  module _ (ready : Ready sides z masks) (at : Stretch) (stands : Stands sides z at) (hy : at.y + 1 < sides.ny) (hz : z + 1 < sides.nz) where
    abbrev here : Corners
    here = corners sides masks z ready at stands hy hz

    edge_is : (i : ℕ) → 3 * at.s + 3 * i ≡ 3 * (first_x sides at + i + sides.nx * (at.y + sides.ny * z))
    edge_is i = omega (arith, stands.site, first_x_lem sides z at stands)

    pub stretch_names_lem : (busy : ℕ) → BusyCubes here (cubes_mask sides at.left) busy
        → stretch_names offsets names here busy (3 * at.s) ≡ join_to (own_cubes at.left) (λ i. cube (first_x sides at + i) at.y)
    stretch_names_lem busy by =
        join_quiet many word_bits (busy_names offsets names here busy (3 * at.s)) (omega (arith, cubes_most sides z at stands)) past
        ∙ join_cong many (busy_names offsets names here busy (3 * at.s)) (λ i. cube (first_x sides at + i) at.y) (λ i l. own i l (bit busy i) refl)
      where
        many : ℕ
        many = own_cubes at.left

        past : (i : ℕ) → many ≤ i → i < word_bits → busy_names offsets names here busy (3 * at.s) i ≡ []
        past i h k = ap (λ b. cond b (cube_names offsets names (3 * at.s + 3 * i) (word_case here i)) []) (past_quiet sides masks z ready at stands hy hz busy by i h)

        own : (i : ℕ) → i < many → (b : Bool) → bit busy i ≡ b
            → cond b (cube_names offsets names (3 * at.s + 3 * i) (word_case here i)) [] ≡ cube (first_x sides at + i) at.y
        own i l true e = ap₂ (cube_names offsets names) (edge_is i) (cube_is sides masks z ready at stands hy hz i l)
        own i l false e = sym (cube_quiet offsets names _ _ (own_quiet sides masks z ready at stands hy hz busy by i l e))

    -- the room for it, and what then holds at the next stretch
    module _ (busy : ℕ) (by : BusyCubes here (cubes_mask sides at.left) busy) {entry mid : List ℕ} {from to : ℕ}
        (w : Written entry mid from (named_to offsets names sides masks z (first_x sides at) at.y) to) (m : Corners) (is : m ≡ here) where
      pub stretch_room : LayerRoom offsets names entry sides masks z from → StretchRoom offsets names mid m busy (3 * at.s) to
      stretch_room room =
          let most = cubes_most sides z at stands in
          record {
            named = λ i e set h.
                let l = own_busy sides masks z ready at stands hy hz busy by i set in
                rw (edge_is i) (room.named (first_x sides at + i) at.y e (omega (arith, most, stands.along)) hy h);
            holds = rw (is, stretch_names_lem busy by)
                (written_room (named_to offsets names sides masks z (first_x sides at) at.y) _ _ w
                (named_room (first_x sides at) at.y (own_cubes at.left) (omega (arith, most, stands.along)) hy)
                room.holds);
          }

      pub stretch_next : {exit : List ℕ} {next : ℕ} (on : Stretch) → on ≡ next_stretch sides at → Written mid exit to (stretch_names offsets names m busy (3 * at.s)) next
          → Stands sides z on × Within sides (first_x sides on) on.y × Written entry exit from (named_to offsets names sides masks z (first_x sides on) on.y) next
      stretch_next {exit} {next} on follows v = rw follows (stands_next sides z at stands (omega arith), go.0, go.1)
        where
          go : Within sides (first_x sides (next_stretch sides at)) (next_stretch sides at).y
              × Written entry exit from (named_to offsets names sides masks z (first_x sides (next_stretch sides at)) (next_stretch sides at).y) next
          go =
              cubes_next sides masks z ready at stands (λ x y. Within sides x y × Written entry exit from (named_to offsets names sides masks z x y) next)
              (λ p. ((hy, λ e. refl), rw (← (named_row at.y)) p.1)) (
                (omega arith, λ e. absurd (omega arith)),
                rw (← (named_on (first_x sides at) at.y (own_cubes at.left)), ← (stretch_names_lem busy by), ← is)
                    (written_on (named_to offsets names sides masks z (first_x sides at) at.y) (stretch_names offsets names m busy (3 * at.s)) w v),
              )
