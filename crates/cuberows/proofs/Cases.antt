-- The cases of a stretch of cubes: those of its words are those of the grid.
use mathlib.Core.Path.{◌≡◌, refl, ap, sym, ◌∙◌}
use mathlib.Core.Bool.{Bool, true, false}
use mathlib.Core.List.{List, flat_map}
use Prim.Native.Nat.{ℕ, ◌+◌, ◌-◌, ◌*◌, ◌/◌, ◌%◌, ◌^◌, ◌<◌, ◌≤◌}
use native.Mathlib.Nat.{mul-add}
use native.Mathlib.Omega.{arith}
use borrow.Author.Tests.{leb-true}
use lib.Dec.{leb}
use lib.ListN.{get_or}
use Rattle.laws.specs.Range.{one_if, all_to}
use Rattle.laws.specs.Bits.{bit, bits}
use Rattle.laws.proofs.Tests.{all_at}
use Rattle.laws.proofs.Halves.{two_bits}
use Rattle.cube.specs.Cube.{cases, corner_x, corner_y, corner_z, case_of, is_above}
use Rattle.cube.specs.Face.{cuts, way_round, face_segments, segments_of}
use Rattle.cube.specs.Loop.{loops}
use Rattle.cube.specs.Answer.{most_case_triangles, segments, fan_of, triangles, count, count_table}
use Rattle.cube.proofs.Places.{count_at}
use Rattle.grid.specs.Grid.{site}
use Rattle.grid.specs.Mesh.{corner_site, case_at}
use Rattle.masks.specs.Masks.{word_cubes}
use Rattle.rows.specs.declared.Sides.{Sides}
use Rattle.rows.specs.declared.Stretch.{Stretch}
use Rattle.rows.specs.Rows.{size_of, words_above, Ready, Stands, own_cubes}
use Rattle.rows.proofs.Stretches.{behind_is, over_is, both_is, row_there, behind_there, over_there, both_there, cubes_most}
use Rattle.rows.proofs.Cut.{row_is, bit_is}
use Rattle.cuberows.specs.declared.Corners.{Corners}
use Rattle.cuberows.specs.Cubes.{corners_at, read_case, word_case, cube_case}

-- the words give a byte
pub word_case_small : (m : Corners) (i : ℕ) → word_case m i < cases
unfolding word_case
word_case_small m i = omega arith

-- a case has at most five triangles
every_count_most : all_to cases (λ k. leb (count k) most_case_triangles) ≡ true
unfolding all_to count triangles fan_of loops segments segments_of flat_map face_segments cuts way_round is_above bit
every_count_most = refl

pub count_most : (k : ℕ) → k < cases → count k ≤ most_case_triangles
count_most k h = leb-true (count k) most_case_triangles (all_at cases (λ k. leb (count k) most_case_triangles) every_count_most k h)

-- k is the case of cube i, and the table of counts has its count, which is at most five
pub record CaseRead (counts : List ℕ) (m : Corners) (i k : ℕ) : Type 0 where
  pub is : k ≡ word_case m i
  pub small : k < cases
  pub counted : get_or counts k 0 ≡ count k
  pub few : get_or counts k 0 ≤ most_case_triangles

pub case_read : (counts : List ℕ) (m : Corners) (i k : ℕ) → counts ≡ count_table → k ≡ read_case m i → CaseRead counts m i k
unfolding word_case
case_read counts m i k right is =
    let small : k < cases = omega (arith, is, word_case_small m i) in
    let counted : get_or counts k 0 ≡ count k = rw right (count_at k small) in
    record { is = is; small = small; counted = counted; few = omega (arith, counted, count_most k small) }

same_bits : (b : Bool) (v x : ℕ) → bit v x ≡ b → bit v (x + 1) ≡ b → v / 2 ^ x % 4 ≡ 3 * one_if b
same_bits b v x this next = two_bits v x ∙ rw (this, next) (omega arith)

-- a cube that is all above or all below has no triangle
pub whole_cube : (b : Bool) → count ((cases - 1) * one_if b) ≡ 0
unfolding count triangles fan_of loops segments segments_of flat_map face_segments cuts way_round is_above bit
whole_cube true = refl
whole_cube false = refl

-- the four words have b for bit x
abbrev pub AllAt : Bool → Corners → ℕ → Type 0
AllAt b m x = (bit m.m00 x ≡ b) × (bit m.m10 x ≡ b) × (bit m.m01 x ≡ b) × (bit m.m11 x ≡ b)

-- a cube at both of whose ends they have the same bit has no triangle
pub one_side_empty : (b : Bool) (m : Corners) (x : ℕ) → AllAt b m x → AllAt b m (x + 1) → count (word_case m x) ≡ 0
unfolding word_case
one_side_empty b m x this next =
    let k : word_case m x ≡ (cases - 1) * one_if b =
    omega (
      arith,
      same_bits b m.m00 x this.0 next.0,
      same_bits b m.m10 x this.1 next.1,
      same_bits b m.m01 x this.2 next.2,
      same_bits b m.m11 x this.3 next.3,
    ) in
    ap count k ∙ whole_cube b

-- the case that the words give is the grid's
module _ (sides : Sides) (masks : List ℕ) (z : ℕ) (ready : Ready sides z masks) (at : Stretch) (stands : Stands sides z at) (hy : at.y + 1 < sides.ny) (hz : z + 1 < sides.nz) (i : ℕ)
    (h : i < own_cubes at.left) where
  -- the stretch's row of those lent
  abbrev lent : ℕ
  lent = at.y + sides.ny * stands.up

  -- a corner's bit of its word
  corner : (c along l word : ℕ) → i + corner_x c ≡ along → at.y + corner_y c + sides.ny * (z + corner_z c) ≡ l + sides.ny * sides.below → word ≡ stands.past + sides.words * l
      → along ≤ i + 1 → l < sides.ny * ready.layers
      → words_above sides masks (corner_site (size_of sides) (word_cubes * stands.past + i) at.y z c) ≡ bit (get_or masks word 0) along
  unfolding corner_site site
  corner c along l word p q is near there =
      let most = cubes_most sides z at stands in
      let x : word_cubes * stands.past + i + corner_x c ≡ word_cubes * stands.past + along = omega arith in
      rw (q, x, is) (sym (bit_is sides masks z ready at stands (omega arith) (omega arith) l _ along there refl (omega (arith, most)) (omega (arith, most))))

  pub case_is : word_case (corners_at masks sides.words sides.ny at.word) i ≡ cube_case sides masks z (word_cubes * stands.past + i) at.y
  unfolding word_case case_at case_of bits
  case_is =
      let hy' : at.y < sides.ny = omega arith in
      let hz' : z < sides.nz = omega arith in
      let this : sides.ny * (z + 0) ≡ sides.ny * z = omega (arith, mul-add sides.ny z 0) in
      let next : sides.ny * (z + 1) ≡ sides.ny * z + sides.ny = omega (arith, mul-add sides.ny z 1) in
      let behind = behind_is sides z at stands in
      let over = over_is sides z at stands in
      let both = both_is sides z at stands in
      let level = row_is sides masks z ready at stands hy' hz' in
      let here = row_there sides masks z ready at stands hy' in
      let further = behind_there sides masks z ready at stands hy in
      let upper = over_there sides masks z ready at stands hy' hz in
      let last = both_there sides masks z ready at stands hy hz in
      rw (
        corner 0 i lent at.word (omega arith) (omega arith) stands.word (omega arith) here,
        corner 1 (i + 1) lent at.word (omega arith) (omega arith) stands.word (omega arith) here,
        corner 2 i (lent + 1) (at.word + sides.words) (omega arith) (omega arith) behind (omega arith) further,
        corner 3 (i + 1) (lent + 1) (at.word + sides.words) (omega arith) (omega arith) behind (omega arith) further,
        corner 4 i (lent + sides.ny) (at.word + sides.words * sides.ny) (omega arith) (omega arith) over (omega arith) upper,
        corner 5 (i + 1) (lent + sides.ny) (at.word + sides.words * sides.ny) (omega arith) (omega arith) over (omega arith) upper,
        corner 6 i (lent + sides.ny + 1) (at.word + sides.words * sides.ny + sides.words) (omega arith) (omega arith) both (omega arith) last,
        corner 7 (i + 1) (lent + sides.ny + 1) (at.word + sides.words * sides.ny + sides.words) (omega arith) (omega arith) both (omega arith) last,
      )
      (omega (
        arith,
        two_bits (get_or masks at.word 0) i,
        two_bits (get_or masks (at.word + sides.words) 0) i,
        two_bits (get_or masks (at.word + sides.words * sides.ny) 0) i,
        two_bits (get_or masks (at.word + sides.words * sides.ny + sides.words) 0) i,
      ))
