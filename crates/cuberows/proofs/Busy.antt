-- The word of a stretch's busy cubes, which are those that are neither all above nor all below: what its bits say.
use mathlib.Core.Path.{◌≡◌, refl, subst, sym, ◌∙◌}
use mathlib.Core.Bool.{Bool, false}
use Prim.Native.Nat.{ℕ, ◌+◌, ◌/◌}
use lib.Bits.{bit_and, bit_or, bit_xor}
use Rattle.laws.specs.Bits.{bit}
use Rattle.laws.proofs.Words.{bit_half, or_clear, xor_clear, and_clear, and_set}
use Rattle.cube.specs.Answer.{count}
use Rattle.cuberows.specs.declared.Corners.{Corners}
use Rattle.cuberows.specs.Cubes.{word_case, BusyCubes}
use Rattle.cuberows.proofs.Cases.{AllAt, one_side_empty}

module _ (m : Corners) where
  -- the code's words: where the four words differ, and the cubes whose corners do, past those that are asked for too
  abbrev apart : ℕ
  apart = bit_or (bit_or (bit_xor m.m00 m.m10) (bit_xor m.m00 m.m01)) (bit_xor m.m00 m.m11)

  abbrev mixed : ℕ
  mixed = bit_or (bit_or apart (apart / 2)) (bit_xor m.m00 (m.m00 / 2))

  -- where the words do not differ they have the first one's bit
  agree : (x : ℕ) → bit apart x ≡ false → AllAt (bit m.m00 x) m x
  agree x h =
      let s = or_clear (bit_or (bit_xor m.m00 m.m10) (bit_xor m.m00 m.m01)) (bit_xor m.m00 m.m11) x h in
      let t = or_clear (bit_xor m.m00 m.m10) (bit_xor m.m00 m.m01) x s.0 in
      (refl, sym (xor_clear m.m00 m.m10 x t.0), sym (xor_clear m.m00 m.m01 x t.1), sym (xor_clear m.m00 m.m11 x s.1))

  -- a cube whose corners do not differ has no triangle
  unmixed : (x : ℕ) → bit mixed x ≡ false → count (word_case m x) ≡ 0
  unmixed x h =
      let s = or_clear (bit_or apart (apart / 2)) (bit_xor m.m00 (m.m00 / 2)) x h in
      let t = or_clear apart (apart / 2) x s.0 in
      let e : bit m.m00 (x + 1) ≡ bit m.m00 x = sym (bit_half m.m00 x) ∙ sym (xor_clear m.m00 (m.m00 / 2) x s.1) in
      let next : AllAt (bit m.m00 (x + 1)) m (x + 1) = agree (x + 1) (sym (bit_half apart x) ∙ t.1) in
      one_side_empty (bit m.m00 x) m x (agree x t.0) (subst (λ (b : Bool). AllAt b m (x + 1)) e next)

  pub busy_bits : (cubes : ℕ) → BusyCubes m cubes (bit_and mixed cubes)
  busy_bits cubes = record { inside = λ i h. and_set mixed cubes i h; quiet = λ i f h. unmixed i (and_clear mixed cubes i h f) }
