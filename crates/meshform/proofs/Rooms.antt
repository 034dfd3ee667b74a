-- Two runs of a room that grow: one from its front, one from a place behind it.
use mathlib.Core.Path.{◌≡◌, ap, sym, ◌∙◌}
use mathlib.Core.List.{List, [], ◌∷◌, ◌++◌, append_assoc}
use Prim.Native.Nat.{ℕ, ◌+◌, ◌<◌, ◌≤◌}
use native.Mathlib.Omega.{arith}
use lib.ListN.{length, set, length-append}
use lib.Seq.{sets, length-sets}
use Rattle.laws.proofs.Writes.{sets_append, set_before}
use Rattle.laws.specs.Part.{part_of}
use Rattle.laws.proofs.Parts.{part_written, part_before}

module _ (room : List ℕ) (base : ℕ) where
  -- `xs` from the front on, `ms` from the base on
  abbrev pub two : List ℕ → List ℕ → List ℕ
  two xs ms = sets (sets room 0 xs) base ms

  pub front_more : (xs ms : List ℕ) (at a : ℕ) → at ≡ length xs → at < base → set (two xs ms) at a ≡ two (xs ++ (a ∷ [])) ms
  front_more xs ms at a e l =
      let s : sets (sets room 0 xs) (0 + length xs) (a ∷ []) ≡ sets room 0 (xs ++ (a ∷ [])) = sets_append room 0 xs (a ∷ []) in
      let z : 0 + length xs ≡ at = omega arith in
      set_before (sets room 0 xs) at base ms a l ∙ ap (λ r. sets r base ms) (rw z at s)

  pub back_more : (xs ms : List ℕ) (at m : ℕ) → at ≡ base + length ms → set (two xs ms) at m ≡ two xs (ms ++ (m ∷ []))
  back_more xs ms at m e = rw e (sets_append (sets room 0 xs) base ms (m ∷ []))

  -- a point more: three numbers in front, one behind
  pub point_more : (xs ms : List ℕ) (at i a b c m : ℕ) → at ≡ length xs → i ≡ length ms → at + 2 < base
      → set (set (set (set (two xs ms) at a) (at + 1) b) (at + 2) c) (base + i) m ≡ two (xs ++ (a ∷ b ∷ c ∷ [])) (ms ++ (m ∷ []))
  point_more xs ms at i a b c m e f l =
      let one : List ℕ = xs ++ (a ∷ []) in
      let two_long : length one ≡ length xs + 1 = length-append xs (a ∷ []) in
      let both : List ℕ = one ++ (b ∷ []) in
      let three-long : length both ≡ length one + 1 = length-append one (b ∷ []) in
      let whole : both ++ (c ∷ []) ≡ xs ++ (a ∷ b ∷ c ∷ []) = append_assoc one (b ∷ []) (c ∷ []) ∙ append_assoc xs (a ∷ []) (b ∷ c ∷ []) in
      ap (λ r. set (set (set r (at + 1) b) (at + 2) c) (base + i) m) (front_more xs ms at a e (omega arith))
      ∙ ap (λ r. set (set r (at + 2) c) (base + i) m) (front_more one ms (at + 1) b (omega (arith, two_long)) (omega arith))
      ∙ ap (λ r. set r (base + i) m) (front_more both ms (at + 2) c (omega (arith, two_long, three-long)) l)
      ∙ back_more (both ++ (c ∷ [])) ms (base + i) m (omega arith)
      ∙ ap (λ xs. two xs (ms ++ (m ∷ []))) whole

  -- what stands there in the end
  module _ (xs ms : List ℕ) (long : length xs ≡ base) (inside : base + length ms ≤ length room) where
    pub front_there : part_of 0 base (two xs ms) ≡ xs
    front_there =
        let l : length (sets room 0 xs) ≡ length room = length-sets room 0 xs in
        part_before (sets room 0 xs) base ms (omega arith) 0 base (omega arith) ∙ ap (λ n. part_of 0 n (sets room 0 xs)) (sym long) ∙ part_written room 0 xs (omega arith)

    pub back_there : part_of base (length ms) (two xs ms) ≡ ms
    back_there = let l : length (sets room 0 xs) ≡ length room = length-sets room 0 xs in part_written (sets room 0 xs) base ms (omega arith)
