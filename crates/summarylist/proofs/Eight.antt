-- Eight numbers put together: those at two places along x, four each, as the columns of four rows have them.
use mathlib.Core.Path.{◌≡◌, ap₂, sym, ◌∙◌}
use mathlib.Core.List.{List}
use Prim.Native.Nat.{ℕ, ◌+◌, ◌*◌, min, max}
use native.Mathlib.Nat.{min_comm, max_comm}
use native.Mathlib.Omega.{arith}
use lib.ListN.{get_or}
use Rattle.laws.specs.Least.{gathered}
use Rattle.cube.specs.Cube.{corner_x, corner_y, corner_z}
use Rattle.summary.specs.Blocks.{eight}
use Rattle.blockrows.specs.Numbers.{four_of}

-- numbers can be put together in any order
pub record AnyOrder (op : ℕ → ℕ → ℕ) : Type 0 where
  pub assoc : (a b c : ℕ) → op (op a b) c ≡ op a (op b c)
  pub comm : (a b : ℕ) → op a b ≡ op b a

pub for_least : AnyOrder min
for_least = record { assoc = λ a b c. omega arith; comm = min_comm }

pub for_greatest : AnyOrder max
for_greatest = record { assoc = λ a b c. omega arith; comm = max_comm }

module _ (op : ℕ → ℕ → ℕ) (any : AnyOrder op) where
  left_comm : (a b c : ℕ) → op a (op b c) ≡ op b (op a c)
  left_comm a b c = sym (any.assoc a b c) ∙ rw (any.comm a b) (any.assoc b a c)

  by_fours : (a b c d e f g h : ℕ) → op (op (op (op (op (op (op a b) c) d) e) f) g) h ≡ op (op (op a c) (op e g)) (op (op b d) (op f h))
  by_fours a b c d e f g h = simp (any.assoc, left_comm)

  -- of the four at one place along x, by their places along y and z
  abbrev four : (ℕ → ℕ → ℕ) → ℕ
  four v = op (op (v 0 0) (v 1 0)) (op (v 0 1) (v 1 1))

  two_fours : (v : ℕ → ℕ → ℕ → ℕ) → gathered op (λ h. v (corner_x h) (corner_y h) (corner_z h)) eight ≡ op (four (v 0)) (four (v 1))
  unfolding gathered
  two_fours v = by_fours (v 0 0 0) (v 1 0 0) (v 0 1 0) (v 1 1 0) (v 0 0 1) (v 1 0 1) (v 0 1 1) (v 1 1 1)

  module _ (list : List ℕ) (first back up : ℕ) where
    four_there : (i : ℕ) (v : ℕ → ℕ → ℕ) → ((b c : ℕ) → v b c ≡ get_or list (first + up * c + back * b + i) 0) → four v ≡ four_of op list first back up i
    four_there i v there =
        let at : first + up * 0 + back * 0 + i ≡ first + i = omega arith in
        let behind : first + up * 0 + back * 1 + i ≡ first + back + i = omega arith in
        let over : first + up * 1 + back * 0 + i ≡ first + up + i = omega arith in
        let both : first + up * 1 + back * 1 + i ≡ first + up + back + i = omega arith in
        rw (there 0 0, there 1 0, there 0 1, there 1 1, at, behind, over, both)

    -- of all eight, where each stands in its row
    pub eight_there : (i j : ℕ) (v : ℕ → ℕ → ℕ → ℕ) → ((b c : ℕ) → v 0 b c ≡ get_or list (first + up * c + back * b + i) 0)
        → ((b c : ℕ) → v 1 b c ≡ get_or list (first + up * c + back * b + j) 0)
        → gathered op (λ h. v (corner_x h) (corner_y h) (corner_z h)) eight ≡ op (four_of op list first back up i) (four_of op list first back up j)
    eight_there i j v here next = two_fours v ∙ ap₂ op (four_there i (v 0) here) (four_there j (v 1) next)
