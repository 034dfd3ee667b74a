-- Lines of text, measured and written one after the other.
use mathlib.Core.Path.{◌≡◌, refl, ◌∙◌}
use mathlib.Core.List.{List, [], ◌++◌}
use Prim.Native.Nat.{ℕ, ◌+◌, ◌≤◌}
use lib.ListN.{length, length-append}
use lib.Seq.{sets}
use Rattle.laws.specs.Range.{join_to}
use Rattle.laws.proofs.Ranges.{join_next, length_join, sum_rises}
use Rattle.laws.proofs.Writes.{sets_append}

module _ (text : ℕ → List ℕ) where
  -- the lines of the first n
  unfoldable pub lines_to : ℕ → List ℕ
  lines_to n = join_to n text

  pub lines_none : lines_to 0 ≡ []
  unfolding lines_to join_to
  lines_none = refl

  pub lines_next : (i : ℕ) → lines_to (i + 1) ≡ lines_to i ++ text i
  unfolding lines_to
  lines_next i = join_next i text

  pub lines_length : (i : ℕ) → length (lines_to (i + 1)) ≡ length (lines_to i) + length (text i)
  lines_length i = rw (lines_next i, length-append (lines_to i) (text i))

  pub lines_rise : (m n : ℕ) → m ≤ n → length (lines_to m) ≤ length (lines_to n)
  unfolding lines_to
  lines_rise m n l = rw (length_join m text, length_join n text) (sum_rises m n (λ i. length (text i)) l)

  -- a line more, written behind the others
  pub lines_written : (room old left : List ℕ) (from at i : ℕ) → old ≡ sets room from (lines_to i) → at ≡ from + length (lines_to i) → left ≡ sets old at (text i) → left ≡ sets room from (lines_to (i + 1))
  lines_written room old left from at i e q f =
      f ∙ rw (e, q, lines_next i) (sets_append room from (lines_to i) (text i))
