-- The lines of the shells read once more, one after the other: each is there, and says the shell of its number.
use mathlib.Core.Path.{◌≡◌, ap, sym, ◌∙◌, subst}
use mathlib.Core.List.{List, []}
use Prim.Native.Nat.{ℕ, ◌+◌, ◌*◌, ◌^◌, ◌≤◌, ◌<◌}
use lib.IntN.{ℤ, nat_abs}
use mir.Syntax.{w64}
use mir.Val.{to_z, of_z}
use Rattle.laws.proofs.Sizes.{held, read_back, size_between}
use Rattle.volumes.specs.Volumes.{words_in, volume_read}
use native.Mathlib.Decide.{dec_lt}
use native.Mathlib.Omega.{arith}
use lib.ListN.{get_or, drop}
use Rattle.std.specs.Prelude.{Option, IsSome}
use Rattle.reading.specs.Reading.{got}
use Rattle.reading.specs.Answers.{answered}
use Rattle.reading.proofs.Again.{Again as LinesAgain, again_begin as lines_begin, again_some as lines_some, again_said as lines_said, again_next as lines_next}
use Rattle.records.specs.declared.Shell.{Shell}
use Rattle.records.specs.Grown.{none, most_volume}
use Rattle.meshread.specs.Lines.{read_shell}
use Rattle.meshread.proofs.Lines.{ShellFits, shell_exact}
use Rattle.sameshells.specs.Same.{shells_at, LinesThere}

-- n lines were read again
abbrev pub Again : List ℕ → ℕ → ℕ → ℕ → ℕ → Type 0
Again input from shells n at = LinesAgain (λ bound. read_shell) (λ shell. 0) input shells (shells_at input from shells) n at 0

pub again_begin : (input : List ℕ) (from shells : ℕ) → LinesThere input from shells → Again input from shells 0 from
again_begin input from shells there = lines_begin (λ bound. read_shell) (λ shell. 0) input shells (shells_at input from shells) from 0 0 [] there

-- the line is there, and what a reader of it answers
module _ (input : List ℕ) (from shells n at : ℕ) (a : Again input from shells n at) (less : n < shells) where
  pub again_some : (r : Option (Shell × ℕ)) → read_shell (drop at input) ≡ answered input r → IsSome r
  again_some = lines_some (λ bound. read_shell) (λ shell. 0) input shells (shells_at input from shells) none n at 0 a less

  module _ (s : Shell) (next : ℕ) (h : read_shell (drop at input) ≡ got s (drop next input)) where
    pub again_shell : get_or (shells_at input from shells) n none ≡ s
    again_shell = lines_said (λ bound. read_shell) (λ shell. 0) input shells (shells_at input from shells) none n at 0 a less s next h

    pub again_next : Again input from shells (n + 1) next
    again_next = lines_next (λ bound. read_shell) (λ shell. 0) input shells (shells_at input from shells) none n at 0 a less s next h

pub read_fits : (s : Shell) (bs rest : List ℕ) → read_shell bs ≡ got s rest → ShellFits s
read_fits s bs rest h = shell_exact.fits s bs rest h

-- what holds below n, and at n, holds below n + 1
pub below_next : (n : ℕ) (P : ℕ → Type 0) → ((k : ℕ) → k < n → P k) → P n → (k : ℕ) → k < n + 1 → P k
below_next n P below at k l = go (dec_lt k n)
  where
    go : Dec (k < n) → P k
    go (yes m) = below k m
    go (no m) = let e : n ≡ k = omega arith in subst P e at

-- numbers of 64 bits whose words are the same
pub words_same : (a b : ℤ) → nat_abs a < 2 ^ 63 → nat_abs b < 2 ^ 63 → of_z w64 a ≡ of_z w64 b → a ≡ b
words_same a b la lb e = sym (read_back a (held a la)) ∙ ap (to_z w64) e ∙ read_back b (held b lb)

-- what two words hold is such a number
pub read_small : (v t : ℕ) (work : List ℕ) (n : ℕ) → words_in v t work n ≤ 2 * most_volume → nat_abs (volume_read v t work n) < 2 ^ 63
read_small v t work n l = let s = size_between (words_in v t work n) most_volume (2 * most_volume) l (omega arith) in omega arith
