-- The list of records after some lines were read into it.
use mathlib.Core.Path.{◌≡◌, refl, ap, sym, ◌∙◌}
use mathlib.Core.List.{List, []}
use Prim.Native.Nat.{ℕ, ◌+◌, ◌<◌}
use native.Mathlib.Decide.{dec_lt}
use native.Mathlib.Omega.{arith}
use lib.ListN.{length, get_or, set, drop}
use lib.Seq.{ext_get_or}
use Rattle.laws.specs.Room.{laid}
use Rattle.laws.specs.Values.{list_to}
use Rattle.laws.proofs.Values.{laid_none, laid_more, length_list, list_at}
use Rattle.reading.specs.Lined.{read_lines}
use Rattle.records.specs.declared.Shell.{Shell}
use Rattle.records.specs.Grown.{none}
use Rattle.meshread.specs.Lines.{read_shell}
use Rattle.sameshells.specs.Same.{said_of, shells_at, LinesThere}
use Rattle.reading.proofs.Again.{lines_many}

pub none_many : (input : List ℕ) (from : ℕ) → length (shells_at input from 0) ≡ 0
unfolding said_of read_lines
none_many input from = refl

module _ (input : List ℕ) (from shells : ℕ) where
  pub shells_many : LinesThere input from shells → length (shells_at input from shells) ≡ shells
  shells_many there = lines_many (λ bound. read_shell) (λ shell. 0) shells 0 0 (drop from input) (shells_at input from shells) [] there

  pub all_many : (0 < shells → LinesThere input from shells) → length (shells_at input from shells) ≡ shells
  all_many there = go (dec_lt 0 shells)
    where
      go : Dec (0 < shells) → length (shells_at input from shells) ≡ shells
      go (yes some) = shells_many (there some)
      go (no none-there) = let e : shells ≡ 0 = omega arith in rw e (none_many input from)

  -- the shell that line n says
  abbrev pub shell_said : ℕ → Shell
  shell_said n = get_or (shells_at input from shells) n none

  module _ (ys : List Shell) where
    -- the list after n lines
    abbrev pub read_to : ℕ → List Shell
    read_to n = laid (list_to n shell_said) ys

    pub read_none : ys ≡ read_to 0
    read_none = sym (laid_none shell_said ys)

    pub read_more : (n : ℕ) → n < length ys → set (read_to n) n (shell_said n) ≡ read_to (n + 1)
    read_more n l = laid_more n shell_said ys l

    pub read_all : (0 < shells → LinesThere input from shells) → read_to shells ≡ laid (shells_at input from shells) ys
    read_all there = ap (λ xs. laid xs ys) (ext_get_or none (list_to shells shell_said) (shells_at input from shells) (length_list shells shell_said ∙ sym (all_many there)) (λ i l. list_at shells i shell_said none (omega (arith, length_list shells shell_said))))
