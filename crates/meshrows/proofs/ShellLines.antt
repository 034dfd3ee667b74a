-- A shell's line at a place of an input: four numbers, the volume, and the box.
use mathlib.Core.Path.{◌≡◌, ◌∙◌}
use mathlib.Core.List.{List}
use mathlib.Core.Bool.{true}
use Prim.Native.Nat.{ℕ, ◌+◌}
use lib.IntN.{ℤ}
use lib.ListN.{drop}
use Rattle.lines.specs.Line.{tab}
use Rattle.reading.specs.Reading.{most_word, Got, bad, got, read_fields, read_signed_field, read_both, read_row}
use Rattle.reading.proofs.Fields.{row_fields}
use Rattle.records.specs.declared.Shell.{Shell}
use Rattle.records.specs.Grown.{most_volume}
use Rattle.shelllines.specs.ShellLines.{letter_s}
use Rattle.meshread.specs.Lines.{shell_of, read_shell}
use Rattle.meshrows.specs.Answers.{starts_with}
use Rattle.meshrows.proofs.Begun.{lettered_is}
use Rattle.meshrows.proofs.Pieces.{both_not, both_second_not, both_got}

abbrev pair : ℤ → List ℕ → ℤ × List ℕ
pair volume box = (volume, box)

-- what stands behind the counts
abbrev read_behind : List ℕ → Got (ℤ × List ℕ)
read_behind = read_both pair (read_signed_field most_volume tab) (read_row most_word 6)

-- what stands behind the letter
abbrev read_whole : List ℕ → Got Shell
read_whole = read_both shell_of (read_fields most_word 7 4) read_behind

module _ (input : List ℕ) (from : ℕ) (begun : starts_with letter_s (drop from input) ≡ true) where
  begins_whole : read_shell (drop from input) ≡ read_whole (drop (from + 2) input)
  unfolding read_shell
  begins_whole = lettered_is letter_s read_whole input from begun

  pub counts_not : read_fields most_word 7 4 (drop (from + 2) input) ≡ bad → read_shell (drop from input) ≡ bad
  counts_not e = begins_whole ∙ both_not shell_of (read_fields most_word 7 4) read_behind (drop (from + 2) input) e

  module _ (counts : List ℕ) (p : ℕ) (e : read_fields most_word 7 4 (drop (from + 2) input) ≡ got counts (drop p input)) where
    pub volume_not : read_signed_field most_volume tab (drop p input) ≡ bad → read_shell (drop from input) ≡ bad
    volume_not h =
        begins_whole
        ∙ both_second_not shell_of (read_fields most_word 7 4) read_behind (drop (from + 2) input) counts (drop p input) e (both_not pair (read_signed_field most_volume tab) (read_row most_word 6) (drop p input) h)

    module _ (volume : ℤ) (q : ℕ) (h : read_signed_field most_volume tab (drop p input) ≡ got volume (drop q input)) where
      pub box_not : read_fields most_word 0 6 (drop q input) ≡ bad → read_shell (drop from input) ≡ bad
      box_not g =
          begins_whole
          ∙ both_second_not shell_of (read_fields most_word 7 4) read_behind (drop (from + 2) input) counts (drop p input) e
          (both_second_not pair (read_signed_field most_volume tab) (read_row most_word 6) (drop p input) volume (drop q input) h (row_fields most_word 6 (drop q input) ∙ g))

      pub shell_got : (box : List ℕ) (next : ℕ) → read_fields most_word 0 6 (drop q input) ≡ got box (drop next input) → read_shell (drop from input) ≡ got (shell_of counts (volume, box)) (drop next input)
      shell_got box next g =
          begins_whole
          ∙ both_got shell_of (read_fields most_word 7 4) read_behind (drop (from + 2) input) counts (drop p input) e (volume, box) (drop next input)
          (both_got pair (read_signed_field most_volume tab) (read_row most_word 6) (drop p input) volume (drop q input) h box (drop next input) (row_fields most_word 6 (drop q input) ∙ g))
