-- A shell's line: its parts one after the other. The lines of the first shells: none, and one more.
use mathlib.Core.Path.{◌≡◌, refl, ap, sym, ◌∙◌}
use mathlib.Core.List.{List, [], ◌∷◌, ◌++◌, append_assoc}
use Prim.Native.Nat.{ℕ, suc, ◌+◌, ◌≤◌, ◌<◌}
use native.Mathlib.Omega.{arith}
use lib.ListN.{length, set, length-append}
use lib.Seq.{sets}
use Rattle.laws.proofs.Ranges.{join_cong}
use Rattle.laws.proofs.Writes.{sets_append}
use Rattle.lines.specs.Decimal.{signed}
use Rattle.lines.specs.Line.{tab, line, fields}
use Rattle.records.specs.declared.Shell.{Shell}
use Rattle.shelllines.specs.ShellLines.{letter_s, counts_of, box_of, shell_text, shells_text}
use Rattle.lines.proofs.Fields.{fields_line}
use Rattle.writing.proofs.Fields.{fields_as_long}
use Rattle.laws.specs.Range.{join_to}
use Rattle.meshlines.proofs.LinesWritten.{lines_to, lines_length, lines_rise, lines_written}

module _ (s : Shell) where
  abbrev counts : List ℕ
  counts = fields 7 (counts_of s)

  abbrev volume : List ℕ
  volume = signed s.volume

  abbrev box : List ℕ
  box = fields 0 (box_of s)

  pub shell_parts : length (shell_text s) ≡ 2 + length counts + (length volume + 1) + length box
  unfolding shell_text
  shell_parts = rw (← fields_line (box_of s), length-append counts (volume ++ tab ∷ box), length-append volume (tab ∷ box)) (omega arith)

  pub shell_long : length (shell_text s) ≡ 2 + length (fields 0 (counts_of s)) + length volume + 1 + length box
  shell_long = omega (arith, shell_parts, fields_as_long 7 (counts_of s))

  pub shell_written : (room one two left : List ℕ) (at behind beyond : ℕ) → one ≡ sets (set (set room at letter_s) (at + 1) tab) (at + 2) counts
      → behind ≡ at + 2 + length counts → two ≡ sets one behind (volume ++ tab ∷ []) → beyond ≡ behind + (length volume + 1)
      → left ≡ sets two beyond box → left ≡ sets room at (shell_text s)
  unfolding shell_text
  shell_written room one two left at behind beyond e q f r g =
      let first : at + 1 ≡ suc at = omega arith in
      let second : at + 2 ≡ suc (suc at) = omega arith in
      let ended : length volume + 1 ≡ length (volume ++ tab ∷ []) = sym (length-append volume (tab ∷ [])) in
      let whole : (volume ++ tab ∷ []) ++ box ≡ volume ++ tab ∷ line (box_of s) = append_assoc volume (tab ∷ []) box ∙ ap (λ d. volume ++ tab ∷ d) (fields_line (box_of s)) in
      g ∙ rw (f, r, ended, sets_append one behind (volume ++ tab ∷ []) box, whole, e, q, sets_append (set (set room at letter_s) (at + 1) tab) (at + 2) counts (volume ++ tab ∷ line (box_of s)), first, second)

-- records that are the same one by one
pub shells_same : (n : ℕ) (f g : ℕ → Shell) → ((k : ℕ) → k < n → f k ≡ g k) → shells_text n f ≡ shells_text n g
unfolding shells_text
shells_same n f g same = join_cong n (λ k. shell_text (f k)) (λ k. shell_text (g k)) (λ k l. ap shell_text (same k l))

module _ (record_of_lem : ℕ → Shell) where
  pub shells_none : shells_text 0 record_of_lem ≡ []
  unfolding shells_text join_to
  shells_none = refl

  pub shells_length : (n : ℕ) → length (shells_text (n + 1) record_of_lem) ≡ length (shells_text n record_of_lem) + length (shell_text (record_of_lem n))
  unfolding shells_text lines_to
  shells_length n = lines_length (λ n. shell_text (record_of_lem n)) n

  pub shells_rise : (m n : ℕ) → m ≤ n → length (shells_text m record_of_lem) ≤ length (shells_text n record_of_lem)
  unfolding shells_text lines_to
  shells_rise m n l = lines_rise (λ n. shell_text (record_of_lem n)) m n l

  -- a line more, written behind the others
  pub shells_written : (room old left : List ℕ) (from at n : ℕ) → old ≡ sets room from (shells_text n record_of_lem) → at ≡ from + length (shells_text n record_of_lem) → left ≡ sets old at (shell_text (record_of_lem n)) → left ≡ sets room from (shells_text (n + 1) record_of_lem)
  unfolding shells_text lines_to
  shells_written room old left from at n e q f = lines_written (λ n. shell_text (record_of_lem n)) room old left from at n e q f
