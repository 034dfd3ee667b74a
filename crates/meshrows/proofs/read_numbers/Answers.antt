-- `meshrows::read_numbers` meets its contract: a letter and a tab, and a line of numbers.
use mathlib.Core.Path.{◌≡◌, sym, ◌∙◌}
use mathlib.Core.List.{List}
use mathlib.Core.Bool.{true}
use Prim.Native.Nat.{ℕ, ◌+◌}
use native.Mathlib.Omega.{arith}
use lib.ListN.{length, drop, replicate, length-replicate}
use Rattle.reading.specs.Reading.{most_word, Got, read_fields, read_lettered, read_row}
use Rattle.reading.proofs.Exact.{lettered_exact}
use Rattle.reading.proofs.Fields.{row_exact}
use Rattle.meshrows.specs.Answers.{starts_with}
use Rattle.meshrows.proofs.Begun.{lettered_not, behind_line}
use Rattle.meshrows.proofs.Pieces.{row_begun}
use Rattle.meshrows.proofs.read_numbers.Goals as goal

pub returns-then-not-begins-clause-line : goal.returns-then-not-begins-clause-line
returns-then-not-begins-clause-line g c = lettered_not c.args.letter _ c.args.input.now c.args.from (sym c.begins.ensures.starts ∙ c.if-not-begins.true)

-- the line behind the letter
module _ (N : ℕ) where
  line_begun : (letter : ℕ) (input : List ℕ) (from : ℕ) → starts_with letter (drop from input) ≡ true → {read : Got (List ℕ)} → read_fields most_word 0 (length {A = ℕ} (replicate N 0)) (drop (from + 2) input) ≡ read
      → read_lettered letter (read_row most_word N) (drop from input) ≡ read
  line_begun letter input from b h = row_begun letter N input from b (rw length-replicate at h)

pub returns-in_err-next-clause-line : goal.returns-in_err-next-clause-line
returns-in_err-next-clause-line g c =
    rw c.from_residual.ensures (line_begun g.row.N c.args.letter c.args.input.now c.args.from (sym c.begins.ensures.starts ∙ c.if-not-begins.false) c.in_err-next.ensures.line)

pub returns-clause-line : goal.returns-clause-line
returns-clause-line g c = line_begun g.row.N c.args.letter c.args.input.now c.args.from (sym c.begins.ensures.starts ∙ c.if-not-begins.false) c.in_ok-next.ensures.line

pub returns-clause-place : goal.returns-clause-place
returns-clause-place g c =
    behind_line (lettered_exact c.args.letter (row_exact most_word g.row.N (omega arith))) (λ ns. omega arith) c.args.input.now c.args.from c.read_fields.new.room c.in_ok-next.next
    (line_begun g.row.N c.args.letter c.args.input.now c.args.from (sym c.begins.ensures.starts ∙ c.if-not-begins.false) c.in_ok-next.ensures.line)
    c.in_ok-next.ensures.inside
