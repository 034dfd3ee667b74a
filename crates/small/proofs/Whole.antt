-- The program reads no more of an input than decides its answer: what it may answer to the bytes that it reads, it may answer to the whole input.
use mathlib.Core.Path.{◌≡◌, ap, sym, ◌∙◌}
use mathlib.Core.List.{List}
use Prim.Native.Nat.{ℕ}
use lib.ListN.{take, replicate}
use Rattle.grid.specs.Limits.{most_small}
use Rattle.gridtext.specs.Grid.{read_grid}
use Rattle.writing.specs.Writing.{refusal_text}
use Rattle.gridtext.proofs.Enough.{enough_read}
use Rattle.printing.specs.Sizes.{most_input}
use Rattle.small.specs.Answer.{parsed, Answers, printed, refused}
use Rattle.small.proofs.OneAnswer.{grid_of_text, text_of_grid}

module _ (input : List ℕ) where
  same : read_grid (take most_input input) (replicate most_small 0) ≡ read_grid input (replicate most_small 0)
  same = enough_read input (replicate most_small 0)

  pub whole_answered : (text : List ℕ) → Answers (take most_input input) text → Answers input text
  whole_answered text (printed h samples small e p) = printed h samples small (text_of_grid input h samples small (sym same ∙ grid_of_text (take most_input input) h samples small e)) p
  whole_answered text (refused n t) =
      let q : parsed (take most_input input) ≡ parsed input = ap (λ o. o.answer) same in
      refused (λ z. n (ap (λ a. a.number) q ∙ z)) (t ∙ ap (λ a. refusal_text a.number a.line) q)
