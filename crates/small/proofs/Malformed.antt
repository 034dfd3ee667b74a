-- The program refuses with number 12 where a line is malformed, and the line that it prints is the first.
use mathlib.Core.Path.{◌≡◌, ap, sym}
use mathlib.Core.List.{List}
use Prim.Native.Nat.{ℕ, ◌≤◌}
use native.Mathlib.Omega.{arith}
use lib.ListN.{length, replicate, length-replicate}
use Rattle.grid.specs.Limits.{most_small}
use Rattle.gridtext.specs.Grid.{refused_answer, refused}
use Rattle.gridtext.specs.Malformed.{MalformedAt}
use Rattle.writing.specs.Writing.{refusal_text}
use Rattle.gridtext.proofs.FirstMalformed.{malformed_first, first_refused}
use Rattle.small.specs.Answer.{parsed, Answers}
use Rattle.small.specs.Answer.{refused as answered}

module _ (input : List ℕ) where
  holds : most_small ≤ length (replicate {A = ℕ} most_small 0)
  holds = omega (arith, length-replicate {A = ℕ} most_small 0)

  pub line_first : (parsed input).number ≡ 12 → MalformedAt input (parsed input).line
  line_first e = malformed_first input (replicate most_small 0) holds e

  module _ (at : ℕ) (m : MalformedAt input at) where
    is_refused_lem : parsed input ≡ refused_answer 12 at
    unfolding refused
    is_refused_lem = ap (λ o. o.answer) (first_refused input (replicate most_small 0) holds at m)

    pub line_printed : Answers input (refusal_text 12 at)
    line_printed =
        answered
        (λ z. let q = ap (λ p. p.number) is_refused_lem in omega arith)
        (sym (ap (λ p. refusal_text p.number p.line) is_refused_lem))
