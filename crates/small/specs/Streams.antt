-- What the program does to a writer.
use Rattle.std.specs.Prelude.{ℕ, List}
use Rattle.std.specs.declared.option.Option.{Option}
use Rattle.std.specs.Io.KnownBytes.{Appends}
use Rattle.small.specs.Answer.{Answers}

-- known bytes that a writer holds grow by a text that answers the input
abbrev pub Answered : List ℕ → Option (List ℕ) → Option (List ℕ) → Type 0
Answered input old new = (text : List ℕ) × Answers input text × Appends old new text
