-- What is written answers what was read, and so the whole input.
use mathlib.Core.Path.{◌≡◌, ap, sym, ◌∙◌, subst}
use Rattle.std.proofs.Common.{ℕ, List, take, length}
use Rattle.std.specs.Prelude.{Option, Some, None, Result, Ok, Err, OnOk, IfSome}
use Rattle.std.specs.Io.KnownBytes.{Appends}
use Rattle.printing.specs.Sizes.{most_input}
use Rattle.small.specs.Answer.{Answers}
use Rattle.small.specs.Streams.{Answered}
use Rattle.small.proofs.Whole.{whole_answered}
use Rattle.small.proofs.streams.answer_all.Goals as goal

answers_all : {T E : Type 0} (r : Result T E) (given old new : Option (List ℕ)) (read room text : List ℕ) → most_input ≡ length room
    → IfSome given (λ g. read ≡ take (length room) g) → Answers read text → OnOk r (Appends old new text)
    → OnOk r (IfSome given (λ g. Answered g old new))
answers_all (Ok x) (Some g) old new read room text l b t h =
    (text, whole_answered g text (subst (λ xs. Answers xs text) (b ∙ ap (λ n. take n g) (sym l)) t), h)
answers_all (Ok x) None old new read room text l b t h = tt
answers_all (Err e) given old new read room text l b t h = tt

pub returns : goal.returns
returns g c = answers_all c.write_all.result _ _ _ _ _ _ (sym c.room-room.ensures) c.in_ok-filled.ensures.bytes c.answer-length.ensures.text c.write_all.ensures.bytes
