-- An input as it was read: a refusal is answered with its line, and else it is the text of a small grid.
use mathlib.Core.Path.{◌≡◌, ap, ap₂, sym, ◌∙◌, subst}
use mathlib.Core.List.{List}
use Prim.Native.Nat.{ℕ, ◌*◌, ◌≤◌}
use lib.ListN.{length, take, replicate}
use Rattle.std.specs.Prelude.{Ok, Err}
use Rattle.laws.proofs.Rooms.{laid_read}
use Rattle.grid.specs.Limits.{most_small}
use Rattle.grid.specs.declared.refusal.Refusal.{Refusal}
use Rattle.grid.specs.Refusal.{number_of, grid_line}
use Rattle.grid.proofs.Refused.{never_0}
use Rattle.writing.specs.Writing.{refusal_text}
use Rattle.gridtext.specs.Grid.{Parsed, samples_of, head_number, granted, read_grid}
use Rattle.gridtext.specs.Promise.{left}
use Rattle.gridtext.specs.declared.Head.{Head}
use Rattle.gridtext.proofs.Checks.{passed, rows_few}
use Rattle.gridtext.proofs.GridTexts.{Taken, grid_taken}
use Rattle.small.specs.Answer.{smoothed_mesh, grid_edges, Answers, printed, refused}
use Rattle.printing.specs.Prints.{Prints}
use Rattle.small.specs.Promise.{SmallGrid}

abbrev room : List ℕ
room = replicate most_small 0

-- line 1's numbers, as they stand in an answer
abbrev pub head_in : Parsed → Head
head_in p = record { nx = p.nx; ny = p.ny; nz = p.nz; grey = p.grey; rounds = p.rounds; weight = p.weight }

pub refusal_answers : (input : List ℕ) (x : Refusal) (exit : List ℕ) → left (Err x) exit ≡ read_grid input room → (text : List ℕ) → text ≡ refusal_text (number_of x) (grid_line x) → Answers input text
refusal_answers input x exit e text t =
    refused (λ z. never_0 x (ap (λ o. o.answer.number) e ∙ z)) (t ∙ ap (λ o. refusal_text o.answer.number o.answer.line) e)

module _ (input : List ℕ) (h : Head) (exit : List ℕ) (e : left (Ok h) exit ≡ read_grid input room) where
  taken : Taken input room (read_grid input room)
  taken = grid_taken input room (sym (ap (λ o. o.answer.number) e))

  head_is : h ≡ taken.head
  unfolding granted
  head_is = ap (λ o. head_in o.answer) (e ∙ taken.answer)

  samples_are : take (samples_of h) exit ≡ taken.samples
  unfolding granted
  samples_are =
      ap₂ (λ k xs. take (samples_of k) xs) head_is (ap (λ o. o.samples) (e ∙ taken.answer))
      ∙ laid_read taken.samples room (samples_of taken.head) taken.small.whole

  checked : head_number h ≡ 0
  checked = ap head_number head_is ∙ taken.small.checked

  pub samples_few : samples_of h ≤ most_small
  samples_few = (passed h checked).1

  pub rows_read : h.ny * h.nz ≤ most_small
  rows_read = rows_few h checked

  pub grid_small : SmallGrid h (take (samples_of h) exit)
  grid_small = (checked, ap length samples_are ∙ (taken.small.whole ∙ ap samples_of (sym head_is)))

  pub grid_answers : (text : List ℕ) → Prints (smoothed_mesh h (take (samples_of h) exit)) (grid_edges h (take (samples_of h) exit)) text → Answers input text
  grid_answers text q =
      printed taken.head taken.samples taken.small taken.text
      (subst (λ k. Prints (smoothed_mesh k taken.samples) (grid_edges k taken.samples) text) head_is
      (subst (λ s. Prints (smoothed_mesh h s) (grid_edges h s) text) samples_are q))
