-- What the functions of the program ask and promise.
use Rattle.std.specs.Prelude.{◌≡◌, List, ℕ, length}
use Rattle.gridtext.specs.Grid.{samples_of, head_number}
use Rattle.gridtext.specs.declared.Head.{Head}

-- the samples of a grid whose numbers passed their checks
abbrev pub SmallGrid : Head → List ℕ → Type 0
SmallGrid h samples = (head_number h ≡ 0) × (length samples ≡ samples_of h)
