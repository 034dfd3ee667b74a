-- A part of a room.
use Rattle.std.specs.Prelude.{List, ℕ, take, drop}

-- so many elements of a room from a place on
abbrev pub part_of : {A : Type 0} → ℕ → ℕ → List A → List A
part_of at long room = take long (drop at room)
