-- A lent room after a list was written to its front.
use Rattle.std.specs.Prelude.{List, ◌++◌, length, drop}

-- the list laid over the front of the room, the rest of the room as it was
unfoldable pub laid : {A : Type 0} → List A → List A → List A
laid xs room = xs ++ drop (length xs) room
