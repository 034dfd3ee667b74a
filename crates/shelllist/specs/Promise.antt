-- What a call on the shells promises: the shell numbers of all points, and one record a shell (document 01, "Shells").
use Rattle.std.specs.Prelude.{◌≡◌, List, cond, ℕ, eqb, length}
use Rattle.laws.specs.Room.{laid}
use Rattle.laws.specs.Values.{list_to}
use Rattle.records.specs.declared.Shell.{Shell}
use Rattle.shellnumbers.specs.Lists.{Outcome, Lists}
use Rattle.records.specs.Record.{record_of}

module _ (points triangles marks : List ℕ) where
  -- the records after the call: a granted call lays one a shell over the front of the room, and records past the last stay
  unfoldable pub records_after : Outcome → List Shell → List Shell
  records_after o room = cond (eqb o.number 0) (laid (list_to o.shells (record_of points triangles marks o.numbers)) room) room

  -- a call on these rooms may leave this behind
  pub record Shells (numbers work : List ℕ) (room : List Shell) (o : Outcome) (after : List Shell) : Type 0 where
    pub lists : Lists points triangles marks (length room) numbers work o
    pub records : after ≡ records_after o room
