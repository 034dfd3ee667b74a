-- The numbers of a state before its kept layer, as the code holds them.
use Rattle.std.specs.Prelude.{List, ℕ, get_or}
use Rattle.layerstate.specs.State.{taken_at, closed_at, points_at, triangles_at}
use Rattle.layerstate.specs.declared.Head.{Head}

abbrev pub head_in : List ℕ → Head
head_in room =
    record {
      nx = get_or room 0 0;
      ny = get_or room 1 0;
      nz = get_or room 2 0;
      grey = get_or room 3 0;
      taken = get_or room taken_at 0;
      closed = get_or room closed_at 0;
      points = get_or room points_at 0;
      triangles = get_or room triangles_at 0;
    }
