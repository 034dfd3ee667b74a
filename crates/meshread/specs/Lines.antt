-- The four kinds of line of a mesh's text, read from its front (document 02 (iii)). A number is below 2^32, in every field but the volume.
use Rattle.std.specs.Prelude.{List, ℕ, ◌+◌, leb, ℤ, get_or}
use Rattle.lines.specs.Line.{tab}
use Rattle.reading.specs.Reading.{most_word, Got, got, after, read_fields, read_signed_field, read_both, read_lettered, read_if, read_row}
use Rattle.records.specs.declared.Shell.{Shell}
use Rattle.records.specs.Grown.{most_volume}
use Rattle.meshlines.specs.MeshLines.{letter_v, letter_t}
use Rattle.shelllines.specs.ShellLines.{letter_s}
use Rattle.meshtext.specs.MeshText.{letter_m}

-- `M`: points, triangles, shells
pub record Counts : Type 0 where
  pub points : ℕ
  pub triangles : ℕ
  pub shells : ℕ

unfoldable pub counts_of : List ℕ → Counts
counts_of ns = record { points = get_or ns 0 0; triangles = get_or ns 1 0; shells = get_or ns 2 0 }

unfoldable pub read_counts : List ℕ → Got Counts
read_counts bs = after (λ ns rest. got (counts_of ns) rest) (read_lettered letter_m (read_row most_word 3) bs)

-- `V`: grid edge, x, y, z, mark. The edge number is not below the bound, which is 0 in the first of these lines, and then one more than the edge number of the line before
abbrev pub edge_of : List ℕ → ℕ
edge_of row = get_or row 0 0

abbrev pub next_edge : List ℕ → ℕ
next_edge row = edge_of row + 1

unfoldable pub read_point : ℕ → List ℕ → Got (List ℕ)
read_point bound bs = read_if (λ row. leb bound (edge_of row)) (read_lettered letter_v (read_row most_word 5)) bs

-- `T`: three points
unfoldable pub read_triangle : List ℕ → Got (List ℕ)
read_triangle bs = read_lettered letter_t (read_row most_word 3) bs

-- `S`: lowest point, points, triangles, touches, sixfold volume, least x, greatest x, least y, greatest y, least z, greatest z
unfoldable pub shell_of : List ℕ → ℤ × List ℕ → Shell
shell_of counts behind =
    record {
      low = get_or counts 0 0;
      points = get_or counts 1 0;
      triangles = get_or counts 2 0;
      touches = get_or counts 3 0;
      volume = behind.0;
      least_x = get_or behind.1 0 0;
      greatest_x = get_or behind.1 1 0;
      least_y = get_or behind.1 2 0;
      greatest_y = get_or behind.1 3 0;
      least_z = get_or behind.1 4 0;
      greatest_z = get_or behind.1 5 0;
    }

unfoldable pub read_shell : List ℕ → Got Shell
read_shell bs =
    read_lettered letter_s (read_both shell_of (read_fields most_word 7 4) (read_both (λ volume box. (volume, box)) (read_signed_field most_volume tab) (read_row most_word 6))) bs
