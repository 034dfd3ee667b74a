-- The text of document 01's worked example read back, and texts that are refused (document 02 (iii)).
use mathlib.Core.Path.{◌≡◌, refl}
use mathlib.Core.List.{List, [], ◌∷◌, ◌++◌, flat_map}
use mathlib.Core.Bool.{Bool, true, ◌&&◌}
use Prim.Native.Nat.{ℕ}
use lib.Dec.{eqb}
use lib.ListN.{replicate}
use Rattle.laws.specs.Range.{all_to}
use Rattle.laws.specs.Sum.{all_of}
use Rattle.lines.specs.Decimal.{is_digit}
use Rattle.lines.specs.Line.{end_of}
use Rattle.lines.proofs.Quoted.{bytes}
use Rattle.mesh.specs.Check.{lengths_fit, names_three, triangles_fit, all_within, mesh_number}
use Rattle.records.specs.Grown.{none}
use Rattle.reading.specs.Reading.{after, digits_on, read_number, negated, read_signed, ended_by, read_field, read_signed_field, read_fields, read_both, read_lettered, read_if, read_row}
use Rattle.reading.specs.Lined.{following, read_line, read_lines, read_end}
use Rattle.meshread.specs.Lines.{counts_of, read_counts, read_point, read_triangle, shell_of, read_shell}
use Rattle.meshread.specs.Mesh.{Mesh, mesh_of, read_lines_of}
use Rattle.meshread.specs.Promise.{Rooms, lengths_of, room_number, Said, refusal, mesh, with_mesh, with_lines, with_counts, said}
use Rattle.figures.proofs.Examples.{example_output, example_shell}

-- rooms for three points, one triangle and one shell
abbrev held : Rooms
held =
    record {
      points = replicate 9 7;
      edges = replicate 3 7;
      marks = replicate 3 7;
      triangles = replicate 3 7;
      records = none ∷ [];
      work = replicate 21 7;
    }

abbrev example_mesh : Mesh
example_mesh =
    record {
      points = 128 ∷ 0 ∷ 0 ∷ 0 ∷ 128 ∷ 0 ∷ 0 ∷ 0 ∷ 128 ∷ [];
      edges = 0 ∷ 1 ∷ 2 ∷ [];
      marks = 1 ∷ 1 ∷ 1 ∷ [];
      triangles = 0 ∷ 1 ∷ 2 ∷ [];
      records = example_shell ∷ [];
    }

example_back : said example_output (lengths_of held) ≡ mesh example_mesh
unfolding bytes example_output is_digit end_of after digits_on read_number negated read_signed ended_by read_field read_signed_field read_fields read_both read_lettered read_if read_row following read_line read_lines read_end counts_of read_counts read_point read_triangle shell_of read_shell mesh_of read_lines_of room_number with_mesh with_lines with_counts said all_to lengths_fit names_three triangles_fit all_within mesh_number flat_map
example_back = refl

-- a text, and the number and line of its refusal in these rooms
record Refused : Type 0 where
  text : List ℕ
  number : ℕ
  at : ℕ

abbrev case : List ℕ → ℕ → ℕ → Refused
case text number at = record { text = text; number = number; at = at }

answers : ℕ → ℕ → Said → Bool
answers number at (refusal n line zeroed) = eqb n number && eqb line at
answers number at (mesh m) = eqb number 0

is_refused : Refused → Bool
is_refused r = answers r.number r.at (said r.text (lengths_of held))

-- line 1, the points, the triangle and the shell of the example
counts : List ℕ
counts = bytes "M\t3\t1\t1\n"

points : List ℕ
points = bytes "V\t0\t128\t0\t0\t1\nV\t1\t0\t128\t0\t1\nV\t2\t0\t0\t128\t1\n"

corners : List ℕ
corners = bytes "T\t0\t1\t2\n"

shell : List ℕ
shell = bytes "S\t0\t3\t1\t1\t2097152\t0\t128\t0\t128\t0\t128\n"

refusals : List Refused
refusals =
    -- empty, no LF, a letter that is not due, a fourth number, 2^32 in line 1
    case [] 15 1 ∷
    case (bytes "M\t3\t1\t1") 15 1 ∷
    case (bytes "G\t3\t1\t1\n") 15 1 ∷
    case (bytes "M\t3\t1\t1\t6\n") 15 1 ∷
    case (bytes "M\t4294967296\t1\t1\n") 15 1 ∷
    -- four points and two triangles: the point rooms come first; then triangles, records, the work room
    case (bytes "M\t4294967295\t2\t2\n") 4 0 ∷
    case (bytes "M\t3\t2\t2\n") 5 0 ∷
    case (bytes "M\t2\t1\t2\n") 11 0 ∷
    case (bytes "M\t2\t1\t1\n") 3 0 ∷
    -- missing lines, a last line without its LF, bytes after the last
    case counts 15 2 ∷
    case (counts ++ points) 15 5 ∷
    case (counts ++ points ++ corners) 15 6 ∷
    case (counts ++ points ++ corners ++ bytes "S\t0\t3\t1\t1\t2097152\t0\t128\t0\t128\t0\t128") 15 6 ∷
    case (counts ++ points ++ corners ++ shell ++ bytes "\n") 15 7 ∷
    -- an edge number that is not above the one before
    case (counts ++ bytes "V\t0\t128\t0\t0\t1\nV\t0\t0\t128\t0\t1\nV\t2\t0\t0\t128\t1\n") 15 3 ∷
    -- a volume with a plus, of minus 0, past the limit on both sides, and at it
    case (counts ++ points ++ corners ++ bytes "S\t0\t3\t1\t1\t+2097152\t0\t128\t0\t128\t0\t128\n") 15 6 ∷
    case (counts ++ points ++ corners ++ bytes "S\t0\t3\t1\t1\t-0\t0\t128\t0\t128\t0\t128\n") 15 6 ∷
    case (counts ++ points ++ corners ++ bytes "S\t0\t3\t1\t1\t4195092529152000001\t0\t128\t0\t128\t0\t128\n") 15 6 ∷
    case (counts ++ points ++ corners ++ bytes "S\t0\t3\t1\t1\t-4195092529152000001\t0\t128\t0\t128\t0\t128\n") 15 6 ∷
    case (counts ++ points ++ corners ++ bytes "S\t0\t3\t1\t1\t-4195092529152000000\t0\t128\t0\t128\t0\t4294967295\n") 0 0 ∷
    -- a point number at V with a coordinate of 16,129 and a mark of 2; then the coordinate; then the mark
    case (counts ++ bytes "V\t0\t16129\t0\t0\t2\nV\t1\t0\t128\t0\t1\nV\t2\t0\t0\t128\t1\n" ++ bytes "T\t0\t1\t3\n" ++ shell) 7 0 ∷
    case (counts ++ bytes "V\t0\t16129\t0\t0\t2\nV\t1\t0\t128\t0\t1\nV\t2\t0\t0\t128\t1\n" ++ corners ++ shell) 8 0 ∷
    case (counts ++ bytes "V\t0\t16128\t0\t0\t2\nV\t1\t0\t128\t0\t1\nV\t2\t0\t0\t128\t1\n" ++ corners ++ shell) 9 0 ∷
    []

refusals_hold : all_of is_refused refusals ≡ true
unfolding bytes counts points corners shell answers is_refused refusals all_of is_digit end_of after digits_on read_number negated read_signed ended_by read_field read_signed_field read_fields read_both read_lettered read_if read_row following read_line read_lines read_end counts_of read_counts read_point read_triangle shell_of read_shell mesh_of read_lines_of room_number with_mesh with_lines with_counts said all_to lengths_fit names_three triangles_fit all_within mesh_number flat_map
refusals_hold = refl
