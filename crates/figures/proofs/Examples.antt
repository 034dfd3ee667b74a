-- Document 01's worked example and texts that are refused, run through the definitions.
use mathlib.Core.Path.{◌≡◌, refl}
use mathlib.Core.List.{List, [], ◌∷◌, ◌++◌}
use mathlib.Core.Bool.{Bool, true, ◌&&◌}
use Prim.Native.Nat.{ℕ}
use lib.Dec.{eqb}
use lib.ListN.{length, replicate}
use Rattle.laws.specs.Range.{join_to}
use Rattle.laws.specs.Sum.{all_of}
use Rattle.laws.specs.Room.{laid}
use Rattle.grid.specs.Sides.{side_fits, sides_fit}
use Rattle.grid.specs.Grid.{site}
use lib.IntN.{pos, negsuc}
use Rattle.lines.specs.Decimal.{is_digit, decimal_to, decimal, signed}
use Rattle.reading.specs.Reading.{after, digits_on, read_number, ended_by, read_field, read_row, ahead, line_then, read_rows}
use Rattle.lines.specs.Line.{end_of, line, fields, lettered}
use Rattle.writing.specs.Writing.{refusal_text}
use Rattle.records.specs.declared.Shell.{Shell}
use Rattle.meshlines.specs.MeshLines.{points_text, triangles_text}
use Rattle.shelllines.specs.ShellLines.{shell_text, shells_text}
use Rattle.meshtext.specs.MeshText.{front_text, mesh_text}
use Rattle.gridtext.specs.Grid.{head_of, read_head, smoothing_fits, head_number, refused, granted, with_rows, with_head, read_grid}
use Rattle.gridtext.specs.GridText.{sample_row, rows_text, head_text, grid_text}
use Rattle.gridtext.specs.declared.Head.{Head}
use Rattle.lines.proofs.Quoted.{bytes}

-- the input of the example, whole
unfoldable pub example_input : List ℕ
example_input = bytes "G\t2\t2\t2\t50\t0\t0\n100\t0\n0\t0\n0\t0\n0\t0\n"

unfoldable pub example_numbers : Head
example_numbers = record { nx = 2; ny = 2; nz = 2; grey = 50; rounds = 0; weight = 0 }

unfoldable pub example_samples : List ℕ
example_samples = 100 ∷ replicate 7 0

-- it is read, and the rest of the room stays
example_read : read_grid example_input (replicate 10 7) ≡ granted example_numbers example_samples (replicate 10 7)
unfolding bytes example_input example_numbers example_samples is_digit after digits_on read_number ended_by read_field end_of read_row ahead line_then read_rows head_of read_head side_fits sides_fit smoothing_fits head_number refused granted with_rows with_head read_grid laid
example_read = refl

pub example_text : grid_text example_numbers example_samples ≡ example_input
unfolding bytes example_input example_numbers example_samples decimal_to decimal end_of line join_to site sample_row rows_text head_text grid_text
example_text = refl

-- the output of the example, whole, and a shell of negative volume
unfoldable pub example_output : List ℕ
example_output = bytes "M\t3\t1\t1\nV\t0\t128\t0\t0\t1\nV\t1\t0\t128\t0\t1\nV\t2\t0\t0\t128\t1\nT\t0\t1\t2\nS\t0\t3\t1\t1\t2097152\t0\t128\t0\t128\t0\t128\n"

abbrev pub example_shell : Shell
example_shell =
    record {
      low = 0;
      points = 3;
      triangles = 1;
      touches = 1;
      volume = pos 2097152;
      least_x = 0;
      greatest_x = 128;
      least_y = 0;
      greatest_y = 128;
      least_z = 0;
      greatest_z = 128;
    }

pub example_output_lem : mesh_text (128 ∷ 0 ∷ 0 ∷ 0 ∷ 128 ∷ 0 ∷ 0 ∷ 0 ∷ 128 ∷ []) (0 ∷ 1 ∷ 2 ∷ []) (1 ∷ 1 ∷ 1 ∷ []) (0 ∷ 1 ∷ 2 ∷ []) 1 (λ n. example_shell) ≡ example_output
unfolding bytes example_output decimal_to decimal signed end_of line fields lettered join_to points_text triangles_text shell_text shells_text front_text mesh_text
example_output_lem = refl

abbrev negative_shell : Shell
negative_shell =
    record {
      low = 4;
      points = 5;
      triangles = 6;
      touches = 0;
      volume = negsuc 99;
      least_x = 1;
      greatest_x = 20;
      least_y = 300;
      greatest_y = 4000;
      least_z = 16128;
      greatest_z = 16128;
    }

negative_shell_lem : shell_text negative_shell ≡ bytes "S\t4\t5\t6\t0\t-100\t1\t20\t300\t4000\t16128\t16128\n"
unfolding bytes decimal_to decimal signed end_of line fields shell_text
negative_shell_lem = refl

refusal_line : refusal_text 12 5 ≡ bytes "R\t12\t5\n"
unfolding bytes decimal_to decimal end_of line lettered refusal_text
refusal_line = refl

-- a text, and the number and line of its refusal in a room of ten
record Refused : Type 0 where
  text : List ℕ
  number : ℕ
  at : ℕ

abbrev case : List ℕ → ℕ → ℕ → Refused
case text number at = record { text = text; number = number; at = at }

is_refused : Refused → Bool
is_refused r =
    let o = read_grid r.text (replicate 10 7) in
    eqb o.answer.number r.number && (eqb o.answer.line r.at && eqb (length o.samples) 10)

-- line 1 of the example
example_head : List ℕ
example_head = bytes "G\t2\t2\t2\t50\t0\t0\n"

refusals : List Refused
refusals =
    -- empty
    case [] 12 1 ∷
    -- no final LF
    case (example_head ++ bytes "100\t0\n0\t0\n0\t0\n0\t0") 12 5 ∷
    -- CR LF
    case (bytes "G\t2\t2\t2\t50\t0\t0\r\n100\t0\n0\t0\n0\t0\n0\t0\n") 12 1 ∷
    -- a NUL
    case (bytes "\0G\t2\t2\t2\t50\t0\t0\n100\t0\n0\t0\n0\t0\n0\t0\n") 12 1 ∷
    -- tabs
    case (bytes "\t\t\t\t\t\t\t\t\t\t\t\t\t\t\t\t\t\t\t\t\t\t\t\t\t\t\t\t\t\t\t\t\t\t\t\t\t\t\t\t") 12 1 ∷
    -- a missing line
    case (example_head ++ bytes "100\t0\n0\t0\n0\t0\n") 12 5 ∷
    -- bytes after the last row
    case (example_head ++ bytes "100\t0\n0\t0\n0\t0\n0\t0\n\n") 12 6 ∷
    -- a needless zero
    case (example_head ++ bytes "0100\t0\n0\t0\n0\t0\n0\t0\n") 12 2 ∷
    -- a sign
    case (example_head ++ bytes "+100\t0\n0\t0\n0\t0\n0\t0\n") 12 2 ∷
    -- 65,536
    case (example_head ++ bytes "65536\t0\n0\t0\n0\t0\n0\t0\n") 12 2 ∷
    -- a number of 30 digits
    case (example_head ++ bytes "111111111111111111111111111111\t0\n0\t0\n0\t0\n0\t0\n") 12 2 ∷
    -- 65,536 in line 1
    case (bytes "G\t2\t2\t2\t65536\t0\t0\n100\t0\n0\t0\n0\t0\n0\t0\n") 12 1 ∷
    -- side 1
    case (bytes "G\t1\t2\t2\t50\t0\t0\n") 1 0 ∷
    -- side 65
    case (bytes "G\t2\t2\t65\t50\t101\t0\n") 1 0 ∷
    -- 516 samples and 101 rounds
    case (bytes "G\t2\t6\t43\t50\t101\t0\n") 13 0 ∷
    -- 101 rounds
    case (bytes "G\t2\t2\t2\t50\t101\t0\n") 10 0 ∷
    -- weight 257
    case (bytes "G\t2\t2\t2\t50\t0\t257\n") 10 0 ∷
    -- twelve samples in a room of ten
    case (bytes "G\t2\t2\t3\t50\t0\t0\n") 3 0 ∷
    []

refusals_hold : all_of is_refused refusals ≡ true
unfolding bytes example_head is_refused refusals all_of is_digit after digits_on read_number ended_by read_field end_of read_row ahead line_then read_rows head_of read_head side_fits sides_fit smoothing_fits head_number refused granted with_rows with_head read_grid laid
refusals_hold = refl
