-- What the program answers to an input (document 01, "The program for small grids").
use Rattle.std.specs.Prelude.{◌≡◌, ℕ, replicate}
use mathlib.Core.List.{List, map, flat_map}
use Rattle.laws.specs.Mesh.{flat}
use Rattle.grid.specs.Limits.{most_small}
use Rattle.grid.specs.Grid.{axes, is_above_grey, mark}
use Rattle.grid.specs.Point.{point_edges, place}
use Rattle.grid.specs.Mode.{cubes}
use Rattle.grid.specs.Mesh.{mesh}
use Rattle.closed.specs.Left.{Mesh}
use Rattle.writing.specs.Writing.{refusal_text}
use Rattle.printing.specs.Prints.{after_rounds, Prints}
use Rattle.gridtext.specs.Grid.{Parsed, read_grid}
use Rattle.gridtext.specs.GridText.{Small, head_size, grid_text}
use Rattle.gridtext.specs.declared.Head.{Head}

module _ (h : Head) (samples : List ℕ) where
  -- extract
  unfoldable pub grid_edges : List ℕ
  grid_edges = point_edges axes (head_size h) (is_above_grey h.grey samples)

  unfoldable pub extracted_mesh : Mesh
  extracted_mesh =
      record {
        points = flat_map (place axes (head_size h) h.grey samples) grid_edges;
        triangles = flat (mesh cubes (head_size h) (is_above_grey h.grey samples));
        marks = map (mark axes (head_size h)) grid_edges;
      }

  -- smooth by the stated rounds and weight
  unfoldable pub smoothed_mesh : Mesh
  smoothed_mesh = after_rounds h.rounds h.weight extracted_mesh

-- an input as it is read
abbrev pub parsed : List ℕ → Parsed
parsed input = (read_grid input (replicate most_small 0)).answer

-- the text of a small grid is answered with the text of its smoothed mesh, any other input with its refusal
pub data Answers (input text : List ℕ) : Type 0 where
  printed : (h : Head) (samples : List ℕ) → Small h samples → input ≡ grid_text h samples → Prints (smoothed_mesh h samples) (grid_edges h samples) text → Answers input text
  refused : ((parsed input).number ≡ 0 → ⊥) → text ≡ refusal_text (parsed input).number (parsed input).line → Answers input text
