-- The text of a grid (document 01, "The program for small grids"): what the reader takes, and nothing else.
use Rattle.std.specs.Prelude.{◌≡◌, List, [], ◌∷◌, ◌++◌, ℕ, ◌≤◌, length, get_or}
use Rattle.laws.specs.Range.{join_to}
use Rattle.laws.specs.Sum.{All}
use Rattle.grid.specs.Grid.{Size, site}
use Rattle.lines.specs.Line.{tab, line}
use Rattle.grid.specs.Limits.{most_number}
use Rattle.gridtext.specs.Grid.{letter_g, samples_of, head_number}
use Rattle.gridtext.specs.declared.Head.{Head}

abbrev pub head_size : Head → Size
head_size h = record { nx = h.nx; ny = h.ny; nz = h.nz }

-- a row of nx samples
unfoldable pub sample_row : Size → List ℕ → ℕ → ℕ → List ℕ
sample_row n samples y z = join_to n.nx (λ x. get_or samples (site n x y z) 0 ∷ [])

-- ny·nz rows, y fastest, then z
unfoldable pub rows_text : Size → List ℕ → List ℕ
rows_text n samples = join_to n.nz (λ z. join_to n.ny (λ y. line (sample_row n samples y z)))

unfoldable pub head_text : Head → List ℕ
head_text h = letter_g ∷ tab ∷ line (h.nx ∷ h.ny ∷ h.nz ∷ h.grey ∷ h.rounds ∷ h.weight ∷ [])

unfoldable pub grid_text : Head → List ℕ → List ℕ
grid_text h samples = head_text h ++ rows_text (head_size h) samples

-- a grid that the program takes
pub record Small (h : Head) (samples : List ℕ) : Type 0 where
  pub checked : head_number h ≡ 0
  pub grey : h.grey ≤ most_number
  pub whole : length samples ≡ samples_of h
  pub within : All (λ v. v ≤ most_number) samples
