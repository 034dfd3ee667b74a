-- The lines of a mesh's shells (document 01, "The program for small grids", output): each is the text of one record.
use Rattle.std.specs.Prelude.{List, [], ◌∷◌, ◌++◌, ℕ, ◌+◌, ◌*◌}
use Rattle.laws.specs.Range.{join_to}
use Rattle.lines.specs.Decimal.{signed}
use Rattle.lines.specs.Line.{tab, line, fields, longest_field, longest_signed}
use Rattle.records.specs.declared.Shell.{Shell}

-- the letter `S`
abbrev pub letter_s : ℕ
letter_s = 83

-- the numbers that stand before the volume
abbrev pub counts_of : Shell → List ℕ
counts_of s = s.low ∷ s.points ∷ s.triangles ∷ s.touches ∷ []

-- the box behind it, in the order x, y, z
abbrev pub box_of : Shell → List ℕ
box_of s = s.least_x ∷ s.greatest_x ∷ s.least_y ∷ s.greatest_y ∷ s.least_z ∷ s.greatest_z ∷ []

-- `S`: lowest point, points, triangles, touches, sixfold volume, least x, greatest x, least y, greatest y, least z, greatest z
unfoldable pub shell_text : Shell → List ℕ
shell_text s = letter_s ∷ tab ∷ (fields 7 (counts_of s) ++ (signed s.volume ++ tab ∷ line (box_of s)))

-- so many bytes hold any shell's line: letter and tab, four numbers, a volume and six numbers
abbrev pub longest_shell : ℕ
longest_shell = 2 + longest_field * 4 + longest_signed + longest_field * 6

-- the lines of the first shells, of which record n is this
unfoldable pub shells_text : ℕ → (ℕ → Shell) → List ℕ
shells_text shells record_of = join_to shells (λ n. shell_text (record_of n))
