-- The sixfold volumes of all shells, as the reader's work room holds them: two words a shell (document 02 (iii)).
use Rattle.std.specs.Prelude.{List, ℕ, ◌+◌, ◌*◌, ◌/◌, ◌%◌, ◌^◌, ℤ, pos, nat_abs, ◌+ℤ◌, ◌-ℤ◌, get_or, set}
use Rattle.std.proofs.lemmas.List.Edits.{sets}
use Rattle.laws.specs.Signed.{sum_of_ℤ}
use Rattle.laws.specs.Values.{list_to}
use Rattle.mesh.specs.Mesh.{triangle_at}
use Rattle.records.specs.Record.{sixfold, triangles_under}
use Rattle.records.specs.Grown.{most_volume}
use Rattle.columns.specs.Room.{marks_at, column_at, points_in, triangles_in, numbers_in}

-- the volume of shell n: what the determinants of its triangles are together
abbrev pub volume_in : ℕ → ℕ → List ℕ → ℕ → ℤ
volume_in v t work n =
    sum_of_ℤ (λ k. sixfold (points_in v work) (triangle_at (triangles_in v t work) k)) (triangles_under (triangles_in v t work) (numbers_in v t work) n)

-- a volume as it is stored: with the bound added, so that none is below 0
unfoldable pub stored_volume : ℤ → ℕ
stored_volume z = nat_abs (pos most_volume +ℤ z)

-- a number of 64 bits in two words
abbrev pub high_word : ℕ → ℕ
high_word x = x / 2 ^ 32

abbrev pub low_word : ℕ → ℕ
low_word x = x % 2 ^ 32

-- shell n's two words: the high one in the part of the marks, the low one in the column
abbrev pub words_in : ℕ → ℕ → List ℕ → ℕ → ℕ
words_in v t work n = get_or work (marks_at v + n) 0 * 2 ^ 32 + get_or work (column_at v t + n) 0

abbrev pub with_words : ℕ → ℕ → ℕ → ℕ → List ℕ → List ℕ
with_words v t n x work = set (set work (marks_at v + n) (high_word x)) (column_at v t + n) (low_word x)

-- the two words of all shells
abbrev pub all_words : ℕ → ℕ → ℕ → (ℕ → ℕ) → List ℕ → List ℕ
all_words v t shells f work = sets (sets work (marks_at v) (list_to shells (λ n. high_word (f n)))) (column_at v t) (list_to shells (λ n. low_word (f n)))

-- the volume that shell n's two words hold
abbrev pub volume_read : ℕ → ℕ → List ℕ → ℕ → ℤ
volume_read v t work n = pos (words_in v t work n) -ℤ pos most_volume
