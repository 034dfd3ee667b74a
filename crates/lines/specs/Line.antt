-- Lines of numbers as text: fields parted by tabs, a line ended by a line feed.
use Rattle.std.specs.Prelude.{List, [], ◌∷◌, ◌++◌, ℕ, zero, suc, ◌+◌, ◌*◌, length}
use Rattle.grid.specs.Limits.{word_digits, longest_number}
use Rattle.lines.specs.Decimal.{decimal}

-- fields are parted by tabs and a line is ended by a line feed: the byte behind a field that has k fields after it
abbrev pub tab : ℕ
tab = 9

abbrev pub line_feed : ℕ
line_feed = 10

unfoldable pub end_of : ℕ → ℕ
end_of zero = line_feed
end_of (suc k) = tab

-- numbers parted by tabs, the last ended by a line feed
unfoldable pub line : List ℕ → List ℕ
line [] = []
line (n ∷ ns) = decimal n ++ end_of (length ns) ∷ line ns

-- the same where the line has so many more fields after them
unfoldable pub fields : ℕ → List ℕ → List ℕ
fields more [] = []
fields more (n ∷ ns) = decimal n ++ end_of (length ns + more) ∷ fields more ns

-- a line of ours has no more fields
abbrev pub most_fields : ℕ
most_fields = 256

-- a field is a number and the byte that ends it: a number of 32 bits, or one of 64 bits with a sign
abbrev pub longest_field : ℕ
longest_field = word_digits + 1

abbrev pub longest_signed : ℕ
longest_signed = longest_number + 1

-- so a letter, its tab and so many fields of numbers of 32 bits take at most so many bytes
abbrev pub longest_line : ℕ → ℕ
longest_line k = 2 + longest_field * k

-- a line that starts with a letter
unfoldable pub lettered : ℕ → List ℕ → List ℕ
lettered letter ns = letter ∷ tab ∷ line ns
