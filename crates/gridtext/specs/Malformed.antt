-- Which line of a text is malformed (document 01, "The program for small grids"): the first that is not of its form.
use Rattle.std.specs.Prelude.{◌≡◌, List, [], ◌∷◌, ◌++◌, ℕ, suc, ◌+◌, ◌*◌, ◌≤◌, ◌<◌, length}
use Rattle.laws.specs.Sum.{All}
use Rattle.grid.specs.Limits.{most_number}
use Rattle.lines.specs.Line.{line}
use Rattle.gridtext.specs.Grid.{head_number}
use Rattle.gridtext.specs.GridText.{head_text}
use Rattle.gridtext.specs.declared.Head.{Head}

-- the text is a row of so many numbers, and then `more`: numbers of at most 65,535, with no sign and no needless zero, parted by tabs, and an LF
pub record RowThen (width : ℕ) (text more : List ℕ) : Type 0 where
  pub numbers : List ℕ
  pub many : length numbers ≡ width
  pub within : All (λ n. n ≤ most_number) numbers
  pub written : text ≡ line numbers ++ more

-- the text is so many rows, one after the other, and then `rest`
pub data RowsThen (width : ℕ) : ℕ → List ℕ → List ℕ → Type 0 where
  none : {text : List ℕ} → RowsThen width 0 text text
  row : {k : ℕ} {text more rest : List ℕ} → RowThen width text more → RowsThen width k more rest → RowsThen width (suc k) text rest

-- what stands behind the first `good` of so many rows is malformed: a row is due and the text begins with none, or none is due and bytes follow
pub data Malformed (width count good : ℕ) (text : List ℕ) : Type 0 where
  due : good < count → ((more : List ℕ) → RowThen width text more → ⊥) → Malformed width count good text
  over : good ≡ count → (text ≡ [] → ⊥) → Malformed width count good text

-- of so many rows, of which the first is line `first`, line `at` is malformed, and those before it are rows
pub record FirstMalformed (width count first : ℕ) (text : List ℕ) (at : ℕ) : Type 0 where
  pub good : ℕ
  pub rest : List ℕ
  pub before : RowsThen width good text rest
  pub here : Malformed width count good rest
  pub numbered : at ≡ first + good

-- the text is a line 1 with these numbers, and then `rest`
pub record HeadThen (text : List ℕ) (h : Head) (rest : List ℕ) : Type 0 where
  pub within : All (λ n. n ≤ most_number) (h.nx ∷ h.ny ∷ h.nz ∷ h.grey ∷ h.rounds ∷ h.weight ∷ [])
  pub written : text ≡ head_text h ++ rest

-- line `at` of an input is the first that is malformed: it is line 1; or line 1's numbers pass their checks, and it is the first malformed of the rows
pub data MalformedAt (input : List ℕ) (at : ℕ) : Type 0 where
  head : at ≡ 1 → ((h : Head) (rest : List ℕ) → HeadThen input h rest → ⊥) → MalformedAt input at
  rows : (h : Head) (rest : List ℕ) → HeadThen input h rest → head_number h ≡ 0 → FirstMalformed h.nx (h.ny * h.nz) 2 rest at → MalformedAt input at
