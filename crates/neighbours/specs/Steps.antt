-- The work room on the way to the lists: `at` is where the starts begin, which is the number of entries.
use Rattle.std.specs.Prelude.{◌≡◌, List, ℕ, ◌+◌, ◌*◌, ◌<◌, ◌≤◌, eqb, length, get_or, set}
use Rattle.laws.specs.Range.{sum_to, count_to}
use Rattle.neighbours.specs.Lists.{bucket, list_of, start_of}

-- f 0, .., f (n - 1) are below a bound
abbrev pub AllBelow : ℕ → (ℕ → ℕ) → ℕ → Type 0
AllBelow n f most = (k : ℕ) → k < n → f k < most

-- from a place on the room holds f 0, .., f (n - 1)
abbrev pub HoldsTo : ℕ → ℕ → (ℕ → ℕ) → List ℕ → Type 0
HoldsTo n at f work = (p : ℕ) → p < n → get_or work (at + p) 0 ≡ f p

-- from a place on the room holds f 0, f 1, .. to its end
abbrev pub From : ℕ → (ℕ → ℕ) → List ℕ → Type 0
From at f work = (p : ℕ) → get_or work (at + p) 0 ≡ f p

-- every stamp is below a number
abbrev pub StampsBelow : ℕ → ℕ → List ℕ → Type 0
StampsBelow stamps stamp work = (q : ℕ) → get_or work (stamps + q) 0 < stamp

-- two for each of the first n corners that is p
abbrev pub size_to : List ℕ → ℕ → ℕ → ℕ
size_to ts n p = 2 * count_to n (λ k. eqb (get_or ts k 0) p)

-- where the bucket of p begins
unfoldable pub begin_of : List ℕ → ℕ → ℕ
begin_of ts p = sum_to p (λ q. length (bucket ts q))

-- each bucket holds its first entries, and its start is where its next entry goes
pub record Filled (ts : List ℕ) (v at : ℕ) (entries : ℕ → List ℕ) (work : List ℕ) : Type 0 where
  pub next : (p : ℕ) → p < v → get_or work (at + p) 0 ≡ begin_of ts p + length (entries p)
  pub held : (p j : ℕ) → p < v → j < length (entries p) → get_or work (begin_of ts p + j) 0 ≡ get_or (entries p) j 0

abbrev pub put_two : ℕ → ℕ → ℕ → ℕ → List ℕ → List ℕ
put_two at p q r work =
    let next = get_or work (at + p) 0 in
    set (set (set work next q) (next + 1) r) (at + p) (next + 2)

-- a stretch of the room was left as it was
abbrev pub Same : ℕ → ℕ → List ℕ → List ℕ → Type 0
Same from end work after = (i : ℕ) → from ≤ i → i < end → get_or after i 0 ≡ get_or work i 0

-- numbers stand in the room from a place on
abbrev pub WrittenFrom : ℕ → List ℕ → List ℕ → Type 0
WrittenFrom at xs work = (j : ℕ) → j < length xs → get_or work (at + j) 0 ≡ get_or xs j 0

-- every point's bucket from p on
abbrev pub BucketsFrom : List ℕ → ℕ → ℕ → List ℕ → Type 0
BucketsFrom ts p v work = (q : ℕ) → p ≤ q → q < v → WrittenFrom (begin_of ts q) (bucket ts q) work

-- every point's list below p
abbrev pub ListsTo : List ℕ → ℕ → List ℕ → Type 0
ListsTo ts p work = (q : ℕ) → q < p → WrittenFrom (start_of ts q) (list_of ts q) work
