-- The points and their places (document 01, "Points and order", first paragraph).
use Rattle.std.specs.Prelude.{List, [], ◌∷◌, Bool, ℕ, ◌+◌, ◌*◌, ◌-◌, ◌/◌, ◌%◌, get_or}
use Rattle.laws.specs.Range.{count_to, keep_to}
use Rattle.laws.specs.Nearest.{nearest}
use Rattle.grid.specs.Limits.{unit}
use Rattle.grid.specs.Grid.{Size, Kind, coordinate, along, other_end, edge_count, crossed}

-- |a - b|
abbrev pub apart : ℕ → ℕ → ℕ
apart a b = (a - b) + (b - a)

-- 256 · |g - v0| / |v1 - v0| to the nearest whole number, halves up
unfoldable pub offset : ℕ → ℕ → ℕ → ℕ
offset v0 v1 grey = nearest (unit * apart grey v0) (apart v1 v0)

module _ (k : Kind) (n : Size) where
  -- one point per crossed grid edge, in rising order of grid edge number
  unfoldable pub point_edges : (ℕ → Bool) → List ℕ
  point_edges above = keep_to (edge_count k n) (crossed k n above)

  -- numbered from 0: as many crossed edges as there are below it
  unfoldable pub number : (ℕ → Bool) → ℕ → ℕ
  number above e = count_to e (crossed k n above)

  -- across the edge the edge's whole coordinates times 256; along it 256 times the lower end's coordinate plus the offset
  unfoldable pub place_from : ℕ → List ℕ → ℕ → ℕ → ℕ → ℕ
  place_from grey samples s d axis =
      unit * coordinate n axis s + along d axis * offset (get_or samples s 0) (get_or samples (other_end n s d) 0) grey

  unfoldable pub place : ℕ → List ℕ → ℕ → List ℕ
  place grey samples e =
      let s = e / k.many in
      let d = k.direction (e % k.many) in
      place_from grey samples s d 0 ∷ place_from grey samples s d 1 ∷ place_from grey samples s d 2 ∷ []
