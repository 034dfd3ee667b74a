-- The face rule (document 01, "One cube", second paragraph).
use mathlib.Core.List.{List, [], ◌∷◌, ◌++◌, flat_map, reverse}
use Rattle.std.specs.Prelude.{Bool, cond, not, ◌&&◌, ℕ}
use Rattle.laws.specs.Mesh.{Arrow, arrow}

-- one step of the way round a face: is the corner that it leaves above, the edge that it goes by, and is the corner that it comes to above
pub record Step : Type 0 where
  pub leaving : Bool
  pub by : ℕ
  pub coming : Bool

-- the above corners fall into runs, and a step enters one, leaves one, or does neither
abbrev pub enters_run : Step → Bool
enters_run s = not s.leaving && s.coming

abbrev pub leaves_run : Step → Bool
leaves_run s = s.leaving && not s.coming

-- the edge by which we leave the run that was entered by the edge e: that of the first step that leaves one
unfoldable pub left_by : ℕ → List Step → ℕ
left_by e [] = e
left_by e (s ∷ ss) = cond (leaves_run s) s.by (left_by e ss)

-- one segment for each run that is entered, from the edge by which we enter it to the edge by which we leave it. After its last step the way
-- goes round again. A run that is the whole face is never entered.
unfoldable pub cut_runs : List Step → List Step → List Arrow
cut_runs round [] = []
cut_runs round (s ∷ ss) =
    let later = cut_runs round ss in
    cond (enters_run s) (arrow s.by (left_by s.by (ss ++ round)) ∷ later) later

unfoldable pub cuts : List Step → List Arrow
unfolding cut_runs left_by
cuts round = cut_runs round round

-- A face is the ring of its corners, gone round counterclockwise as seen from outside: on from each corner to the next, and from the last back to the first.
unfoldable pub round_from : {A : Type 0} → (ℕ → ℕ → A) → ℕ → ℕ → List ℕ → List A
round_from f first c [] = f c first ∷ []
round_from f first c (d ∷ ds) = f c d ∷ round_from f first d ds

unfoldable pub go_round : {A : Type 0} → (ℕ → ℕ → A) → List ℕ → List A
unfolding round_from
go_round f [] = []
go_round f (c ∷ cs) = round_from f c c cs

-- `above` says which corners are above, and `edge` numbers the edge between two corners
module _ (above : ℕ → Bool) (edge : ℕ → ℕ → ℕ) where
  abbrev pub step : ℕ → ℕ → Step
  step c d = record { leaving = above c; by = edge c d; coming = above d }

  unfoldable pub way_round : List ℕ → List Step
  unfolding go_round
  way_round ring = go_round step ring

  unfoldable pub face_segments : List ℕ → List Arrow
  face_segments ring = cuts (way_round ring)

  unfoldable pub segments_of : List (List ℕ) → List Arrow
  segments_of faces = flat_map face_segments faces

-- a face has two cubes: the ring as the other goes round it, the other way from the same corner
unfoldable pub back : List ℕ → List ℕ
back [] = []
back (c ∷ cs) = c ∷ reverse cs
