-- The balance as a reader of the extractor's promise has it: of the triangles in the lent room, for the grid edges and marks in theirs.
use mathlib.Core.Path.{◌≡◌, ap, sym, ◌∙◌}
use mathlib.Core.List.{List}
use mathlib.Core.Bool.{false, ◌&&◌, and-false}
use Prim.Native.Nat.{ℕ, ◌<◌, ◌≤◌}
use native.Mathlib.Decide.{dec_lt}
use native.Mathlib.Omega.{arith}
use lib.Dec.{eqb}
use lib.ListN.{length, get_or, length-map}
use borrow.Author.Tests.{ne_eqb}
use Rattle.laws.specs.Range.{one_if}
use Rattle.laws.specs.Sum.{All}
use Rattle.laws.specs.Mesh.{Ends, sides}
use Rattle.laws.proofs.Lists.{map_at}
use Rattle.laws.proofs.Sums.{all_weaken}
use Rattle.grid.specs.Grid.{is_above_grey, mark}
use Rattle.grid.specs.Mode.{Mode}
use Rattle.grid.specs.Work.{size}
use Rattle.grid.proofs.Sound.{PointSide, mesh_sound}
use Rattle.extract.specs.Extraction.{Rooms, Outcome, point_list, triangle_list}
use Rattle.extract.specs.Promise.{Extracts}
use Rattle.closed.specs.Runs.{runs, triangles_from, Even, Balanced, OneEachWay}
use Rattle.mesh.specs.Mesh.{triangles_of}
use Rattle.closed.specs.Pattern.{Owed, OwedOnce}
use Rattle.closed.specs.Left.{mesh_left, edges_left}
use Rattle.closed.proofs.Law.{ends_nothing}
use Rattle.closed.proofs.Balance.{balanced, unmarked_balanced}
use Rattle.closed.proofs.Once.{joined_once, at_most_once}
use Rattle.closed.proofs.Triangles.{side_by_triangle}
use Rattle.closed.proofs.Granted.{Granted, left_granted, triangles_of_flat}

module _ (mode : Mode) (owed : Owed mode) (nx ny nz grey : ℕ) (samples : List ℕ) (before : Rooms) (after : Outcome) (extracts : Extracts mode nx ny nz grey samples before after)
    (none : after.number ≡ 0) where
  left : Granted mode nx ny nz grey samples before after
  left = left_granted mode nx ny nz grey samples before after extracts none

  pub triangles_left : triangles_of (mesh_left after).triangles ≡ triangle_list mode (size nx ny nz) grey samples before
  triangles_left = ap triangles_of left.triangles_are ∙ triangles_of_flat (triangle_list mode (size nx ny nz) grey samples before)

  -- two points that lie on no common outer face, by the grid edges that were left
  pub extract_balanced : Balanced mode.kind (size nx ny nz) (edges_left after) (triangles_of (mesh_left after).triangles)
  extract_balanced =
      let fit = left.sides_fit_lem in
      rw (left.edges_are, triangles_left)
      (balanced mode owed (size nx ny nz) (is_above_grey grey samples) fit.least_x fit.least_y fit.least_z)

  -- a point below V that was left with mark 0
  unmarked_below : (p q : ℕ) → p < length (mesh_left after).marks → get_or (mesh_left after).marks p 0 ≡ 0
      → Even (triangle_list mode (size nx ny nz) grey samples before) p q
  unmarked_below p q l m =
      let n = size nx ny nz in
      let fit = left.sides_fit_lem in
      let points = point_list mode n grey samples before in
      let below : p < length points = omega (arith, l, ap length left.marks_are, length-map points (mark mode.kind n)) in
      let unmarked : mark mode.kind n (get_or points p 0) ≡ 0
      = sym (map_at (mark mode.kind n) points p 0 0 below) ∙ ap (λ ms. get_or ms p 0) (sym left.marks_are) ∙ m in
      unmarked_balanced mode owed n (is_above_grey grey samples) fit.least_x fit.least_y fit.least_z p q unmarked

  -- no side has an end at or above V
  beyond : (p q : ℕ) → length (mesh_left after).marks ≤ p → Even (triangle_list mode (size nx ny nz) grey samples before) p q
  unfolding runs
  beyond p q l =
      let n = size nx ny nz in
      let points = point_list mode n grey samples before in
      let above : length points ≤ p = omega (arith, l, ap length left.marks_are, length-map points (mark mode.kind n)) in
      let ends : All (Ends (λ i. i < length points)) (sides (triangle_list mode n grey samples before))
      = all_weaken (PointSide mode n (is_above_grey grey samples)) (Ends (λ i. i < length points)) (λ s h. (h.start, h.end))
      (sides (triangle_list mode n grey samples before))
      (mesh_sound mode n (is_above_grey grey samples) owed.cut) in
      let other : (i : ℕ) → i < length points → eqb i p ≡ false = λ i h. ne_eqb i p (λ e. omega arith) in
      ends_nothing (λ i. i < length points) (λ i j. one_if (eqb i p && eqb j q)) (λ i j a b. rw (other i a)) (sides (triangle_list mode n grey samples before)) ends
      ∙ sym (ends_nothing (λ i. i < length points) (λ i j. one_if (eqb i q && eqb j p))
      (λ i j a b. rw (other j b) (ap one_if (and-false (eqb i q))))
      (sides (triangle_list mode n grey samples before))
      ends)

  -- a point whose mark is 0, and any other
  pub extract_unmarked : (p q : ℕ) → get_or (mesh_left after).marks p 0 ≡ 0 → Even (triangles_of (mesh_left after).triangles) p q
  extract_unmarked p q m = rw triangles_left (go (dec_lt p (length (mesh_left after).marks)))
    where
      go : Dec (p < length (mesh_left after).marks) → Even (triangle_list mode (size nx ny nz) grey samples before) p q
      go (yes l) = unmarked_below p q l m
      go (no l) = beyond p q (omega arith)

module _ (mode : Mode) (once : OwedOnce mode) (nx ny nz grey : ℕ) (samples : List ℕ) (before : Rooms) (after : Outcome)
    (extracts : Extracts mode nx ny nz grey samples before after) (none : after.number ≡ 0) where
  abbrev are : triangles_of (mesh_left after).triangles ≡ triangle_list mode (size nx ny nz) grey samples before
  are = triangles_left mode once.owed nx ny nz grey samples before after extracts none

  -- between any two points at most one triangle runs from the first to the second
  pub extract_at_most_once : (p q : ℕ) → runs (triangles_of (mesh_left after).triangles) p q ≤ 1
  extract_at_most_once p q = rw are (at_most_once mode once (size nx ny nz) (is_above_grey grey samples) p q)

  -- between two that lie on no common outer face, exactly one each way or none
  pub extract_one_each_way : OneEachWay mode.kind (size nx ny nz) (edges_left after) (triangles_of (mesh_left after).triangles)
  extract_one_each_way p q hp hq apart =
      joined_once (triangles_of (mesh_left after).triangles) p q (extract_balanced mode once.owed nx ny nz grey samples before after extracts none p q hp hq apart) (extract_at_most_once p q)

  -- the sides from p to q and the triangles that run from p to q are as many
  pub extract_triangles : (p q : ℕ) → runs (triangles_of (mesh_left after).triangles) p q ≡ triangles_from (triangles_of (mesh_left after).triangles) p q
  extract_triangles p q =
      rw are
      (side_by_triangle (triangle_list mode (size nx ny nz) grey samples before)
      (all_weaken (PointSide mode (size nx ny nz) (is_above_grey grey samples)) (λ s. s.from ≡ s.to → ⊥) (λ s h. h.apart) (sides (triangle_list mode (size nx ny nz) grey samples before))
      (mesh_sound mode (size nx ny nz) (is_above_grey grey samples) once.owed.cut)) p q)
