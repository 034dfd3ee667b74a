-- The turns of the two walks: each point, and each triangle, can be put into the column, and makes the next column of it.
use mathlib.Core.Path.{◌≡◌, ap, sym, ◌∙◌}
use mathlib.Core.List.{List}
use mathlib.Core.Bool.{Bool, true, false, cond}
use Prim.Native.Nat.{ℕ, zero, suc, ◌+◌, ◌<◌, ◌^◌}
use native.Mathlib.Omega.{arith}
use lib.Dec.{eqb, ltb}
use lib.Seq.{sets}
use borrow.Author.Tests.{ne_eqb}
use Rattle.laws.specs.Values.{list_to}
use Rattle.laws.proofs.Values.{length_list}
use Rattle.laws.proofs.Parts.{sets_again}
use Rattle.mesh.proofs.Places.{near_place, within_any}
use Rattle.columns.specs.declared.ways.Way.{Way}
use Rattle.columns.specs.declared.ways.Way.TheVariants.{Greatest, Count}
use Rattle.columns.specs.Room.{column_at, points_in, marks_in, StandsIn, ShellsStand, point_number, triangle_number}
use Rattle.columns.specs.Columns.{way_of, worth_of, start_by, put_at, column_to}
use Rattle.columns.specs.Turns.{PointTurn, TriangleTurn}
use Rattle.columns.proofs.Gathering.{column_after, none_put, put_here, more_put, had, count_small, column_fits}
use Rattle.columns.proofs.Rooms.{SameShells, SameMesh, column_beside, still_stands, many_points, mesh_passed, shells_stand, shells_inside, point_small, few_shells, corner_small, triangle_small}

-- ---- what a point brings is a word, where the greatest of it is sought
small_if : (b : Bool) {x y m : ℕ} → x < m → y < m → cond b x y < m
small_if true h k = h
small_if false h k = k

-- ---- the room with the column of some points, and of some triangles
module _ (shells v t : ℕ) (room : List ℕ) where
  abbrev pub points_after : ℕ → ℕ → List ℕ
  points_after kind j = column_after (way_of kind) (point_number v t room) (worth_of kind (points_in v room) (marks_in v room)) room (column_at v t) shells j

  abbrev pub triangles_after : ℕ → List ℕ
  triangles_after k = column_after Count (triangle_number v t room) (λ i. 0) room (column_at v t) shells k

module _ (shells v t : ℕ) (room : List ℕ) (S : StandsIn shells v t room) where
  stand : ShellsStand shells v t room
  stand = shells_stand shells v t room S

  words : (kind : ℕ) → way_of kind ≡ Greatest → (i : ℕ) → worth_of kind (points_in v room) (marks_in v room) i < 2 ^ 32
  unfolding worth_of
  words zero e i = let z : ◌≡◌ {A = ℕ} 0 1 = cc in absurd (omega arith)
  words (suc kind) e i =
      let mesh = mesh_passed shells v t room S in
      let near = near_place (points_in v room) mesh.coordinates_fit i in
      rw (ne_eqb (suc kind) 0 (λ h. omega arith))
      (small_if (eqb (suc kind) 2) (omega (arith, within_any 1 (marks_in v room) i mesh.marks_fit))
      (small_if (ltb (suc kind) 5) (omega (arith, near.x)) (small_if (ltb (suc kind) 7) (omega (arith, near.y)) (omega (arith, near.z)))))

  -- the column filled with what it has at first
  module _ (filled : List ℕ) (x : ℕ) (e : filled ≡ sets room (column_at v t) (list_to shells (λ n. x))) where
    same_begun : SameMesh v t room filled
    same_begun = rw e (column_beside shells v t room S (λ n. x))

    pub begun : StandsIn shells v t filled
    begun = still_stands shells v t room filled same_begun S

    again : (f : ℕ → ℕ) → sets filled (column_at v t) (list_to shells f) ≡ sets room (column_at v t) (list_to shells f)
    again f =
        let xs = list_to shells (λ n. x) in
        let long = length_list shells (λ n. x) in
        rw e (sets_again room (column_at v t) xs (omega (arith, long, shells_inside shells v t room S)) (list_to shells f) (omega (arith, long, length_list shells f)))

    pub points_begun : (kind : ℕ) → x ≡ start_by (way_of kind) → filled ≡ points_after shells v t filled kind 0
    points_begun kind is =
        e
        ∙ sym (again (λ n. x))
        ∙ ap (λ y. sets filled (column_at v t) (list_to shells (λ n. y))) is
        ∙ sym (none_put (way_of kind) (point_number v t filled) (worth_of kind (points_in v filled) (marks_in v filled)) filled (column_at v t) shells)

    pub points_ended : (kind j : ℕ) → points_after shells v t filled kind j ≡ points_after shells v t room kind j
    unfolding list_to
    points_ended kind j =
        again (column_to (way_of kind) (point_number v t filled) (worth_of kind (points_in v filled) (marks_in v filled)) j)
        ∙ rw (same_begun.beside.points, same_begun.marks, same_begun.beside.numbers)

    pub triangles_begun : x ≡ 0 → filled ≡ triangles_after shells v t filled 0
    triangles_begun is =
        e
        ∙ sym (again (λ n. x))
        ∙ ap (λ y. sets filled (column_at v t) (list_to shells (λ n. y))) is
        ∙ sym (none_put Count (triangle_number v t filled) (λ i. 0) filled (column_at v t) shells)

    pub triangles_ended : (k : ℕ) → triangles_after shells v t filled k ≡ triangles_after shells v t room k
    unfolding list_to
    triangles_ended k = again (column_to Count (triangle_number v t filled) (λ i. 0) k) ∙ rw (same_begun.beside.triangles, same_begun.beside.numbers)

  module _ (kind j : ℕ) (small : j < v) where
    same : SameMesh v t room (points_after shells v t room kind j)
    same = column_beside shells v t room S (column_to (way_of kind) (point_number v t room) (worth_of kind (points_in v room) (marks_in v room)) j)

    pub point_turn : PointTurn v t kind (way_of kind) (points_after shells v t room kind j) j
    point_turn =
        let mesh = mesh_passed shells v t room S in
        let n = point_small shells v t room S j small in
        record {
          whole = same.beside.long ∙ S.whole;
          few = omega (arith, many_points v t room S.whole, mesh.few);
          small = small;
          numbered = rw same.beside.numbers (omega (arith, n, few_shells shells v t room stand));
          fits =
              rw (same.beside.points, same.marks, same.beside.numbers, put_here (way_of kind) (point_number v t room) (worth_of kind (points_in v room) (marks_in v room)) room (column_at v t) shells (shells_inside shells v t room S) j n)
              (column_fits (way_of kind) (point_number v t room) (worth_of kind (points_in v room) (marks_in v room)) (words kind) (j + 1) (point_number v t room j) (omega (arith, many_points v t room S.whole, mesh.few)));
        }

    pub point_put : {way : Way} {now after : List ℕ} → way ≡ way_of kind → now ≡ points_after shells v t room kind j
        → after ≡ put_at way (column_at v t + point_number v t now j) (worth_of kind (points_in v now) (marks_in v now) j) now → after ≡ points_after shells v t room kind (j + 1)
    point_put is_way is-now is-after =
        rw (is-after, is_way, is-now, same.beside.points, same.marks, same.beside.numbers)
        (more_put (way_of kind) (point_number v t room) (worth_of kind (points_in v room) (marks_in v room)) room (column_at v t) shells (shells_inside shells v t room S) j (point_small shells v t room S j small))

  module _ (k : ℕ) (small : k < t) where
    same_shells : SameShells v t room (triangles_after shells v t room k)
    same_shells = (column_beside shells v t room S (column_to Count (triangle_number v t room) (λ i. 0) k)).beside

    pub triangle_turn : TriangleTurn v t (triangles_after shells v t room k) k
    triangle_turn =
        let n = triangle_small shells v t room stand k small in
        record {
          whole = same_shells.long ∙ S.whole;
          small = small;
          named = rw same_shells.triangles (corner_small shells v t room stand k small);
          numbered = rw (same_shells.triangles, same_shells.numbers) (omega (arith, n, few_shells shells v t room stand));
          fits =
              rw (same_shells.triangles, same_shells.numbers, had Count (triangle_number v t room) (λ i. 0) room (column_at v t) shells (shells_inside shells v t room S) k n)
              (omega (arith, count_small (triangle_number v t room) (λ i. 0) k (triangle_number v t room k), stand.few));
        }

    pub triangle_put : {now after : List ℕ} → now ≡ triangles_after shells v t room k → after ≡ put_at Count (column_at v t + triangle_number v t now k) 0 now
        → after ≡ triangles_after shells v t room (k + 1)
    triangle_put is-now is-after =
        rw (is-after, is-now, same_shells.triangles, same_shells.numbers)
        (more_put Count (triangle_number v t room) (λ i. 0) room (column_at v t) shells (shells_inside shells v t room S) k (triangle_small shells v t room stand k small))
