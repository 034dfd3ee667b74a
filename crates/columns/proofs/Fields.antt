-- What a column holds once all points, or all triangles, are put into it: that field of each shell's record.
use mathlib.Core.Path.{◌≡◌, refl, ap, sym, ◌∙◌}
use mathlib.Core.List.{List, [], ◌∷◌, foldl}
use mathlib.Core.Bool.{Bool, true, false, ◌||◌}
use Prim.Native.Nat.{ℕ, zero, suc, ◌-◌, ◌<◌, ◌≤◌, ◌^◌, min, max}
use native.Mathlib.Omega.{arith}
use lib.Dec.{eqb}
use lib.ListN.{length, get_or}
use lib.Seq.{sets}
use borrow.Author.Tests.{eq-eqb, eqb-true}
use Rattle.laws.specs.Range.{keep_to, one_if}
use Rattle.laws.specs.Values.{list_to}
use Rattle.laws.specs.Least.{gathered, least_of}
use Rattle.laws.proofs.Ranges.{keep_cong}
use Rattle.laws.proofs.Values.{list_cong}
use Rattle.laws.proofs.Keep.{length_keep, rank_lt, kept_at}
use Rattle.laws.proofs.Least.{least_le, least_met}
use Rattle.mesh.specs.Mesh.{triangle_count, triangle_at, triangles_of}
use Rattle.mesh.specs.Check.{mesh_number}
use Rattle.mesh.specs.Place.{place_of, Near}
use Rattle.mesh.proofs.Places.{near_place, within_any}
use Rattle.mesh.proofs.Passed.{Passed, passed}
use Rattle.shellnumbers.specs.Numbering.{number_of, Numbering}
use Rattle.records.specs.declared.Shell.{Shell}
use Rattle.records.specs.Record.{any_of, points_under, names_under, triangles_under, record_from, record_of}
use Rattle.records.proofs.OneNumber.{one_number}
use Rattle.records.proofs.Lows.{by_lowest}
use Rattle.columns.specs.declared.ways.Way.TheVariants.{Count}
use Rattle.columns.specs.Room.{column_at, points_in, marks_in, triangles_in, numbers_in, StandsIn, point_number, triangle_number, record_in}
use Rattle.columns.specs.Columns.{field_of, way_of, worth_of, column_to}
use Rattle.columns.proofs.Gathering.{counted}
use Rattle.columns.proofs.Rooms.{many_points, many_triangles, marks_numbered}

-- the last field
pub last_field : (kind : ℕ) (s : Shell) → 8 < kind → s.triangles ≡ field_of kind s
last_field kind s l =
    let e : kind ≡ suc (suc (suc (suc (suc (suc (suc (suc (suc (kind - 9))))))))) = omega arith in
    rw e

-- from a start that the first element replaces
fold_first : (op : ℕ → ℕ → ℕ) (v : ℕ → ℕ) (start : ℕ) (xs : List ℕ) → 0 < length xs → op start (v (get_or xs 0 0)) ≡ v (get_or xs 0 0)
    → foldl (λ had x. op had (v x)) start xs ≡ gathered op v xs
unfolding gathered
fold_first op v start [] l first = absurd (omega arith)
fold_first op v start (x ∷ xs) l first = ap (λ s. foldl (λ had y. op had (v y)) s xs) first

-- the greatest of numbers that are 0 or 1: is one of them 1
fold_any : (v : ℕ → ℕ) → ((x : ℕ) → v x ≤ 1) → (b : Bool) (xs : List ℕ) → foldl (λ had x. max had (v x)) (one_if b) xs ≡ one_if (b || any_of (λ x. eqb (v x) 1) xs)
unfolding any_of
fold_any v small true [] = refl
fold_any v small false [] = refl
fold_any v small b (x ∷ xs) =
    ap (λ s. foldl (λ had y. max had (v y)) s xs) (greater b (v x) (small x))
    ∙ fold_any v small (b || eqb (v x) 1) xs
    ∙ ap one_if (or_on b (eqb (v x) 1) (any_of (λ y. eqb (v y) 1) xs))
  where
    or_on : (a c d : Bool) → ((a || c) || d) ≡ (a || (c || d))
    or_on true c d = refl
    or_on false c d = refl

    greater : (a : Bool) (m : ℕ) → m ≤ 1 → max (one_if a) m ≡ one_if (a || eqb m 1)
    greater true zero l = refl
    greater true (suc zero) l = refl
    greater true (suc (suc m)) l = absurd (omega arith)
    greater false zero l = refl
    greater false (suc zero) l = refl
    greater false (suc (suc m)) l = absurd (omega arith)

module _ (points triangles marks numbers : List ℕ) (shells : ℕ) (passes : mesh_number points triangles marks ≡ 0)
    (N : Numbering (triangles_of triangles) (length marks) numbers shells) (n : ℕ) (l : n < shells) where
  mesh : Passed points triangles marks
  mesh = passed points triangles marks passes

  near : (p : ℕ) → Near (place_of points p)
  near = near_place points mesh.coordinates_fit

  -- the points of shell n, of which there are some
  abbrev own : List ℕ
  own = keep_to (length marks) (λ p. eqb (number_of numbers p) n)

  some : 0 < length own
  some =
      let has : ℕ → Bool = λ p. eqb (number_of numbers p) n in
      let u = N.used n l in
      omega (arith, length_keep (length marks) has, rank_lt (length marks) u.point has u.small (eq-eqb _ _ u.number))

  -- they stand in rising order, so that the first is the least
  low_is : least_of (λ p. p) own ≡ get_or own 0 0
  unfolding record_from points_under
  low_is =
      let has : ℕ → Bool = λ p. eqb (number_of numbers p) n in
      let met = least_met (λ p. p) 0 own some in
      let r = kept_at (length marks) met.place has (omega (arith, met.small, length_keep (length marks) has)) in
      let b = by_lowest points triangles marks numbers shells N n l in
      omega (arith, least_le (λ p. p) 0 own 0 some, met.worth, b.lowest (get_or own met.place 0) r.small (eqb-true _ _ r.passes ∙ sym b.number))

  low_small : get_or own 0 0 < length marks
  unfolding record_from points_under
  low_small = (by_lowest points triangles marks numbers shells N n l).small

  least : (v : ℕ → ℕ) → v (get_or own 0 0) < 2 ^ 32 → foldl (λ had p. min had (v p)) (2 ^ 32 - 1) own ≡ gathered min v own
  least v small = fold_first min v (2 ^ 32 - 1) own some (omega arith)

  greatest : (v : ℕ → ℕ) → foldl (λ had p. max had (v p)) 0 own ≡ gathered max v own
  greatest v = fold_first max v 0 own some (omega arith)

  pub points_column : (kind : ℕ) → kind < 9
      → column_to (way_of kind) (number_of numbers) (worth_of kind points marks) (length marks) n ≡ field_of kind (record_of points triangles marks numbers n)
  unfolding worth_of record_from points_under
  points_column zero k = least (λ p. p) (omega (arith, low_small, mesh.few)) ∙ low_is
  points_column (suc zero) k = counted 0 own ∙ omega arith
  points_column (suc (suc zero)) k = fold_any (λ p. get_or marks p 0) (λ p. within_any 1 marks p mesh.marks_fit) false own
  points_column (suc (suc (suc zero))) k = least (λ p. (place_of points p).x) (omega (arith, (near (get_or own 0 0)).x))
  points_column (suc (suc (suc (suc zero)))) k = greatest (λ p. (place_of points p).x)
  points_column (suc (suc (suc (suc (suc zero))))) k = least (λ p. (place_of points p).y) (omega (arith, (near (get_or own 0 0)).y))
  points_column (suc (suc (suc (suc (suc (suc zero)))))) k = greatest (λ p. (place_of points p).y)
  points_column (suc (suc (suc (suc (suc (suc (suc zero))))))) k = least (λ p. (place_of points p).z) (omega (arith, (near (get_or own 0 0)).z))
  points_column (suc (suc (suc (suc (suc (suc (suc (suc zero)))))))) k = greatest (λ p. (place_of points p).z)
  points_column (suc (suc (suc (suc (suc (suc (suc (suc (suc kind))))))))) k = absurd (omega arith)

  pub triangles_column : (worth : ℕ → ℕ)
      → column_to Count (λ k. number_of numbers (triangle_at triangles k).one) worth (triangle_count triangles) n ≡ (record_of points triangles marks numbers n).triangles
  unfolding record_from triangles_under
  triangles_column worth =
      let by_first : ℕ → Bool = λ k. eqb (number_of numbers (triangle_at triangles k).one) n in
      let named : ℕ → Bool = λ k. names_under numbers n (triangle_at triangles k) in
      counted 0 (keep_to (triangle_count triangles) by_first)
      ∙ omega (arith, ap length (keep_cong (triangle_count triangles) by_first named (λ k lk. sym (one_number triangles numbers (length marks) shells mesh.corners_fit N n k lk))))

-- the work room with the column of all points, or of all triangles
module _ (shells v t : ℕ) (room : List ℕ) (S : StandsIn shells v t room) (kind : ℕ) where
  abbrev filled : List ℕ
  filled = sets room (column_at v t) (list_to shells (λ n. field_of kind (record_in v t room n)))

  pub points_fields : {after : List ℕ} → kind < 9
      → after ≡ sets room (column_at v t) (list_to shells (column_to (way_of kind) (point_number v t room) (worth_of kind (points_in v room) (marks_in v room)) v)) → after ≡ filled
  points_fields few is =
      is
      ∙ ap (sets room (column_at v t)) (list_cong shells _ _
      (λ n l. ap (λ m. column_to (way_of kind) (point_number v t room) (worth_of kind (points_in v room) (marks_in v room)) m n) (sym (many_points v t room S.whole))
      ∙ points_column (points_in v room) (triangles_in v t room) (marks_in v room) (numbers_in v t room) shells S.passes (marks_numbered shells v t room S) n l kind few))

  pub triangles_fields : {after : List ℕ} → 8 < kind → after ≡ sets room (column_at v t) (list_to shells (column_to Count (triangle_number v t room) (λ k. 0) t)) → after ≡ filled
  triangles_fields last is =
      is
      ∙ ap (sets room (column_at v t)) (list_cong shells _ _
      (λ n l. ap (λ m. column_to Count (triangle_number v t room) (λ k. 0) m n) (sym (many_triangles v t room S.whole))
      ∙ triangles_column (points_in v room) (triangles_in v t room) (marks_in v room) (numbers_in v t room) shells S.passes (marks_numbered shells v t room S) n l (λ k. 0)
      ∙ last_field kind (record_in v t room n) last))
