-- A column: one field of the records of all shells, a number a shell (document 02 (iii)).
use mathlib.Core.List.{List, foldl}
use Rattle.std.specs.Prelude.{cond, ℕ, zero, suc, ◌+◌, ◌-◌, ◌^◌, min, max, eqb, ltb, get_or, set}
use Rattle.laws.specs.Range.{keep_to}
use Rattle.mesh.specs.Place.{place_of}
use Rattle.records.specs.declared.Shell.{Shell}
use Rattle.columns.specs.declared.field.Field.{Field}
use Rattle.columns.specs.declared.field.Field.TheVariants.{Low, Points, Touches, LeastX, GreatestX, LeastY, GreatestY, LeastZ, GreatestZ, Triangles}
use Rattle.columns.specs.declared.ways.Way.{Way}
use Rattle.columns.specs.declared.ways.Way.TheVariants.{Least, Greatest, Count}

-- the fields by number: lowest point, points, touches, then the box in the order of an `S` line, and triangles
abbrev pub field_of : ℕ → Shell → ℕ
field_of zero s = s.low
field_of (suc zero) s = s.points
field_of (suc (suc zero)) s = s.touches
field_of (suc (suc (suc zero))) s = s.least_x
field_of (suc (suc (suc (suc zero)))) s = s.greatest_x
field_of (suc (suc (suc (suc (suc zero))))) s = s.least_y
field_of (suc (suc (suc (suc (suc (suc zero)))))) s = s.greatest_y
field_of (suc (suc (suc (suc (suc (suc (suc zero))))))) s = s.least_z
field_of (suc (suc (suc (suc (suc (suc (suc (suc zero)))))))) s = s.greatest_z
field_of (suc (suc (suc (suc (suc (suc (suc (suc (suc k))))))))) s = s.triangles

-- the number of a field
abbrev pub kind_of : Field → ℕ
kind_of Low = 0
kind_of Points = 1
kind_of Touches = 2
kind_of LeastX = 3
kind_of GreatestX = 4
kind_of LeastY = 5
kind_of GreatestY = 6
kind_of LeastZ = 7
kind_of GreatestZ = 8
kind_of Triangles = 9

-- how each is put together
abbrev pub way_of : ℕ → Way
way_of zero = Least
way_of (suc zero) = Count
way_of (suc (suc zero)) = Greatest
way_of (suc (suc (suc zero))) = Least
way_of (suc (suc (suc (suc zero)))) = Greatest
way_of (suc (suc (suc (suc (suc zero))))) = Least
way_of (suc (suc (suc (suc (suc (suc zero)))))) = Greatest
way_of (suc (suc (suc (suc (suc (suc (suc zero))))))) = Least
way_of (suc (suc (suc (suc (suc (suc (suc (suc zero)))))))) = Greatest
way_of (suc (suc (suc (suc (suc (suc (suc (suc (suc k))))))))) = Count

-- what point i brings: its number, its mark or a coordinate; a count does not look at it
unfoldable pub worth_of : ℕ → List ℕ → List ℕ → ℕ → ℕ
worth_of kind points marks i =
    let at = place_of points i in
    cond (eqb kind 0) i (cond (eqb kind 2) (get_or marks i 0) (cond (ltb kind 5) at.x (cond (ltb kind 7) at.y at.z)))

-- what a column has at first: the largest word, so that the least of it and another word is the other; else 0
abbrev pub start_by : Way → ℕ
start_by Least = 2 ^ 32 - 1
start_by Greatest = 0
start_by Count = 0

-- what one more makes of it, by what it brings
abbrev pub put_by : Way → ℕ → ℕ → ℕ
put_by Least had x = min had x
put_by Greatest had x = max had x
put_by Count had x = had + 1

-- the same of a number in a room
abbrev pub put_at : Way → ℕ → ℕ → List ℕ → List ℕ
put_at way at x work = set work at (put_by way (get_or work at 0) x)

-- what is gathered under number n of the first j things, each of which has a number: put together one after the other
abbrev pub gathered_to : {A : Type 0} → (ℕ → ℕ) → (A → ℕ → A) → A → ℕ → ℕ → A
gathered_to number_at put start j n = foldl put start (keep_to j (λ i. eqb (number_at i) n))

-- a column of the first j things, each of which has a number and brings something
abbrev pub column_to : Way → (ℕ → ℕ) → (ℕ → ℕ) → ℕ → ℕ → ℕ
column_to way number_at worth = gathered_to number_at (λ had i. put_by way had (worth i)) (start_by way)
