-- The refusals by their numbers (document 01, "Numbers that refuse", and document 02), and what an answer says as numbers.
use Rattle.std.specs.Prelude.{ℕ, Result, Ok, Err}
use Rattle.std.specs.Result.{result_unwrap_or}
use Rattle.grid.specs.declared.refusal.Refusal.{Refusal}
use Rattle.grid.specs.declared.refusal.Refusal.TheVariants.{Side, Samples, Room, Points, Triangles, Lengths, Corners, Coordinates, Marks, Smoothing, Shells, GridLine, Small, Beyond, MeshLine, OtherShells, Layer, Closing, Summary}

-- the numbers of document 02 that are larger: for shells that are not the mesh's, for a layer of wrong length or one too many, for closing early or a second time, and for a lent summary that is not that of
-- the samples
abbrev pub shells_differ : ℕ
shells_differ = 16

abbrev pub layer_amiss : ℕ
layer_amiss = 17

abbrev pub closed_early : ℕ
closed_early = 18

abbrev pub no_summary : ℕ
no_summary = 19

abbrev pub number_of : Refusal → ℕ
number_of Side = 1
number_of Samples = 2
number_of Room = 3
number_of Points = 4
number_of Triangles = 5
number_of Lengths = 6
number_of Corners = 7
number_of Coordinates = 8
number_of Marks = 9
number_of Smoothing = 10
number_of Shells = 11
number_of (GridLine at) = 12
number_of Small = 13
number_of Beyond = 14
number_of (MeshLine at) = 15
number_of OtherShells = shells_differ
number_of Layer = layer_amiss
number_of Closing = closed_early
number_of Summary = no_summary

-- the malformed line of a grid's text, and that of a mesh's text, which a refusal names; 0 where it names none
abbrev pub grid_line : Refusal → ℕ
grid_line (GridLine at) = at
grid_line other = 0

abbrev pub mesh_line : Refusal → ℕ
mesh_line (MeshLine at) = at
mesh_line other = 0

-- an answer's number: 0 if granted
abbrev pub told : {A : Type 0} → Result A Refusal → ℕ
told (Ok a) = 0
told (Err e) = number_of e

-- what is answered if granted, else what stands for nothing
abbrev pub granted_or : {A : Type 0} → A → Result A Refusal → A
granted_or none r = result_unwrap_or r none

-- the line that an answer names
abbrev pub told_line : {A : Type 0} → Result A Refusal → ℕ
told_line (Ok a) = 0
told_line (Err e) = mesh_line e
