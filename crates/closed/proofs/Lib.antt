-- Law, Numbered, Pattern, Cells and Rim: from the law of cells to the balance between points, for cubes cut by any mode that shows what it owes. Shared and OneCell: two cubes with
-- a common side of a triangle are one cube. Cubes and CubesOnce: document 01's mode shows what is owed. Balance and Once: the mesh that a mode defines. Triangles: sides and triangles
-- are as many. Granted, Promised and Passes: what the extractor left in the lent rooms. Shell: when a set of points has closed triangles. Listed: a granted list. Here: a mesh
-- extracted here, smoothed here or not. Plain: the same for document 01's cubes. Slit and OneCube: examples.
pub mod Law
pub mod Numbered
pub mod Pattern
pub mod Cells
pub mod Shared
pub mod OneCell
pub mod Rim
pub mod Cubes
pub mod CubesOnce
pub mod Balance
pub mod Once
pub mod Triangles
pub mod Granted
pub mod Promised
pub mod Passes
pub mod Shell
pub mod Listed
pub mod Here
pub mod Plain
pub mod Slit
pub mod OneCube
