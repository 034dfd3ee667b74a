-- Reading order: the greatest numbers of a small grid, which size the rooms; what is printed of a mesh; a small mesh; its shells listed and its text written.
pub mod Sizes
pub mod Prints
pub mod SmallMesh
pub mod Listed
