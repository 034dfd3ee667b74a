-- The text of a mesh (document 01, "The program for small grids", output). After that, what the parts of the writer say of each other.
pub mod MeshText
pub mod Front
