-- The lines of a mesh's points and triangles.
pub mod MeshLines
