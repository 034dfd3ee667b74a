-- Reading a mesh back (document 02 (iii)): the four kinds of line; the lines of a whole text and the mesh that they say; what a call leaves behind; the meshes whose text is taken.
pub mod Lines
pub mod Mesh
pub mod Promise
pub mod Own
