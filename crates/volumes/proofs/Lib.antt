-- Two words a shell in the work room; triangles in the work room; the volumes of the triangles so far.
pub mod Words
pub mod Triangles
pub mod Volumes
