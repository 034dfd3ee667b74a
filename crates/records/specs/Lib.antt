-- A shell's record (document 01, "Shells"): from its points and its triangles, and as it grows.
pub mod Record
pub mod Grown
