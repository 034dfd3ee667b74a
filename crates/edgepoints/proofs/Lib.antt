-- A sample's coordinates and the marks of its edges' points; a point written.
pub mod Marks
pub mod Placed
