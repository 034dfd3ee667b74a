-- A mesh as its lists say it, what a caller's mesh must pass (document 01, "Numbers that refuse", 6 to 9), neighbours, and where a point stands.
pub mod Mesh
pub mod Check
pub mod Promise
pub mod Neighbours
pub mod Place
