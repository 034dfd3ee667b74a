-- How large the whole numbers of a triangle are; whole numbers as binary64 numbers; the ways to the shares.
pub mod Bounds
pub mod Floats
pub mod Ways
