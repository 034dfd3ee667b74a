-- What the rooms hold of each point after a store, and what a triangle adds to its sums.
pub mod Stored
pub mod Summed
