-- The rows of a grid as masks, while a walk passes their samples.
pub mod Rows
