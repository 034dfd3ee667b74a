-- The summary of the samples, and the steps of a query.
pub mod Blocks
pub mod Levels
pub mod Steps
pub mod Crossed
