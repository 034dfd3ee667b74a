-- How the work room comes to hold the lists, step by step.
pub mod Counted
pub mod Sized
pub mod Begun
pub mod Filled
pub mod Corners
pub mod Kept
pub mod Listing
pub mod Summed
