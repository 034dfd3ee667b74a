-- Blocks as the code has them; what is found in a block is what is found in its halves.
pub mod Blocks
pub mod Marks
pub mod Looks
