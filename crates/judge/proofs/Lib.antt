-- What is decided of the shells; how each step before them ends.
pub mod Shells
pub mod Steps
