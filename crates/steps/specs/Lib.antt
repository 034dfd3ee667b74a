-- What the steps leave in the words of found cubes.
pub mod Looks
