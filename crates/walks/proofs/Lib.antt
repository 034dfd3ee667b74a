-- A loop that counts its turns up to a number, and a number tested for 0.
pub mod Counting
pub mod Tested
