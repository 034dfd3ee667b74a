-- What the functions' proofs cite: rows that are filled; differences that are gathered.
pub mod Filled
