-- What the functions' proofs cite: where levels start; eight numbers by fours; rows of cubes and of other blocks; a level row by row, and all levels.
pub mod Starts
pub mod Eight
pub mod Cubes
pub mod Halved
pub mod Levels
pub mod From
