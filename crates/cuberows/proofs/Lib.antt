-- What the functions' proofs cite: cases; busy cubes; layers, stretch by stretch; words of found cubes.
pub mod Cases
pub mod Busy
pub mod Layers
pub mod Found
