-- What the functions' proofs cite: a case's corners in the table; what is written; the edges of a cube as grid edges; a layer written; the whole grid written.
pub mod Table
pub mod Names
pub mod Edges
pub mod Layers
pub mod Named
