-- Cubes by the words of the samples around them, and their triangles, counted.
pub mod Cubes
